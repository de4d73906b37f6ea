use Rattle.std.proofs.Common.{◌≡◌, ◌∙◌, ap, subst, sym}
use Rattle.std.proofs.lemmas.Slice.Eq.{bytes_eq-Decides}
use Rattle.aegis_pages.specs.Layouts.{IsPageSize, Layout}
use Rattle.aegis_pages.proofs.SealedFacts.{plaintext_same, named_id_cut, read_size}
use Rattle.aegis_pages.proofs.layout.FileLayout.read.Goals as goal

pub returns-then-not-is_page_size-clause-found : goal.returns-then-not-is_page_size-clause-found
returns-then-not-is_page_size-clause-found g c = λ layout variant size is.
    let same : c.from_le_bytes-page_bytes.result ≡ layout.page_bytes =
    read_size layout c.args.plaintext.now c.copy_from_slice.new.self c.from_le_bytes-page_bytes.result is c.copy_from_slice.ensures.after c.from_le_bytes-page_bytes.ensures size in
    c.if-not-is_page_size.ensures.1 (subst IsPageSize (sym same) size)

pub returns-else-eq-clause-found : goal.returns-else-eq-clause-found
returns-else-eq-clause-found g c = λ layout variant size is.
    let made = c.new-layout.ensures in
    let same_size : c.from_le_bytes-page_bytes.result ≡ layout.page_bytes =
    read_size layout c.args.plaintext.now c.copy_from_slice.new.self c.from_le_bytes-page_bytes.result is c.copy_from_slice.ensures.after c.from_le_bytes-page_bytes.ensures size in
    let same : c.plaintext_header.result ≡ c.args.plaintext.now =
    c.plaintext_header.ensures.plaintext ∙ plaintext_same c.new-layout.result layout (ap (λ (l : Layout). l.variant) made ∙ sym variant) (ap (λ (l : Layout). l.page_bytes) made ∙ same_size)
    (ap (λ (l : Layout). l.id) made ∙ c.copy_from_slice-2.ensures.after ∙ named_id_cut layout c.args.plaintext.now is) ∙ sym is in
    c.if-eq.ensures ∙ (bytes_eq-Decides c.plaintext_header.result c.args.plaintext.now).1 same
