use Rattle.std.proofs.Common.{◌≡◌, ◌<◌, ◌^◌, ◌∙◌, ℕ, Option, Some, ap, arith, drop, refl, subst, sym}
use Rattle.aegis_pages.specs.declared.layout.TheConstants.{HEADER_NUMBER}
use Rattle.aegis_pages.specs.Layouts.{header_plaintext, OpensAt, inner}
use Rattle.aegis_pages.proofs.SealedFacts.{one_number, one_contents, read_contents}
use Rattle.aegis_pages.proofs.header.open_header.Goals as goal

pub returns-then-len-gt-MAX_CONTENTS_BYTES-clause-found : goal.returns-then-len-gt-MAX_CONTENTS_BYTES-clause-found
returns-then-len-gt-MAX_CONTENTS_BYTES-clause-found g c = λ counter len countable within opens.
    let contents : inner c.args.layout.now c.open_page_at.new.sealed ≡ header_plaintext c.number_of-counter.result c.number_of-len.result =
    read_contents c.args.layout.now c.nonce_bytes.result c.number_of-counter.result c.number_of-len.result c.open_page_at.new.sealed _ c.nonce_bytes.ensures.value
    (c.open_page_at.auto.sealed ∙ c.requires) refl c.number_of-counter.ensures c.number_of-len.ensures in
    let same : header_plaintext c.number_of-counter.result c.number_of-len.result ≡ header_plaintext counter len =
    sym contents ∙ (c.if-not-open_page_at.ensures.only (header_plaintext counter len) opens).1 in
    let limit : len < 2 ^ 64 = omega (arith, within) in
    let one : c.number_of-len.result ≡ len = one_number c.number_of-len.result len (ap (drop 8) same) c.number_of-len.type_inv limit in
    absurd (omega (arith, one, within, c.if-len-gt-MAX_CONTENTS_BYTES.true))

pub returns-clause-opened : goal.returns-clause-opened
returns-clause-opened g c =
    let contents : inner c.args.layout.now c.open_page_at.new.sealed ≡ header_plaintext c.number_of-counter.result c.number_of-len.result =
    read_contents c.args.layout.now c.nonce_bytes.result c.number_of-counter.result c.number_of-len.result c.open_page_at.new.sealed _ c.nonce_bytes.ensures.value
    (c.open_page_at.auto.sealed ∙ c.requires) refl c.number_of-counter.ensures c.number_of-len.ensures in
    subst (OpensAt c.args.layout.now HEADER_NUMBER c.args.sealed.now) contents (c.if-not-open_page_at.ensures.opened refl)

pub returns-clause-found : goal.returns-clause-found
returns-clause-found g c = λ counter len countable within opens.
    let contents : inner c.args.layout.now c.open_page_at.new.sealed ≡ header_plaintext c.number_of-counter.result c.number_of-len.result =
    read_contents c.args.layout.now c.nonce_bytes.result c.number_of-counter.result c.number_of-len.result c.open_page_at.new.sealed _ c.nonce_bytes.ensures.value
    (c.open_page_at.auto.sealed ∙ c.requires) refl c.number_of-counter.ensures c.number_of-len.ensures in
    let same : header_plaintext c.number_of-counter.result c.number_of-len.result ≡ header_plaintext counter len =
    sym contents ∙ (c.if-not-open_page_at.ensures.only (header_plaintext counter len) opens).1 in
    let one = one_contents c.number_of-counter.result c.number_of-len.result counter len same c.number_of-counter.type_inv countable c.if-len-gt-MAX_CONTENTS_BYTES.false within in
    let pair : ℕ → ℕ → Option (ℕ × ℕ) = λ x y. Some (x, y) in
    ap (λ (x : ℕ). pair x c.number_of-len.result) one.0 ∙ ap (pair counter) one.1
