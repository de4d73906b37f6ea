use Rattle.std.proofs.Common.{◌≡◌, ◌≤◌, ◌+◌, ◌∙◌, ℕ, IfErr, ap, arith, if◌then◌else◌, is_ok, length, max, min, subst}
use Rattle.aegis_pages.specs.OpenFile.{HasContents, KeepsOthers, OpenFile, contents_at}
use Rattle.aegis_pages.specs.Commits.{IsWriteRefusal}
use Rattle.aegis_storage.proofs.Disks.{on_ok_map}
use Rattle.aegis_pages.proofs.OpenFileFacts.{cut, grown, has_len}
use Rattle.aegis_pages.proofs.pages.Pages.set_len.Goals as goal

pub returns-then-len-self-clause-resized : goal.returns-then-len-self-clause-resized
unfolding HasContents
returns-then-len-self-clause-resized g c =
    let told : c.self.inside.len ≡ c.args.self.now.len = ap (λ (f : OpenFile). f.len) c.self.view_is in
    on_ok_map c.write_at.result (λ written contents has.
    subst (HasContents c.write_at.new.self)
    (grown contents c.args.len (let h : length contents ≤ c.args.len = omega (arith, c.if-len-self.true, told, has_len _ _ _ _ _ _ _ _ has) in h)) (written contents has)) c.write_at.ensures.written

pub returns-clause-resized : goal.returns-clause-resized
unfolding HasContents
returns-clause-resized g c = rw (← c.self.view_is) (λ contents has. cut _ _ _ _ _ _ _ contents _ c.if-len-self.false has)

pub returns-then-len-self-clause-len : goal.returns-then-len-self-clause-len
returns-then-len-self-clause-len g c =
    let told : c.self.inside.len ≡ c.args.self.now.len = ap (λ (f : OpenFile). f.len) c.self.view_is in
    let most : max c.args.self.now.len (c.args.len + 0) ≡ c.args.len = omega (arith, told, c.if-len-self.true) in
    c.write_at.ensures.len ∙ ap (λ (n : ℕ). if is_ok c.write_at.result then n else c.args.self.now.len) most

pub returns-then-len-self-clause-others : goal.returns-then-len-self-clause-others
returns-then-len-self-clause-others g c =
    let same : c.args.len + 0 ≡ c.args.len = omega arith in
    subst (λ (n : ℕ). KeepsOthers c.args.self.now.layout.page_bytes (min c.args.len c.args.self.now.len) n (contents_at c.args.self.now.changes) (contents_at c.write_at.new.self.changes)) same
    c.write_at.ensures.others

pub returns-then-len-self-clause-refused : goal.returns-then-len-self-clause-refused
returns-then-len-self-clause-refused g c =
    let same : c.args.len + 0 ≡ c.args.len = omega arith in
    subst (λ (n : ℕ). IfErr c.write_at.result (IsWriteRefusal c.args.self.now.broken c.args.self.now.layout (contents_at c.args.self.now.changes) c.args.self.now.len n c.args.self.now.bytes)) same
    c.write_at.ensures.refused
