use Rattle.std.proofs.Common.{◌∙◌, ap, arith, length}
use Rattle.std.proofs.lemmas.Result.{err_from_is_err_and}
use Rattle.aegis_pages.specs.OpenFile.{HasContents}
use Rattle.aegis_pages.proofs.OpenFileFacts.{put_back, wrote}
use Rattle.aegis_pages.proofs.pages.Pages.write_at.Goals as goal

pub invariant_of-self : goal.invariant_of-self
invariant_of-self g c =
    let long = put_back c.change_range.new.page c.self.inside.page.bytes.items c.self.inside.page.bytes.len (c.change_range.auto.page ∙ ap length c.deref_mut.ensures.value) c.self.inside.page.bytes.ok.0 in
    (long ∙ c.self.invariant.0, c.change_range.ensures.size ∙ c.self.invariant.1, c.self.invariant.2, c.self.invariant.3, c.self.invariant.4)

pub returns-in_err-change_range-clause-others : goal.returns-in_err-change_range-clause-others
returns-in_err-change_range-clause-others g c = rw (← c.self.view_is) c.change_range.ensures.others

pub returns-in_err-change_range-clause-refused : goal.returns-in_err-change_range-clause-refused
returns-in_err-change_range-clause-refused g c =
    let p = err_from_is_err_and c.from_residual.result c.from_residual.ensures.1 in
    rw (← c.self.view_is) (rw (p.1, p.2) (rw c.if-self.false c.in_err-change_range.ensures.refused))

pub invariant_of-self-2 : goal.invariant_of-self-2
invariant_of-self-2 g c =
    let long = put_back c.change_range.new.page c.self.inside.page.bytes.items c.self.inside.page.bytes.len (c.change_range.auto.page ∙ ap length c.deref_mut.ensures.value) c.self.inside.page.bytes.ok.0 in
    let most = c.self.invariant.2 in
    let end = c.max-self-inside.ensures in
    (long ∙ c.self.invariant.0, c.change_range.ensures.size ∙ c.self.invariant.1, omega (arith, most, end), c.self.invariant.3, c.self.invariant.4)

pub returns-clause-others : goal.returns-clause-others
returns-clause-others g c = rw (← c.self.view_is) c.change_range.ensures.others

pub returns-clause-written : goal.returns-clause-written
unfolding HasContents
returns-clause-written g c = rw (← c.self.view_is) (λ contents has. wrote _ _ _ _ _ _ _ _ _ _ contents _ c.max-self-inside.ensures c.in_ok-change_range.ensures.written has)
