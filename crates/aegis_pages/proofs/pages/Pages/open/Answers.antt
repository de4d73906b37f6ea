use Rattle.std.proofs.Common.{◌+◌, ◌∙◌, ◌⊎◌, Err, false, IfSome, List, ap, inl, inr, subst, sym, ℕ}
use Rattle.std.proofs.lemmas.Result.{err_from_is_err_and}
use Rattle.aegis_pages.specs.Layouts.{Layout, layout_of}
use Rattle.aegis_pages.specs.OpenFile.{Has, HasContents, IsFileOf, IsKnown, OpensAtOne}
use Rattle.aegis_pages.proofs.AcceptFacts.{own_is_made}
use Rattle.aegis_pages.proofs.KnownFacts.{only_error}
use Rattle.aegis_pages.proofs.RecoveryFacts.{committed_batch, opens_at_one, opens_held}
use Rattle.aegis_pages.proofs.pages.Pages.open.Goals as goal

either : {A : Type 0} → A ⊎ A → A
either (inl a) = a
either (inr a) = a

pub invariant_of-result : goal.invariant_of-result
invariant_of-result g c =
    rw c.new-layout.ensures
    (c.in-Ok.ensures ∙ ap (λ (k : ℕ). c.in_ok-header.header.page_bytes + (k + 32)) c.requires, c.new.ensures.size, c.in_ok-header.ensures.header.len, c.in_ok-header.ensures.header.len, g.met.L.LaneState.one_two_or_four)

pub returns-clause-contents : goal.returns-clause-contents
unfolding HasContents
returns-clause-contents g c empty =
    let header = c.in_ok-header.header in
    subst (λ (l : Layout). IfSome (g.S.Storage.bytes c.args.storage) (λ file. (contents : List ℕ) → IsFileOf g.L.LaneState.VARIANT c.args.key.now contents file
    → IsKnown (Has l c.in_ok-header.header.counter c.in_ok-header.header.len c.in_ok-header.header.len c.new.result.entries false contents) (g.S.Storage.bytes c.recover_file.new.storage))) (sym c.new-layout.ensures)
    (opens_held (layout_of g.L.LaneState.VARIANT c.args.key.now header) header.counter header.len c.new.result.entries _ _ g.met.L.LaneState.one_two_or_four c.new.ensures.none
    c.in_ok-header.ensures.header.is (c.in_ok-header.ensures.kept empty))

pub returns-clause-recovered : goal.returns-clause-recovered
returns-clause-recovered g c before now batch made =
    let header = c.in_ok-header.header in
    subst (λ (l : Layout). OpensAtOne (record {
      layout = l;
      counter = c.in_ok-header.header.counter;
      stored = c.in_ok-header.header.len;
      len = c.in_ok-header.header.len;
      changes = c.new.result.entries;
      bytes = g.S.Storage.bytes c.recover_file.new.storage;
      disk = g.S.Storage.disk c.recover_file.new.storage;
      journal = g.J.Storage.disk c.recover_file.new.journal;
      broken = false;
    }) before now) (sym c.new-layout.ensures)
    (opens_at_one (layout_of g.L.LaneState.VARIANT c.args.key.now header) header.counter header.len c.new.result.entries _ _ _ before now g.met.L.LaneState.one_two_or_four c.new.ensures.none
    c.in_ok-header.ensures.header.is (g.met.S.Storage.possible c.recover_file.new.storage) (c.in_ok-header.ensures.rests before now batch made))

pub returns-clause-committed : goal.returns-clause-committed
returns-clause-committed g c contents has =
    let found = committed_batch g.L.LaneState.VARIANT c.args.key.now _ _ (g.J.Storage.bytes c.args.journal) contents (g.met.J.Storage.possible c.args.journal) has in
    either (returns-clause-recovered g c contents contents found.0 (own_is_made _ _ _ _ _ _ (g.S.Storage.bytes c.args.storage) _ found.0 found.1))

pub returns-in_err-header-clause-accepts : goal.returns-in_err-header-clause-accepts
returns-in_err-header-clause-accepts g c left =
    let p = err_from_is_err_and c.from_residual.result c.from_residual.ensures.1 in
    let other = c.in_err-header.ensures.accepts left in
    (only_error _ _ _ (p.1 ∙ ap Err p.2) (λ is. other.0 (ap Err is)), only_error _ _ _ (p.1 ∙ ap Err p.2) (λ is. other.1 (ap Err is)))
