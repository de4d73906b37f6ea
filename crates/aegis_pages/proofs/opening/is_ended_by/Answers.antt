use Rattle.std.proofs.Common.{◌∷◌, ◌++◌, ◌∙◌, [], List, arith, refl, tests, ℕ}
use Rattle.aegis_storage.proofs.Journals.{all_writes, entries_found, no_writes, within_more}
use Rattle.aegis_pages.proofs.CommitFacts.{ends_more, ends_none, false_is_not}
use Rattle.aegis_pages.proofs.opening.is_ended_by.Goals as goal

pub writes-init : goal.writes-init
writes-init c = ([], tt, refl, (λ no. absurd (false_is_not no), λ ends. absurd (ends_none _ ends)))

pub writes-preserved : goal.writes-preserved
writes-preserved c =
    let before = c.writes.invariant in let write : ℕ × List ℕ = (c.in-Some.place, c.in-Some.bytes.now) in (
      before.0 ++ write ∷ [],
      within_more before.0 write before.1 c.in-Some.ensures.within,
      entries_found before.0 write c.writes.rest.now _ _ c.in-Some.ensures.some before.2,
      ends_more _ before.0 c.in-Some.place c.in-Some.bytes.now _ c.begins_with-begins.ensures,
    )

pub returns-in_default : goal.returns-in_default
returns-in_default c writes within same =
    let before = c.writes.invariant in
    absurd (no_writes before.0 c.writes.rest.now writes (grind (arith, tests)) c.in_default.ensures.none before.1 within (before.2 ∙ same))

pub returns : goal.returns
returns c writes within same =
    let before = c.writes.invariant in rw (all_writes before.0 writes c.writes.rest.now (grind (arith, tests)) before.1 within (before.2 ∙ same)) before.3
