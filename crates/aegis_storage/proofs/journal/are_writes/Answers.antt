use Rattle.std.proofs.Common.{◌∷◌, ◌++◌, ◌∙◌, [], List, arith, refl, tests, ℕ}
use Rattle.aegis_storage.proofs.Journals.{all_done, entries_found, no_writes, within_more}
use Rattle.aegis_storage.proofs.journal.are_writes.Goals as goal

pub writes-init : goal.writes-init
writes-init c = ([], tt, refl)

pub writes-preserved : goal.writes-preserved
writes-preserved c =
    let before = c.writes.invariant in let write : ℕ × List ℕ = (c.in-Some._place, c.in-Some._bytes.now) in
    (before.0 ++ write ∷ [], within_more before.0 write before.1 c.in-Some.ensures.within, entries_found before.0 write c.writes.rest.now _ _ c.in-Some.ensures.some before.2)

pub returns-in_default-clause-none : goal.returns-in_default-clause-none
returns-in_default-clause-none c writes within same =
    let before = c.writes.invariant in
    absurd (no_writes before.0 c.writes.rest.now writes (grind (arith, tests)) c.in_default.ensures.none before.1 within (before.2 ∙ same))

pub returns-clause-some : goal.returns-clause-some
returns-clause-some c _ = let before = c.writes.invariant in (before.0, before.1, all_done before.0 c.writes.rest.now _ (grind (arith, tests)) before.2)
