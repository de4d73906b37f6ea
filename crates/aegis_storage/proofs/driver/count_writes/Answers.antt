use Rattle.std.proofs.Common.{◌∷◌, ◌++◌, ◌∙◌, [], List, ap, arith, length, refl, sym, tests, ℕ}
use Rattle.std.proofs.lemmas.List.{length-append}
use Rattle.aegis_storage.proofs.Journals.{all_writes, entries_found, no_writes, within_more}
use Rattle.aegis_storage.proofs.driver.count_writes.Goals as goal

pub writes-init : goal.writes-init
writes-init c = ([], tt, refl, refl, omega arith)

pub overflow_add-number : goal.overflow_add-number
overflow_add-number c = let few = c.writes.invariant.4 in omega (arith, few)

pub writes-preserved : goal.writes-preserved
writes-preserved c =
    let before = c.writes.invariant in let write : ℕ × List ℕ = (c.in-Some._place, c.in-Some._bytes.now) in
    let counted = before.3 in
    let few = before.4 in
    let long = ap length c.in-Some.ensures.some in (
      before.0 ++ write ∷ [],
      within_more before.0 write before.1 c.in-Some.ensures.within,
      entries_found before.0 write c.writes.rest.now _ _ c.in-Some.ensures.some before.2,
      omega (arith, counted, length-append before.0 (write ∷ [])),
      omega (arith, few, long, length-append c.in-Some._bytes.now c.in-Some.after.now),
    )

pub returns-in_default-clause-counted : goal.returns-in_default-clause-counted
returns-in_default-clause-counted c found within same =
    let before = c.writes.invariant in
    absurd (no_writes before.0 c.writes.rest.now found (grind (arith, tests)) c.in_default.ensures.none before.1 within (before.2 ∙ same))

pub returns-in_default-clause-few : goal.returns-in_default-clause-few
returns-in_default-clause-few c = let few = c.writes.invariant.4 in omega (arith, few)

pub returns-clause-counted : goal.returns-clause-counted
returns-clause-counted c found within same =
    let before = c.writes.invariant in before.3 ∙ ap length (sym (all_writes before.0 found c.writes.rest.now (grind (arith, tests)) before.1 within (before.2 ∙ same)))

pub returns-clause-few : goal.returns-clause-few
returns-clause-few c = let few = c.writes.invariant.4 in omega (arith, few)
