use Rattle.std.proofs.Common.{◌∙◌, ℕ, List, add-one, arith, length, refl, subst, sym, take}
use Rattle.aegis_storage.specs.Private.{IsNext}
use Rattle.aegis_storage.specs.Steps.{steps_of}
use Rattle.aegis_storage.specs.declared.steps.Step.{Step}
use Rattle.aegis_storage.proofs.Stepping.{if_same, is_next, made_in, one_disk, reached_all, reached_first, reached_more, reached_written, recovery_begins, replaces, stopped_before, stopped_in_journal, stopped_in_storage}
use Rattle.aegis_storage.proofs.driver.take_steps.Goals as goal

pub overflow_add-number-end : goal.overflow_add-number-end
overflow_add-number-end g c = let few = c.count_writes-writes.ensures.few in omega (arith, few)

pub steps-init : goal.steps-init
steps-init g c = record {
  kept = λ is low. refl;
  all = λ found within is. (c.count_writes-writes.ensures.counted found within is, reached_first found c.args.whole.now c.args.content.now _ _ _ _ is);
}

pub journal_step-requires : goal.journal_step-requires
journal_step-requires g c is =
    let here = replaces c.args.order c.count_writes-writes.result c.steps.number (sym c.step_of-step.ensures ∙ is) in if_same c.args.whole.now _ _ (c.steps.invariant.kept here.0 here.1) (c.requires here.0)

pub returns-in_err-rest-clause-stopped : goal.returns-in_err-rest-clause-stopped
returns-in_err-rest-clause-stopped g c found within is =
    let reached = c.steps.invariant.all found within is in
    let step = rw reached.0 at c.step_of-step.ensures in
    let all : List Step = steps_of c.args.order (length found) in
    let made : ℕ = made_in (take c.steps.number all) in
    let next : IsNext c.step_of-step.result made (length found) = subst (λ (s : Step). IsNext s made (length found)) (sym step) (is_next c.args.order (length found) c.steps.number) in
    stopped_in_storage found c.args.whole.now all c.steps.number c.step_of-step.result c.steps.rest.now _ _ _ _ _ _ _ _ _ step reached.1 (c.in_err-rest.ensures.failed found made within reached.1.left next)

pub returns-in_err-journal_step-clause-stopped : goal.returns-in_err-journal_step-clause-stopped
returns-in_err-journal_step-clause-stopped g c found within is =
    let reached = c.steps.invariant.all found within is in
    let step = rw reached.0 at c.step_of-step.ensures in
    let all : List Step = steps_of c.args.order (length found) in
    let made : ℕ = made_in (take c.steps.number all) in
    let next : IsNext c.step_of-step.result made (length found) = subst (λ (s : Step). IsNext s made (length found)) (sym step) (is_next c.args.order (length found) c.steps.number) in
    stopped_in_journal found c.args.whole.now all c.steps.number c.step_of-step.result c.steps.rest.now _ _ _ _ _ _ _ _ _ _ _ step reached.1 (c.in_ok-rest.ensures.taken found made within reached.1.left next)
    c.in_err-journal_step.ensures.failed

pub steps-preserved : goal.steps-preserved
steps-preserved g c = record {
  kept = λ is low.
      recovery_begins c.args.order c.count_writes-writes.result c.steps.number c.args.whole.now _ _ _ _ is (omega arith) (rw c.step_of-step.ensures at c.in_ok-journal_step.ensures.taken) ∙ c.steps.invariant.kept is (omega arith);
  all = λ found within is.
      let reached = c.steps.invariant.all found within is in
      let step = rw reached.0 at c.step_of-step.ensures in
      let all : List Step = steps_of c.args.order (length found) in
      let made : ℕ = made_in (take c.steps.number all) in
      let next : IsNext c.step_of-step.result made (length found) = subst (λ (s : Step). IsNext s made (length found)) (sym step) (is_next c.args.order (length found) c.steps.number) in (
        reached.0,
        rw add-one
            (reached_more found c.args.whole.now all c.steps.number c.step_of-step.result c.steps.rest.now c.in_ok-rest.rest.now _ _ _ _ _ _ _ _ _ _ _ _ step next reached.1 c.in_ok-journal_step.ensures.taken
            (c.in_ok-rest.ensures.taken found made within reached.1.left next) (c.in_ok-rest.ensures.left found made within reached.1.left next)),
      );
}

pub returns-clause-stopped : goal.returns-clause-stopped
returns-clause-stopped g c found within is =
    let reached = c.steps.invariant.all found within is in
    stopped_before found c.args.whole.now (steps_of c.args.order (length found)) c.steps.number c.steps.rest.now _ _ _ _ _ _ _ _ reached.1

pub returns-clause-written : goal.returns-clause-written
returns-clause-written g c found within is =
    let reached = c.steps.invariant.all found within is in
    let counted = reached.0 in
    reached_written c.args.order found c.args.whole.now c.steps.rest.now _ _ _ _ _ _ _ _ (reached_all c.args.order found c.args.whole.now c.steps.rest.now c.steps.number _ _ _ _ _ _ _ _ (omega (arith, counted)) reached.1)

pub returns-clause-storage : goal.returns-clause-storage
returns-clause-storage g c found within is h knows =
    let reached = c.steps.invariant.all found within is in
    let counted = reached.0 in
    let all = reached_all c.args.order found c.args.whole.now c.steps.rest.now c.steps.number _ _ _ _ _ _ _ _ (omega (arith, counted)) reached.1 in one_disk _ _ _ (all.storage h knows)

pub returns-clause-journal : goal.returns-clause-journal
returns-clause-journal g c found within is h knows =
    let reached = c.steps.invariant.all found within is in
    let counted = reached.0 in
    let all = reached_all c.args.order found c.args.whole.now c.steps.rest.now c.steps.number _ _ _ _ _ _ _ _ (omega (arith, counted)) reached.1 in one_disk _ _ _ (all.journal h knows)
