use Rattle.std.proofs.Common.{◌∙◌, List, ℕ, subst, sym}
use Rattle.aegis_storage.specs.Steps.{AreRedone}
use Rattle.aegis_storage.proofs.Disks.{on_ok_map}
use Rattle.aegis_storage.proofs.Driving.{on_ok_both, recover_begins, recover_ended, recover_known, recover_starts, recover_stopped}
use Rattle.aegis_storage.proofs.recovery.recover.Goals as goal

pub returns-clause-recovered : goal.returns-clause-recovered
returns-clause-recovered g c =
    let found = c.redone-content.ensures in
    on_ok_map c.take_steps.result
    (λ written. recover_known c.args.key.now c.args.context.now found.0 _ _ _ c.in_ok-whole.whole.items c.deref.result.now c.in_ok-whole.ensures.read c.deref.ensures.value found.3 (written found.0 found.1 found.2))
    c.take_steps.ensures.written

pub returns-clause-recovers : goal.returns-clause-recovers
returns-clause-recovers g c xs writes no_other_journal recovers =
    let found = c.redone-content.ensures in
    let redone : AreRedone c.args.key.now c.args.context.now c.deref-2.result.now found.0 =
    subst (λ (l : List ℕ). AreRedone c.args.key.now c.args.context.now l found.0) (c.deref.ensures.value ∙ sym c.deref-2.ensures.value) found.3 in
    recover_stopped c.args.key.now c.args.context.now xs writes found.0 _ _ _ _ _ _ c.deref-2.result.now
    (recover_starts c.args.key.now c.args.context.now xs writes found.0 _ _ _ _ c.in_ok-whole.whole.items c.deref-2.result.now (g.met.S.Storage.possible c.args.storage.now) (g.met.J.Storage.possible c.args.journal.now)
    c.in_ok-whole.ensures.read c.deref-2.ensures.value redone no_other_journal recovers)
    (c.take_steps.ensures.stopped found.0 found.1 found.2)

pub returns-clause-beginning : goal.returns-clause-beginning
returns-clause-beginning g c beginning keeps =
    let found = c.redone-content.ensures in
    recover_begins beginning found.0 _ _ _ _ _ _ c.in_ok-whole.whole.items c.deref-2.result.now (g.met.J.Storage.possible c.args.journal.now) c.in_ok-whole.ensures.read c.deref-2.ensures.value keeps
    (c.take_steps.ensures.stopped found.0 found.1 found.2)

pub returns-clause-at_rest : goal.returns-clause-at_rest
returns-clause-at_rest g c =
    let found = c.redone-content.ensures in
    let redone : AreRedone c.args.key.now c.args.context.now c.deref-2.result.now found.0 =
    subst (λ (l : List ℕ). AreRedone c.args.key.now c.args.context.now l found.0) (c.deref.ensures.value ∙ sym c.deref-2.ensures.value) found.3 in
    on_ok_both c.take_steps.result
    (λ storage journal xs writes no_other_journal recovers.
    recover_ended c.args.key.now c.args.context.now xs writes found.0 _ _ _ _ _ _ c.deref-2.result.now
    (recover_starts c.args.key.now c.args.context.now xs writes found.0 _ _ _ _ c.in_ok-whole.whole.items c.deref-2.result.now (g.met.S.Storage.possible c.args.storage.now) (g.met.J.Storage.possible c.args.journal.now)
    c.in_ok-whole.ensures.read c.deref-2.ensures.value redone no_other_journal recovers)
    (storage found.0 found.1 found.2) (journal found.0 found.1 found.2))
    c.take_steps.ensures.storage c.take_steps.ensures.journal
