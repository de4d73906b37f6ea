use Rattle.std.proofs.Common.{◌∙◌, ap, sym}
use Rattle.std.proofs.lemmas.List.{take_all}
use Rattle.aegis_storage.specs.Disk.{applied, changed}
use Rattle.test_storage.specs.Pending.{change_of, changes_of}
use Rattle.test_storage.proofs.Changes.{applied_taken}
use Rattle.test_storage.proofs.disk.TestDisk.current.Goals as goal

pub loop-pending-preserved : goal.loop-pending-preserved
loop-pending-preserved c =
    c.in_ok-change.ensures ∙ ap (changed (change_of c.pending-item.result)) c.loop-pending.invariant
    ∙ sym (applied_taken c.deref-pending-items.result.now c.loop-pending.pending-index c.pending-item.result c.args.self.now.synced.items c.loop-pending-test.true c.pending-item.is)

pub returns : goal.returns
returns c =
    c.loop-pending.invariant ∙ ap (λ l. applied (changes_of l) c.args.self.now.synced.items) (take_all c.loop-pending.pending-index c.deref-pending-items.result.now c.loop-pending-test.false)
    ∙ ap (λ l. applied (changes_of l) c.args.self.now.synced.items) c.deref-pending-items.ensures.value
