use Rattle.std.proofs.Common.{◌≡◌, ◌≤◌, length, take}
use Rattle.aegis_storage.specs.Disk.{Writes}
use Rattle.aegis_storage.specs.Journal.{AreWithinStorage, entries}
use Rattle.aegis_storage.specs.Steps.{steps_of}
use Rattle.aegis_storage.specs.declared.steps.Order.TheVariants.{Recovery}
use Rattle.aegis_storage.proofs.Stepping.{Reached}
use Rattle.aegis_storage.proofs.driver.take_steps.Given as goal

-- the steps so far are taken, and before a recovery replaces the journal it has not changed
abbrev pub invariant-steps : goal.invariant-steps
invariant-steps g l =
    record {
      kept : l.order ≡ Recovery → l.number ≤ 1 → g.J.Storage.bytes l.journal ≡ g.J.Storage.bytes l.fn.journal;
      all : (found : Writes) → AreWithinStorage found → l.content ≡ entries found
          → (l.writes ≡ length found)
          × Reached found l.whole (take l.number (steps_of l.order (length found))) l.rest
          (g.S.Storage.bytes l.fn.storage) (g.S.Storage.bytes l.storage) (g.J.Storage.bytes l.fn.journal) (g.J.Storage.bytes l.journal)
          (g.S.Storage.disk l.fn.storage) (g.S.Storage.disk l.storage) (g.J.Storage.disk l.fn.journal) (g.J.Storage.disk l.journal);
    }
