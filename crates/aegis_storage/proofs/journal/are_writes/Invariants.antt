use Rattle.std.proofs.Common.{◌≡◌, ◌++◌, length}
use Rattle.aegis_storage.specs.Disk.{Writes}
use Rattle.aegis_storage.specs.Journal.{AreWithinStorage, entries}
use Rattle.aegis_storage.proofs.journal.are_writes.Given as goal

-- some writes, and then the rest
abbrev pub invariant-writes : goal.invariant-writes
invariant-writes l = (done : Writes) × AreWithinStorage done × (entries done ++ l.rest ≡ l.content)

abbrev pub decreases-writes : goal.decreases-writes
decreases-writes l = length l.rest
