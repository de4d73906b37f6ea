use Rattle.std.proofs.Common.{◌≡◌, ◌+◌, ◌≤◌, ◌++◌, length}
use Rattle.aegis_storage.specs.Disk.{Writes}
use Rattle.aegis_storage.specs.Journal.{AreWithinStorage, entries}
use Rattle.aegis_storage.proofs.driver.count_writes.Given as goal

-- some writes, which are counted, and then the rest
abbrev pub invariant-writes : goal.invariant-writes
invariant-writes l =
    (done : Writes) × AreWithinStorage done × (entries done ++ l.rest ≡ l.content) × (l.number ≡ length done) × (l.number + length l.rest ≤ length l.content)

abbrev pub decreases-writes : goal.decreases-writes
decreases-writes l = length l.rest
