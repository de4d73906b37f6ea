use Rattle.std.proofs.Common.{◌≡◌, ◌++◌, ◌↔◌, IsTrue, length}
use Rattle.aegis_storage.specs.Disk.{Writes}
use Rattle.aegis_storage.specs.Journal.{AreWithinStorage, entries}
use Rattle.aegis_pages.specs.Commits.{EndsWith}
use Rattle.aegis_pages.proofs.opening.is_ended_by.Given as goal

-- some writes, of which the last one makes a file begin so or does not, and then the rest
abbrev pub invariant-writes : goal.invariant-writes
invariant-writes l = (done : Writes) × AreWithinStorage done × (entries done ++ l.rest ≡ l.content) × (IsTrue l.begins ↔ EndsWith l.head done)

abbrev pub decreases-writes : goal.decreases-writes
decreases-writes l = length l.rest
