use Rattle.std.proofs.Common.{◌≡◌, ◌++◌, take}
use Rattle.aegis_storage.specs.Journal.{entries}
use Rattle.aegis_storage.specs.Disk.{writes_of}
use Rattle.aegis_storage.proofs.journal.append_writes.Given as goal

-- the writes so far
abbrev pub invariant-loop-write : goal.invariant-loop-write
invariant-loop-write g l = l.journal.items ≡ l.fn.journal.items ++ entries (writes_of (take l.write-index l.writes))
