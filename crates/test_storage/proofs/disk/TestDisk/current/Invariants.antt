use Rattle.std.proofs.Common.{◌≡◌, take}
use Rattle.aegis_storage.specs.Disk.{applied}
use Rattle.test_storage.specs.Pending.{changes_of}
use Rattle.test_storage.proofs.disk.TestDisk.current.Given as goal

-- the changes so far are made
abbrev pub invariant-loop-pending : goal.invariant-loop-pending
invariant-loop-pending l = l.bytes.items ≡ applied (changes_of (take l.pending-index l.pending-items)) l.fn.self.synced.items
