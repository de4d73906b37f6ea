-- What a disk of the tests holds.
use Rattle.std.specs.Prelude.{◌≡◌, ℕ, Bool, false, true, List, [], ◌∷◌, map}
use Rattle.std.proofs.Common.{arith, inl, inr, refl}
use Rattle.aegis_storage.specs.Disk.{AreParts, Change, Crashed, Disk, applied}
use Rattle.aegis_storage.specs.Disk as disk
use Rattle.test_storage.specs.declared.pending.PendingChange.{PendingChange}
use Rattle.test_storage.specs.declared.pending.PendingChange.TheVariants.{Size, Write}
use Rattle.test_storage.specs.declared.disk.TestDisk.{TestDisk}

abbrev pub change_of : PendingChange → Change
change_of (Write write) = disk.Write write.place write.bytes.items
change_of (Size size) = disk.Size size.size

abbrev pub changes_of : List PendingChange → List Change
changes_of pending = map change_of pending

-- the changes since the sync are pending, or, once a call has failed, lost
abbrev pub disk_with : Bool → (synced : List ℕ) → List Change → Disk
disk_with false synced changes = record { synced = synced; lost = []; pending = changes }
disk_with true synced changes = record { synced = synced; lost = changes ∷ []; pending = [] }

abbrev pub disk_of : TestDisk → Disk
disk_of test_disk = disk_with test_disk.failed test_disk.synced.items (changes_of test_disk.pending.items)

-- what can be read: everything that was written
abbrev pub readable_bytes : TestDisk → List ℕ
readable_bytes test_disk = applied (changes_of test_disk.pending.items) test_disk.synced.items

-- everything that was written is synced
abbrev pub IsSettled : (old new : TestDisk) → Type 0
IsSettled old new = (old.failed ≡ false) × (new.synced.items ≡ readable_bytes old) × (new.pending.items ≡ []) × (new.failed ≡ false)

-- a call has failed, and has changed nothing
abbrev pub IsLost : (old new : TestDisk) → Type 0
IsLost old new = (new.synced ≡ old.synced) × (new.pending ≡ old.pending) × (new.failed ≡ true)

-- ---- a crash may leave all of it

self_part : (change : Change) → disk.IsPart change change
self_part (disk.Write at bs) = (0, omega arith, omega arith)
self_part (disk.Size n) = refl

more_parts : (change : Change) (changes parts : List Change) → AreParts changes parts → AreParts (change ∷ changes) parts
more_parts change changes [] are = tt
more_parts change changes (part ∷ parts) are = (inr are.0, more_parts change changes parts are.1)

all_parts : (changes : List Change) → AreParts changes changes
all_parts [] = tt
all_parts (change ∷ changes) = (inl (self_part change), more_parts change changes changes (all_parts changes))

all_with : (failed : Bool) (synced : List ℕ) (changes : List Change) → Crashed (disk_with failed synced changes) (applied changes synced)
all_with false synced changes = record { base = synced; of_lost = refl; parts = changes; of_pending = all_parts changes; are = refl }
all_with true synced changes = record { base = applied changes synced; of_lost = (changes, all_parts changes, refl); parts = []; of_pending = tt; are = refl }

pub all_there : (test_disk : TestDisk) → Crashed (disk_of test_disk) (readable_bytes test_disk)
all_there test_disk = all_with test_disk.failed test_disk.synced.items (changes_of test_disk.pending.items)
