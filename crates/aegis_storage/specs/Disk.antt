-- Bytes that are read and written at any place, and what a storage holds of them after a crash: what was synced, and of what
-- came since any parts in any order.
use Rattle.std.specs.Prelude.{◌≡◌, ℕ, ◌+◌, ◌-◌, ◌≤◌, ◌⊎◌, List, ◌++◌, Option, None, Some, ⊤, drop, length, replicate, take, [], ◌∷◌, map}
use Rattle.aegis_storage.specs.declared.pending.PendingWrite.{PendingWrite}

-- n bytes from place `at` on, or all that there are
abbrev pub part_at : List ℕ → ℕ → ℕ → List ℕ
part_at xs at n = take n (drop at xs)

-- cut off at n bytes, or filled up to n with zeros
abbrev pub resized : List ℕ → ℕ → List ℕ
resized xs n = take n xs ++ replicate (n - length xs) 0

-- bs over the bytes from place `at` on, after zeros where there are none
abbrev pub overwritten : List ℕ → ℕ → List ℕ → List ℕ
overwritten xs at bs = resized xs at ++ (bs ++ drop (at + length bs) xs)

-- if the first is known, so is the second, and they are related
abbrev pub IfKnown : {X : Type 0} → (X → X → Type 0) → Option X → Option X → Type 0
IfKnown R None new = ⊤
IfKnown R (Some x) None = ⊥
IfKnown R (Some x) (Some y) = R x y

-- known bytes are overwritten by bs
abbrev pub WritesAt : Option (List ℕ) → Option (List ℕ) → ℕ → List ℕ → Type 0
WritesAt old new at bs = IfKnown (λ xs ys. ys ≡ overwritten xs at bs) old new

-- known bytes are kept, or overwritten by n bytes at most
abbrev pub TearsAt : Option (List ℕ) → Option (List ℕ) → ℕ → ℕ → Type 0
TearsAt old new at n = IfKnown (λ xs ys. (ys ≡ xs) ⊎ ((torn : List ℕ) × (length torn ≤ n) × (ys ≡ overwritten xs at torn))) old new

-- known bytes are resized
abbrev pub ResizesTo : Option (List ℕ) → Option (List ℕ) → ℕ → Type 0
ResizesTo old new n = IfKnown (λ xs ys. ys ≡ resized xs n) old new

-- a call that changes the bytes: these bytes are written at a place, or there are to be n of them
pub data Change : Type 0 where
  Write : ℕ → List ℕ → Change
  Size : ℕ → Change

-- the bytes after a change
abbrev pub changed : Change → List ℕ → List ℕ
changed (Write at bs) xs = overwritten xs at bs
changed (Size n) xs = resized xs n

-- the bytes after changes, the first of them first
abbrev pub applied : List Change → List ℕ → List ℕ
applied [] xs = xs
applied (change ∷ changes) xs = applied changes (changed change xs)

-- Writes, each as a place and its bytes.
abbrev pub Writes : Type 0
Writes = List (ℕ × List ℕ)

abbrev pub changes : Writes → List Change
changes writes = map (λ write. Write write.0 write.1) writes

-- the bytes after writes, the first of them first: later ones win
abbrev pub after_writes : Writes → List ℕ → List ℕ
after_writes writes xs = applied (changes writes) xs

-- known bytes are changed by writes
abbrev pub WritesAll : Option (List ℕ) → Option (List ℕ) → Writes → Type 0
WritesAll old new writes = IfKnown (λ xs ys. ys ≡ after_writes writes xs) old new

-- What a sync has made certain; the changes that calls which failed have lost, in a layer for each such call; and the
-- changes since, the first of them first. Linux forgets a change that a sync could not make, and reports no error again:
-- the change can still be read, and no later sync makes it certain.
pub record Disk : Type 0 where
  pub synced : List ℕ
  pub lost : List (List Change)
  pub pending : List Change

-- everything is certain
abbrev pub certain : List ℕ → Disk
certain xs = record { synced = xs; lost = []; pending = [] }

-- the disk after more changes, which are pending, too
abbrev pub disk_after : Disk → List Change → Disk
disk_after disk more = record { synced = disk.synced; lost = disk.lost; pending = disk.pending ++ more }

-- the disk after a call that failed: what was pending may be lost
abbrev pub spoilt : Disk → Disk
spoilt disk = record { synced = disk.synced; lost = disk.lost ++ disk.pending ∷ []; pending = [] }

-- ---- crashes

-- The first change may be left of the second: any bytes at a run of its places, or a size, which is whole.
abbrev pub IsPart : Change → Change → Type 0
IsPart (Write at bs) (Write place all) = (k : ℕ) × (k + length bs ≤ length all) × (at ≡ place + k)
IsPart (Write at bs) (Size n) = ⊥
IsPart (Size m) (Write place all) = ⊥
IsPart (Size m) (Size n) = m ≡ n

-- what may be left of one of the changes
abbrev pub IsPartOfOne : List Change → Change → Type 0
IsPartOfOne [] part = ⊥
IsPartOfOne (change ∷ changes) part = IsPart part change ⊎ IsPartOfOne changes part

-- each may be left of one of the changes
abbrev pub AreParts : List Change → List Change → Type 0
AreParts changes [] = ⊤
AreParts changes (part ∷ parts) = IsPartOfOne changes part × AreParts changes parts

-- What may be left of the layers of lost changes, each after those before it, turns the first bytes into the second.
abbrev pub AreLeftOf : List (List Change) → (before bytes : List ℕ) → Type 0
AreLeftOf [] before bytes = bytes ≡ before
AreLeftOf (layer ∷ layers) before bytes = (parts : List Change) × AreParts layer parts × AreLeftOf layers (applied parts before) bytes

-- What a crash may leave: the synced bytes, after what may be left of the lost changes, and then what may be left of the
-- pending ones, in any order. So where a pending write was to write there may be any bytes: its own, those of before, or
-- others; a pending size is there or not; and bytes that nothing was to write are as they were synced, or 0 past the end.
pub record Crashed (disk : Disk) (bytes : List ℕ) : Type 0 where
  pub base : List ℕ
  pub of_lost : AreLeftOf disk.lost disk.synced base
  pub parts : List Change
  pub of_pending : AreParts disk.pending parts
  pub are : bytes ≡ applied parts base

-- Whatever is left of the lost changes, the pending ones give these bytes. So a sync makes the bytes certain.
abbrev pub SettlesTo : Disk → List ℕ → Type 0
SettlesTo disk bytes = (base : List ℕ) → AreLeftOf disk.lost disk.synced base → applied disk.pending base ≡ bytes

-- The disk is known, and P holds of whatever a crash now leaves of it.
pub record CrashLeaves (P : List ℕ → Type 0) (state : Option Disk) : Type 0 where
  pub disk : Disk
  pub is : state ≡ Some disk
  pub has : (bytes : List ℕ) → Crashed disk bytes → P bytes

-- ---- what calls do to a disk that is known

-- Whatever a crash may leave of the first, also after the same further changes, it may leave of the second; and a sync
-- makes certain of the first whatever it makes certain of the second.
pub record IsWithin (now disk : Disk) : Type 0 where
  pub also : (more : List Change) (bytes : List ℕ) → Crashed (disk_after now more) bytes → Crashed (disk_after disk more) bytes
  pub settles : (more : List Change) (bytes : List ℕ) → SettlesTo (disk_after disk more) bytes → SettlesTo (disk_after now more) bytes

-- After `Ok` these changes are pending, too. Some of them may be certain already, as in a vector.
abbrev pub Adds : Option Disk → Option Disk → List Change → Type 0
Adds old new more = IfKnown (λ disk now. IsWithin now (disk_after disk more)) old new

-- After an error all that was pending may be lost, with these changes.
abbrev pub Spoils : Option Disk → Option Disk → List Change → Type 0
Spoils old new more = IfKnown (λ disk now. IsWithin now (spoilt (disk_after disk more))) old new

-- After a sync with `Ok` the bytes are certain to which the disk settles. If there are none, what was pending may be lost.
pub record MakesSynced (old new : Disk) : Type 0 where
  pub certainly : (bytes : List ℕ) → SettlesTo old bytes → new ≡ certain bytes
  pub otherwise : IsWithin new (spoilt old)

abbrev pub IsSynced : Option Disk → Option Disk → Type 0
IsSynced old new = IfKnown MakesSynced old new

-- what can be read is certain
abbrev pub MakesCertain : Option (List ℕ) → Option Disk → Option Disk → Type 0
MakesCertain bytes old new = (disk : Disk) (xs : List ℕ) → old ≡ Some disk → bytes ≡ Some xs → new ≡ Some (certain xs)

-- If the disk is known, so is what can be read, and a crash may leave it.
abbrev pub IsPossible : Option (List ℕ) → Option Disk → Type 0
IsPossible bytes None = ⊤
IsPossible None (Some disk) = ⊥
IsPossible (Some xs) (Some disk) = Crashed disk xs

abbrev pub writes_of : {A : Type 0} → List (PendingWrite A) → Writes
writes_of writes = map (λ write. (write.place, write.bytes.items)) writes
