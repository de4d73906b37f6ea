-- What the bodies and their proofs use, and no public contract.
use Rattle.std.specs.Prelude.{◌≡◌, ℕ, List, [], Option, Some, suc, ◌<◌, ⊤, ◌∷◌}
use Rattle.aegis_storage.specs.Disk.{Adds, Disk, IfKnown, IsSynced, MakesCertain, Spoils, Writes, changed}
use Rattle.std.specs.Io.KnownBytes.{Keeps}
use Rattle.aegis_storage.specs.Journal.{IsJournal, entries}
use Rattle.aegis_storage.specs.declared.steps.Step.{Step}
use Rattle.aegis_storage.specs.declared.steps.Step.TheVariants.{Done, EmptyJournal, MakeWrite, ReplaceJournal, SyncJournal, SyncStorage, WriteBeginning, WriteRest}
use Rattle.aegis_storage.specs.Steps.{Effect, StorageState, Changes, Nothing, Replaces, Syncs}

-- The bytes are a journal of the writes that this content is of.
abbrev pub IsContent : (key context bytes content : List ℕ) → Type 0
IsContent key context bytes content = (writes : Writes) × IsJournal key context writes bytes × (content ≡ entries writes)

-- what a call that has the effect does if it returns without an error
abbrev pub Succeeds : Effect → (bytes bytes' : Option (List ℕ)) → (disk disk' : Option Disk) → Type 0
Succeeds Nothing bytes bytes' disk disk' = (bytes' ≡ bytes) × (disk' ≡ disk)
Succeeds (Changes change) bytes bytes' disk disk' = IfKnown (λ xs ys. ys ≡ changed change xs) bytes bytes' × Adds disk disk' (change ∷ [])
Succeeds Syncs bytes bytes' disk disk' = Keeps bytes bytes' × IsSynced disk disk'
Succeeds Replaces bytes bytes' disk disk' = Keeps bytes bytes' × MakesCertain bytes disk disk'

-- and if it returns an error
abbrev pub Fails : Effect → (disk disk' : Option Disk) → Type 0
Fails Nothing disk disk' = disk' ≡ disk
Fails (Changes change) disk disk' = Spoils disk disk' (change ∷ [])
Fails Syncs disk disk' = Spoils disk disk' []
Fails Replaces disk disk' = Spoils disk disk' []

-- the bytes and the disk are known
abbrev pub Knows : StorageState → (bytes : Option (List ℕ)) → (disk : Option Disk) → Type 0
Knows h bytes disk = (bytes ≡ Some h.bytes) × (disk ≡ Some h.disk)

-- the disk is known, and is that of something of which P holds
pub record LeavesOne (P : StorageState → Type 0) (disk : Option Disk) : Type 0 where
  pub new : StorageState
  pub is : disk ≡ Some new.disk
  pub so : P new

-- a step that makes a write makes the one after `made` writes, of n
abbrev pub IsNext : Step → (made n : ℕ) → Type 0
IsNext WriteBeginning made n = ⊤
IsNext WriteRest made n = ⊤
IsNext SyncJournal made n = ⊤
IsNext ReplaceJournal made n = ⊤
IsNext (MakeWrite number) made n = (number ≡ made) × (made < n)
IsNext SyncStorage made n = ⊤
IsNext EmptyJournal made n = ⊤
IsNext Done made n = ⊤

-- how many writes are made after a step, of which `made` were made before it
abbrev pub made_with : Step → (made : ℕ) → ℕ
made_with WriteBeginning made = made
made_with WriteRest made = made
made_with SyncJournal made = made
made_with ReplaceJournal made = made
made_with (MakeWrite number) made = suc made
made_with SyncStorage made = made
made_with EmptyJournal made = made
made_with Done made = made
