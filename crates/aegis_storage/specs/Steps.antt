-- The order of the calls of a commit and of a recovery, and what the calls do to a storage and to its journal.
use Rattle.std.specs.Prelude.{◌≡◌, ℕ, zero, suc, ◌⊎◌, List, [], ◌∷◌, ◌++◌, drop, get_or, map, take, Some, Option, length}
use Rattle.std.specs.List.{range_with_len}
use Rattle.aegis_storage.specs.Disk.{Change, Crashed, Disk, IsWithin, MakesSynced, Size, Write, Writes, disk_after, certain, changed}
use Rattle.aegis_storage.specs.Journal.{IsJournal, IsNoOtherJournal, RecoversUnlessOtherJournal, journal_beginning_bytes}
use Rattle.aegis_storage.specs.declared.steps.Order.{Order}
use Rattle.aegis_storage.specs.declared.steps.Order.TheVariants.{Commit, Recovery}
use Rattle.aegis_storage.specs.declared.steps.Step.{Step}
use Rattle.aegis_storage.specs.declared.steps.Step.TheVariants.{Done, EmptyJournal, MakeWrite, ReplaceJournal, SyncJournal, SyncStorage, WriteBeginning, WriteRest}

-- ---- the order

-- the writes, which are synced before the journal is emptied
abbrev pub writing_steps : ℕ → List Step
writing_steps n = map MakeWrite (range_with_len 0 n) ++ (SyncStorage ∷ EmptyJournal ∷ SyncJournal ∷ [])

-- of a commit of so many writes: the journal is certain before the first of them
abbrev pub commit_steps : ℕ → List Step
commit_steps n = WriteBeginning ∷ SyncJournal ∷ WriteRest ∷ SyncJournal ∷ writing_steps n

-- of a recovery by a journal of so many writes, or by one that is not whole, which has none
abbrev pub recovery_steps : ℕ → List Step
recovery_steps zero = SyncStorage ∷ SyncJournal ∷ EmptyJournal ∷ SyncJournal ∷ []
recovery_steps (suc n) = SyncStorage ∷ ReplaceJournal ∷ writing_steps (suc n)

abbrev pub steps_of : Order → ℕ → List Step
steps_of Commit n = commit_steps n
steps_of Recovery n = recovery_steps n

-- the step of a number, the first being 0; past the last one nothing is left to be done
abbrev pub step_at : List Step → ℕ → Step
step_at steps number = get_or steps number Done

-- ---- what the steps do

-- what a step does to a storage: nothing, or it makes a change, or it syncs, or it replaces what there is by a synced copy
pub data Effect : Type 0 where
  Nothing : Effect
  Changes : Change → Effect
  Syncs : Effect
  Replaces : Effect

-- to the journal, which is to have these bytes
abbrev pub journal_effect : (journal : List ℕ) → Step → Effect
journal_effect journal WriteBeginning = Changes (Write 0 (take journal_beginning_bytes journal))
journal_effect journal WriteRest = Changes (Write journal_beginning_bytes (drop journal_beginning_bytes journal))
journal_effect journal SyncJournal = Syncs
journal_effect journal ReplaceJournal = Replaces
journal_effect journal EmptyJournal = Changes (Size 0)
journal_effect journal _ = Nothing

-- the write of a number, the first being 0
abbrev pub write_of : Writes → ℕ → Change
write_of writes number = Write (get_or writes number (0, [])).0 (get_or writes number (0, [])).1

-- to the storage, by the writes of the journal
abbrev pub storage_effect : Writes → Step → Effect
storage_effect writes (MakeWrite number) = Changes (write_of writes number)
storage_effect writes SyncStorage = Syncs
storage_effect writes _ = Nothing

-- what can be read of a storage, and what a crash may leave of it
pub record StorageState : Type 0 where
  pub bytes : List ℕ
  pub disk : Disk

-- certain bytes
abbrev pub certain_state : List ℕ → StorageState
certain_state xs = record { bytes = xs; disk = certain xs }

-- A call that has the effect has returned without an error.
abbrev pub Does : Effect → (old new : StorageState) → Type 0
Does Nothing old new = new ≡ old
Does (Changes change) old new = (new.bytes ≡ changed change old.bytes) × IsWithin new.disk (disk_after old.disk (change ∷ []))
Does Syncs old new = (new.bytes ≡ old.bytes) × MakesSynced old.disk new.disk
Does Replaces old new = new ≡ certain_state old.bytes

-- A crash leaves no more of the first disk than of the second.
abbrev pub LeavesNoMore : (now disk : Disk) → Type 0
LeavesNoMore now disk = (bytes : List ℕ) → Crashed now bytes → Crashed disk bytes

-- Bytes that are certain stay so.
abbrev pub StaysCertain : (old new : Disk) → Type 0
StaysCertain old new = (bytes : List ℕ) → IsWithin old (certain bytes) → IsWithin new (certain bytes)

-- The call has not begun, is under way, or has failed: any part of its change may be left, and what was pending be lost.
abbrev pub Leaves : Effect → (old new : StorageState) → Type 0
Leaves Nothing old new = new ≡ old
Leaves (Changes change) old new = LeavesNoMore new.disk (disk_after old.disk (change ∷ []))
Leaves Syncs old new = LeavesNoMore new.disk old.disk × StaysCertain old.disk new.disk
Leaves Replaces old new = LeavesNoMore new.disk old.disk × StaysCertain old.disk new.disk

-- the first of some calls has returned without an error, and the others too
pub record TakenFirst (first : Effect) (others : StorageState → Type 0) (old : StorageState) : Type 0 where
  pub between : StorageState
  pub does : Does first old between
  pub more : others between

-- the calls of these steps have returned without an error, one after the other
abbrev pub Taken : (Step → Effect) → List Step → (old new : StorageState) → Type 0
Taken effect [] old new = new ≡ old
Taken effect (step ∷ steps) old new = TakenFirst (effect step) (λ h. Taken effect steps h new) old

-- those of the first k steps have, and step k has not begun, is under way, or has failed
pub record StopsAt (effect : Step → Effect) (steps : List Step) (k : ℕ) (old new : StorageState) : Type 0 where
  pub between : StorageState
  pub taken : Taken effect (take k steps) old between
  pub leaves : Leaves (effect (step_at steps k)) between new

-- A commit of the writes by this journal, which began with xs for certain and with no journal, stopped at one of its steps.
pub record StopsInCommit (key context journal xs : List ℕ) (writes : Writes) (storage' journal' : Option Disk) : Type 0 where
  pub step : ℕ
  pub s : StorageState
  pub j : StorageState
  pub whole : IsJournal key context writes journal
  pub storage_is : storage' ≡ Some s.disk
  pub journal_is : journal' ≡ Some j.disk
  pub storage_stops : StopsAt (storage_effect writes) (commit_steps (length writes)) step (certain_state xs) s
  pub journal_stops : StopsAt (journal_effect journal) (commit_steps (length writes)) step (certain_state []) j

-- the writes that recovery makes again: those of a whole journal, and none for any other
abbrev pub AreRedone : (key context journal : List ℕ) → Writes → Type 0
AreRedone key context journal writes =
    IsJournal key context writes journal ⊎ ((writes ≡ []) × ((found : Writes) → IsJournal key context found journal → ⊥))

-- What a recovery begins with, and the writes that it finds. What can be read is one of the contents that a crash may leave.
pub record Recoverable (key context xs : List ℕ) (writes found : Writes) (s j : StorageState) : Type 0 where
  pub storage : Crashed s.disk s.bytes
  pub journal : Crashed j.disk j.bytes
  pub recovers : RecoversUnlessOtherJournal key context xs writes (Some s.disk) (Some j.disk)
  pub no_other_journal : IsNoOtherJournal key context writes j.bytes
  pub redone : AreRedone key context j.bytes found
