-- Commits and recoveries whose steps stopped, or came to their end.
use Rattle.std.proofs.Common.{◌≡◌, ℕ, List, [], Err, IfSome, None, OnOk, Ok, Option, Result, Some, ap, length, subst, subst₂, sym, take, ◌∙◌}
use Rattle.aegis_storage.specs.Disk.{Crashed, Disk, IsPossible, Writes, WritesAll, after_writes, certain}
use Rattle.aegis_storage.specs.Journal.{IsAtRest, IsJournal, IsNoOtherJournal, KeepsBeginning, RecoversKnown, RecoversUnlessOtherJournal, RestsAtEither}
use Rattle.aegis_storage.specs.Steps.{AreRedone, StorageState, Recoverable, Taken, commit_steps, certain_state, journal_effect, recovery_steps, storage_effect, StopsInCommit}
use Rattle.aegis_storage.specs.Private.{Knows, LeavesOne}
use Rattle.aegis_storage.proofs.Disks.{readable, readable_certain}
use Rattle.aegis_storage.proofs.StepLaws.{commit_begins, commit_recovers, commit_rests, recovery_begins, recovery_recovers, recovery_rests}
use Rattle.aegis_storage.proofs.Stepping.{Stopped, known_redone}

pub on_ok_both : {T E P Q R : Type 0} (r : Result T E) → (P → Q → R) → OnOk r P → OnOk r Q → OnOk r R
on_ok_both (Ok x) f p q = f p q
on_ok_both (Err e) f p q = tt

-- ---- a commit

rests_known : (b : Option (List ℕ)) (d : Option Disk) (xs : List ℕ) → IsPossible b d → d ≡ Some (certain xs) → Knows (certain_state xs) b d
rests_known b d xs possible is = (readable_certain b d xs possible is, is)

pub commit_stopped : (key context xs js : List ℕ) (writes : Writes) (sb jb : Option (List ℕ)) (sd sd' jd jd' : Option Disk) → IsPossible sb sd → IsPossible jb jd → IsJournal key context writes js → IsAtRest sd jd xs
    → Stopped writes js (commit_steps (length writes)) sb jb sd sd' jd jd' → RecoversUnlessOtherJournal key context xs writes sd' jd'
commit_stopped key context xs js writes sb jb sd sd' jd jd' p q whole rest stopped =
    let s = stopped.1 (certain_state xs) (rests_known sb sd xs p rest.storage_is) in
    let j = stopped.2 (certain_state []) (rests_known jb jd [] q rest.journal_is) in rw (s.is, j.is) (commit_recovers key context js xs writes stopped.0 s.new j.new whole s.so j.so)

pub commit_stopped_begins : (key context js beginning : List ℕ) (writes : Writes) (sb jb : Option (List ℕ)) (sd sd' jd jd' : Option Disk) → IsPossible jb jd → IsJournal key context writes js → take 512 js ≡ beginning
    → jd ≡ Some (certain []) → Stopped writes js (commit_steps (length writes)) sb jb sd sd' jd jd' → KeepsBeginning beginning jd'
commit_stopped_begins key context js beginning writes sb jb sd sd' jd jd' q whole begins empty stopped =
    let j = stopped.2 (certain_state []) (rests_known jb jd [] q empty) in rw (← begins, j.is) (commit_begins key context js writes stopped.0 j.new whole j.so)

pub commit_ended : (key context xs js : List ℕ) (writes : Writes) (sb jb : Option (List ℕ)) (sd sd' jd jd' : Option Disk) → IsPossible sb sd → IsPossible jb jd → IsJournal key context writes js
    → ((h : StorageState) → Knows h sb sd → LeavesOne (Taken (storage_effect writes) (commit_steps (length writes)) h) sd') → ((h : StorageState) → Knows h jb jd → LeavesOne (Taken (journal_effect js) (commit_steps (length writes)) h) jd')
    → IsAtRest sd jd xs → IsAtRest sd' jd' (after_writes writes xs)
commit_ended key context xs js writes sb jb sd sd' jd jd' p q whole storage journal rest =
    let s = storage (certain_state xs) (rests_known sb sd xs p rest.storage_is) in
    let j = journal (certain_state []) (rests_known jb jd [] q rest.journal_is) in rw (s.is, j.is) (commit_rests key context js xs writes s.new j.new whole s.so j.so)

pub commit_stops : (key context xs js made : List ℕ) (writes : Writes) (sb jb : Option (List ℕ)) (sd sd' jd jd' : Option Disk) → IsPossible sb sd → IsPossible jb jd → IsJournal key context writes made → made ≡ js → IsAtRest sd jd xs
    → Stopped writes made (commit_steps (length writes)) sb jb sd sd' jd jd' → StopsInCommit key context js xs writes sd' jd'
commit_stops key context xs js made writes sb jb sd sd' jd jd' p q whole is rest stopped =
    let s = stopped.1 (certain_state xs) (rests_known sb sd xs p rest.storage_is) in
    let j = stopped.2 (certain_state []) (rests_known jb jd [] q rest.journal_is) in
    subst (λ (l : List ℕ). StopsInCommit key context l xs writes sd' jd') is
    (record { step = stopped.0; s = s.new; j = j.new; whole = whole; storage_is = s.is; journal_is = j.is; storage_stops = s.so; journal_stops = j.so })

-- ---- a recovery

-- what a recovery begins with, where the disks are known
pub record Start (key context xs : List ℕ) (writes found : Writes) (sb jb : Option (List ℕ)) (sd jd : Option Disk) (js : List ℕ) : Type 0 where
  pub s : StorageState
  pub disk : Disk
  pub storage : Knows s sb sd
  pub journal : Knows (record { bytes = js; disk = disk }) jb jd
  pub recoverable : Recoverable key context xs writes found s (record { bytes = js; disk = disk })

pub recover_starts : (key context xs : List ℕ) (writes found : Writes) (sb jb : Option (List ℕ)) (sd jd : Option Disk) (read js : List ℕ) → IsPossible sb sd → IsPossible jb jd → IfSome jb (λ ys. read ≡ ys) → js ≡ read
    → AreRedone key context js found → IfSome jb (IsNoOtherJournal key context writes) → RecoversUnlessOtherJournal key context xs writes sd jd → Start key context xs writes found sb jb sd jd js
recover_starts key context xs writes found sb jb sd jd read js p q is_read same redone no_other_journal recovers =
    let x = readable sb sd recovers.storage_disk p recovers.storage_is in
    let y = readable jb jd recovers.journal_disk q recovers.journal_is in
    let are : js ≡ y.xs = same ∙ rw y.is at is_read in record {
      s = record { bytes = x.xs; disk = recovers.storage_disk };
      disk = recovers.journal_disk;
      storage = (x.is, recovers.storage_is);
      journal = (y.is ∙ ap Some (sym are), recovers.journal_is);
      recoverable = record {
        storage = x.possible;
        journal = subst (λ (l : List ℕ). Crashed recovers.journal_disk l) (sym are) y.possible;
        recovers = subst₂ (λ (a b : Option Disk). RecoversUnlessOtherJournal key context xs writes a b) recovers.storage_is recovers.journal_is recovers;
        no_other_journal = subst (λ (l : List ℕ). IsNoOtherJournal key context writes l) (sym are) (rw y.is at no_other_journal);
        redone = redone;
      };
    }

pub recover_stopped : (key context xs : List ℕ) (writes found : Writes) (sb jb : Option (List ℕ)) (sd sd' jd jd' : Option Disk) (js : List ℕ) → Start key context xs writes found sb jb sd jd js
    → Stopped found js (recovery_steps (length found)) sb jb sd sd' jd jd' → RecoversUnlessOtherJournal key context xs writes sd' jd'
recover_stopped key context xs writes found sb jb sd sd' jd jd' js start stopped =
    let s = stopped.1 start.s start.storage in
    let j = stopped.2 (record { bytes = js; disk = start.disk }) start.journal in
    rw (s.is, j.is) (recovery_recovers key context xs writes found start.s (record { bytes = js; disk = start.disk }) s.new j.new stopped.0 start.recoverable s.so j.so)

pub recover_ended : (key context xs : List ℕ) (writes found : Writes) (sb jb : Option (List ℕ)) (sd sd' jd jd' : Option Disk) (js : List ℕ) → Start key context xs writes found sb jb sd jd js
    → ((h : StorageState) → Knows h sb sd → LeavesOne (Taken (storage_effect found) (recovery_steps (length found)) h) sd') → ((h : StorageState) → Knows h jb jd → LeavesOne (Taken (journal_effect js) (recovery_steps (length found)) h) jd')
    → RestsAtEither sd' jd' xs writes
recover_ended key context xs writes found sb jb sd sd' jd jd' js start storage journal =
    let s = storage start.s start.storage in
    let j = journal (record { bytes = js; disk = start.disk }) start.journal in
    rw (s.is, j.is) (recovery_rests key context xs writes found start.s (record { bytes = js; disk = start.disk }) s.new j.new start.recoverable s.so j.so)

pub recover_begins : (beginning : List ℕ) (found : Writes) (sb jb : Option (List ℕ)) (sd sd' jd jd' : Option Disk) (read js : List ℕ) → IsPossible jb jd → IfSome jb (λ ys. read ≡ ys) → js ≡ read
    → KeepsBeginning beginning jd → Stopped found js (recovery_steps (length found)) sb jb sd sd' jd jd' → KeepsBeginning beginning jd'
recover_begins beginning found sb jb sd sd' jd jd' read js q is_read same keeps stopped =
    let y = readable jb jd keeps.disk q keeps.is in
    let are : js ≡ y.xs = same ∙ rw y.is at is_read in
    let h : StorageState = record { bytes = js; disk = keeps.disk } in
    let possible : Crashed keeps.disk js = subst (λ (l : List ℕ). Crashed keeps.disk l) (sym are) y.possible in
    let j = stopped.2 h (y.is ∙ ap Some (sym are), keeps.is) in rw j.is (recovery_begins beginning (length found) stopped.0 h j.new possible keeps.has j.so)

pub recover_known : (key context : List ℕ) (found : Writes) (jb a b : Option (List ℕ)) (read js : List ℕ) → IfSome jb (λ ys. read ≡ ys) → js ≡ read → AreRedone key context js found → WritesAll a b found
    → RecoversKnown key context jb a b
recover_known key context found None a b read js is_read same redone all = tt
recover_known key context found (Some ys) a b read js is_read same redone all =
    subst (λ (l : List ℕ). RecoversKnown key context (Some l) a b) (same ∙ is_read) (known_redone key context js found a b redone all)
