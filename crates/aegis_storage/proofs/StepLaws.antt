-- The laws of the steps, as `laws` states them.
use Rattle.std.proofs.Common.{◌≡◌, ℕ, zero, suc, ◌+◌, ◌≤◌, ◌⊎◌, inl, inr, List, [], ◌∷◌, ◌-◌, Some, drop, length, refl, sym, ap, take, ◌∙◌, arith}
use Rattle.std.proofs.lemmas.List.{length-take-le, take-append-drop}
use Rattle.aegis_storage.specs.Disk.{Crashed, Disk, IsWithin, SettlesTo, Size, Write, Writes, disk_after, after_writes, certain, overwritten, spoilt}
use Rattle.aegis_storage.specs.Journal.{GivesOneOf, HasBeginning, IsAtRest, IsJournal, IsOneOf, IsSafe, KeepsBeginning, RecoversUnlessOtherJournal, RestsAtEither, entries}
use Rattle.aegis_storage.specs.Steps.{AreRedone, Changes, Does, StorageState, Leaves, LeavesNoMore, Nothing, Recoverable, StaysCertain, StopsAt, Syncs, Taken, commit_steps, step_at, certain_state, journal_effect, recovery_steps, storage_effect, writing_steps}
use Rattle.aegis_storage.proofs.Disks.{certain_only, resized_none, settles_emptied, settles_only, settles_certain, spoilt_crashed, unmade, within_after, within_crashed, within_itself, within_settles}
use Rattle.aegis_storage.proofs.Journals.{BeginsAs, again, any_journal, beginning_begins, beginning_stays, begins_keeps, certain_begins, emptied_begins, gives_of, length-framed, one_written, safe_of}
use Rattle.aegis_storage.proofs.Overwriting.{overwritten_end, overwritten_whole}
use Rattle.aegis_storage.specs.declared.steps.Step.TheVariants.{SyncStorage}
use Rattle.aegis_storage.proofs.StepFacts.{ends, far, makes, step_ended, step_making, take_ended, take_making}
use Rattle.aegis_storage.proofs.Taking.{Making, changed_synced, failed_syncs, journal_kept, taken_both, writing_ends_journal, writing_ends_storage, writing_stops}
use Rattle.std.specs.List.{range_with_len}

pub long : (key context journal : List ℕ) (writes : Writes) → IsJournal key context writes journal → 512 ≤ length journal
long key context journal writes whole = let size = length-framed key context (entries writes) journal whole.framed in omega (arith, size)

-- ---- a commit

-- the journal is written in two parts
journal_made : (journal : List ℕ) → 512 ≤ length journal → overwritten (overwritten [] 0 (take 512 journal)) 512 (drop 512 journal) ≡ journal
journal_made journal long =
    rw (overwritten_whole [] (take 512 journal) (omega arith)) (overwritten_end (take 512 journal) 512 (drop 512 journal) (length-take-le 512 journal long) ∙ take-append-drop 512 journal)

-- what the first four steps have done to it
written_journal : (journal : List ℕ) → 512 ≤ length journal → (a b c d : StorageState) → Does (Changes (Write 0 (take 512 journal))) (certain_state []) a → Does Syncs a b → Does (Changes (Write 512 (drop 512 journal))) b c → Does Syncs c d
    → d ≡ certain_state journal
written_journal journal size a b c d p q r t =
    let first = changed_synced [] (Write 0 (take 512 journal)) a b p q in
    changed_synced (overwritten [] 0 (take 512 journal)) (Write 512 (drop 512 journal)) c d (rw first at r) t ∙ ap certain_state (journal_made journal size)

-- from the first write on
commit_making : (key context journal xs : List ℕ) (writes : Writes) → IsJournal key context writes journal → Making key context xs writes journal (certain xs) (certain_state xs)
commit_making key context journal xs writes whole = record {
  whole = whole;
  written = λ ys crashed. ap (after_writes writes) (certain_only xs ys crashed);
  within = unmade xs xs [] refl;
}

unwritten : (key context xs : List ℕ) (writes : Writes) (s j : StorageState) → s ≡ certain_state xs → RecoversUnlessOtherJournal key context xs writes (Some s.disk) (Some j.disk)
unwritten key context xs writes s j same = any_journal key context xs writes xs s.disk j.disk (inl refl) (rw same (within_itself (certain xs)))

pub commit_recovers : (key context journal xs : List ℕ) (writes : Writes) (k : ℕ) (s j : StorageState) → IsJournal key context writes journal
    → StopsAt (storage_effect writes) (commit_steps (length writes)) k (certain_state xs) s → StopsAt (journal_effect journal) (commit_steps (length writes)) k (certain_state []) j
    → RecoversUnlessOtherJournal key context xs writes (Some s.disk) (Some j.disk)
commit_recovers key context journal xs writes zero s j whole a b = unwritten key context xs writes s j (a.leaves ∙ a.taken)
commit_recovers key context journal xs writes (suc zero) s j whole a b = unwritten key context xs writes s j (a.leaves ∙ a.taken.more ∙ a.taken.does)
commit_recovers key context journal xs writes (suc (suc zero)) s j whole a b = unwritten key context xs writes s j (a.leaves ∙ a.taken.more.more ∙ a.taken.more.does ∙ a.taken.does)
commit_recovers key context journal xs writes (suc (suc (suc zero))) s j whole a b =
    unwritten key context xs writes s j (a.leaves ∙ a.taken.more.more.more ∙ a.taken.more.more.does ∙ a.taken.more.does ∙ a.taken.does)
commit_recovers key context journal xs writes (suc (suc (suc (suc m)))) s j whole a b =
    let t = a.taken in
    let u = b.taken in
    let storage = t.more.more.more.does ∙ t.more.more.does ∙ t.more.does ∙ t.does in
    let journal_is = written_journal journal (long key context journal writes whole) u.between u.more.between u.more.more.between u.more.more.more.between u.does u.more.does u.more.more.does u.more.more.more.does in
    writing_stops key context xs writes journal (certain xs) (certain_state xs) s j m (commit_making key context journal xs writes whole)
    (record { between = a.between; taken = rw storage at t.more.more.more.more; leaves = a.leaves }) (record { between = b.between; taken = rw journal_is at u.more.more.more.more; leaves = b.leaves })

pub commit_rests : (key context journal xs : List ℕ) (writes : Writes) (s j : StorageState) → IsJournal key context writes journal
    → Taken (storage_effect writes) (commit_steps (length writes)) (certain_state xs) s → Taken (journal_effect journal) (commit_steps (length writes)) (certain_state []) j → IsAtRest (Some s.disk) (Some j.disk) (after_writes writes xs)
commit_rests key context journal xs writes s j whole t u =
    let storage = t.more.more.more.does ∙ t.more.more.does ∙ t.more.does ∙ t.does in
    let journal_is = written_journal journal (long key context journal writes whole) u.between u.more.between u.more.more.between u.more.more.more.between u.does u.more.does u.more.more.does u.more.more.more.does in record {
      storage_is = ap Some (writing_ends_storage key context xs writes journal (certain xs) (certain_state xs) s (commit_making key context journal xs writes whole) (rw storage at t.more.more.more.more));
      journal_is = ap Some (writing_ends_journal journal (length writes) j (rw journal_is at u.more.more.more.more));
    }

-- ---- a recovery

-- a crash leaves no more, and what was certain stays so
syncing_recovers : (key context xs : List ℕ) (writes : Writes) (s s' j j' : Disk) → RecoversUnlessOtherJournal key context xs writes (Some s) (Some j) → LeavesNoMore s' s × StaysCertain s s' → LeavesNoMore j' j × StaysCertain j j'
    → RecoversUnlessOtherJournal key context xs writes (Some s') (Some j')
syncing_recovers key context xs writes s s' j j' recovers p q = record {
  storage_disk = s';
  journal_disk = j';
  storage_is = refl;
  journal_is = refl;
  gives = λ ys js a b no_other_journal. gives_of key context xs writes s j recovers ys js (p.0 ys a) (q.0 js b) no_other_journal;
  safe = cases (safe_of key context xs writes s j recovers);
}
  where
    cases : IsSafe key context writes s j → IsSafe key context writes s' j'
    cases (inl storage) = inl (storage.0, p.1 storage.0 storage.1)
    cases (inr journal) = inr (journal.0, journal.1, q.1 journal.0 journal.2)

as_it_was : (d d' : Disk) → d' ≡ d → LeavesNoMore d' d × StaysCertain d d'
as_it_was d d' same = rw same (λ bytes crashed. crashed, λ bytes within. within)

-- ---- by a journal without writes, or by one that is not whole

-- the storage holds one or the other, and a sync makes that certain
record Unwritten (xs : List ℕ) (writes : Writes) (s : StorageState) : Type 0 where
  one : IsOneOf xs (after_writes writes xs) s.bytes
  settled : SettlesTo s.disk s.bytes

unwritten_storage : (key context xs : List ℕ) (writes : Writes) (s j : StorageState) → Recoverable key context xs writes [] s j → Unwritten xs writes s
unwritten_storage key context xs writes s j r = record { one = one r.redone; settled = cases (safe_of key context xs writes s.disk j.disk r.recovers) }
  where
    gives : (ys : List ℕ) → Crashed s.disk ys → GivesOneOf key context xs (after_writes writes xs) j.bytes ys
    gives ys crashed = gives_of key context xs writes s.disk j.disk r.recovers ys j.bytes crashed r.journal r.no_other_journal

    one : AreRedone key context j.bytes [] → IsOneOf xs (after_writes writes xs) s.bytes
    one (inl whole) = (gives s.bytes r.storage).whole [] whole
    one (inr none) = (gives s.bytes r.storage).other none.1

    -- a whole journal without writes is that of no writes
    only : IsJournal key context [] j.bytes → (ys : List ℕ) → Crashed s.disk ys → ys ≡ xs
    only whole ys crashed =
        let none = r.no_other_journal [] whole in
        elim ((gives ys crashed).whole [] whole) [ inl before ↦ before | inr all ↦ all ∙ ap (λ (l : Writes). after_writes l xs) (sym none) ]

    journaled : IsJournal key context writes j.bytes → AreRedone key context j.bytes [] → SettlesTo s.disk s.bytes
    journaled whole (inl empty) = rw (only empty s.bytes r.storage) (settles_only s.disk xs (only empty))
    journaled whole (inr none) = absurd (none.1 writes whole)

    cases : IsSafe key context writes s.disk j.disk → SettlesTo s.disk s.bytes
    cases (inl storage) =
        rw (certain_only storage.0 s.bytes (within_crashed s.disk (certain storage.0) storage.1 s.bytes r.storage)) (within_settles s.disk (certain storage.0) storage.0 storage.1 (settles_certain storage.0))
    cases (inr journal) = journaled (rw (certain_only journal.0 j.bytes (within_crashed j.disk (certain journal.0) journal.2 j.bytes r.journal)) journal.1) r.redone

-- the storage is as its sync left it
unwritten_stays : (k : ℕ) (zs : List ℕ) (s a s' : StorageState) → ((b : StorageState) → Does Syncs s b → b.disk ≡ certain zs) → Taken (storage_effect []) (take (suc k) (recovery_steps 0)) s a
    → Leaves (storage_effect [] (step_at (recovery_steps 0) (suc k))) a s' → s'.disk ≡ certain zs
unwritten_stays zero zs s a s' synced taken leaves = rw (leaves, taken.more) (synced taken.between taken.does)
unwritten_stays (suc zero) zs s a s' synced taken leaves = rw (leaves, taken.more.more, taken.more.does) (synced taken.between taken.does)
unwritten_stays (suc (suc zero)) zs s a s' synced taken leaves = rw (leaves, taken.more.more.more, taken.more.more.does, taken.more.does) (synced taken.between taken.does)
unwritten_stays (suc (suc (suc zero))) zs s a s' synced taken leaves =
    rw (leaves, taken.more.more.more.more, taken.more.more.more.does, taken.more.more.does, taken.more.does) (synced taken.between taken.does)
unwritten_stays (suc (suc (suc (suc k)))) zs s a s' synced taken leaves =
    rw (leaves, taken.more.more.more.more, taken.more.more.more.does, taken.more.more.does, taken.more.does) (synced taken.between taken.does)

unwritten_recovers : (key context xs : List ℕ) (writes : Writes) (s j s' j' : StorageState) (k : ℕ) → Recoverable key context xs writes [] s j → StopsAt (storage_effect []) (recovery_steps 0) k s s' → StopsAt (journal_effect j.bytes) (recovery_steps 0) k j j'
    → RecoversUnlessOtherJournal key context xs writes (Some s'.disk) (Some j'.disk)
unwritten_recovers key context xs writes s j s' j' zero r a b =
    syncing_recovers key context xs writes s.disk s'.disk j.disk j'.disk r.recovers (rw a.taken at a.leaves) (as_it_was j.disk j'.disk (ap (λ (h : StorageState). h.disk) (b.leaves ∙ b.taken)))
unwritten_recovers key context xs writes s j s' j' (suc k) r a b =
    let storage = unwritten_storage key context xs writes s j r in
    let is_certain = unwritten_stays k s.bytes s a.between s' (λ c synced. synced.1.certainly s.bytes storage.settled) a.taken a.leaves in
    any_journal key context xs writes s.bytes s'.disk j'.disk storage.one (rw is_certain (within_itself (certain s.bytes)))

-- ---- by a whole journal

-- its writes give the same, whatever a crash leaves of the storage
written_over : (key context xs : List ℕ) (writes : Writes) (s j : StorageState) → Recoverable key context xs writes writes s j → IsJournal key context writes j.bytes → (ys : List ℕ) → Crashed s.disk ys → after_writes writes ys ≡ after_writes writes xs
written_over key context xs writes s j r whole ys crashed =
    sym (again writes ys) ∙ one_written writes xs (after_writes writes ys) ((gives_of key context xs writes s.disk j.disk r.recovers ys j.bytes crashed r.journal r.no_other_journal).whole writes whole)

recovery_making : (key context xs : List ℕ) (writes : Writes) (s j a : StorageState) → Recoverable key context xs writes writes s j → IsJournal key context writes j.bytes → Does Syncs s a → Making key context xs writes j.bytes s.disk a
recovery_making key context xs writes s j a r whole synced = record { whole = whole; written = written_over key context xs writes s j r whole; within = synced.1.otherwise }

whole_recovers : (key context xs : List ℕ) (write : ℕ × List ℕ) (writes : Writes) (s j s' j' : StorageState) (k : ℕ) → Recoverable key context xs (write ∷ writes) (write ∷ writes) s j → IsJournal key context (write ∷ writes) j.bytes
    → StopsAt (storage_effect (write ∷ writes)) (recovery_steps (length (write ∷ writes))) k s s' → StopsAt (journal_effect j.bytes) (recovery_steps (length (write ∷ writes))) k j j'
    → RecoversUnlessOtherJournal key context xs (write ∷ writes) (Some s'.disk) (Some j'.disk)
whole_recovers key context xs write writes s j s' j' zero r whole a b =
    syncing_recovers key context xs (write ∷ writes) s.disk s'.disk j.disk j'.disk r.recovers (rw a.taken at a.leaves) (as_it_was j.disk j'.disk (ap (λ (h : StorageState). h.disk) (b.leaves ∙ b.taken)))
whole_recovers key context xs write writes s j s' j' (suc zero) r whole a b =
    syncing_recovers key context xs (write ∷ writes) s.disk s'.disk j.disk j'.disk r.recovers (rw (a.leaves, a.taken.more) (failed_syncs s a.taken.between a.taken.does.1.otherwise)) (rw (b.taken.more, b.taken.does) at b.leaves)
whole_recovers key context xs write writes s j s' j' (suc (suc m)) r whole a b =
    let t = a.taken in
    let u = b.taken in
    writing_stops key context xs (write ∷ writes) j.bytes s.disk t.between s' j' m (recovery_making key context xs (write ∷ writes) s j t.between r whole t.does)
    (record { between = a.between; taken = rw t.more.does at t.more.more; leaves = a.leaves }) (record { between = b.between; taken = rw (u.more.does, u.does) at u.more.more; leaves = b.leaves })

-- ---- by any

-- a whole journal has the writes of the commit
the_writes : (key context xs : List ℕ) (writes found : Writes) (s j : StorageState) → Recoverable key context xs writes found s j → ((found ≡ writes) × IsJournal key context writes j.bytes) ⊎ (found ≡ [])
the_writes key context xs writes found s j r = cases r.redone
  where
    cases : AreRedone key context j.bytes found → ((found ≡ writes) × IsJournal key context writes j.bytes) ⊎ (found ≡ [])
    cases (inl whole) = let same = r.no_other_journal found whole in inl (same, rw same at whole)
    cases (inr none) = inr none.0

pub recovery_recovers : (key context xs : List ℕ) (writes found : Writes) (s j s' j' : StorageState) (k : ℕ) → Recoverable key context xs writes found s j → StopsAt (storage_effect found) (recovery_steps (length found)) k s s'
    → StopsAt (journal_effect j.bytes) (recovery_steps (length found)) k j j' → RecoversUnlessOtherJournal key context xs writes (Some s'.disk) (Some j'.disk)
recovery_recovers key context xs writes [] s j s' j' k r a b = unwritten_recovers key context xs writes s j s' j' k r a b
recovery_recovers key context xs writes (write ∷ found) s j s' j' k r a b = cases (the_writes key context xs writes (write ∷ found) s j r)
  where
    cases : ((write ∷ found ≡ writes) × IsJournal key context writes j.bytes) ⊎ (write ∷ found ≡ []) → RecoversUnlessOtherJournal key context xs writes (Some s'.disk) (Some j'.disk)
    cases (inl same) = rw (← same.0) (whole_recovers key context xs write found s j s' j' k (rw (← same.0) at r) (rw (← same.0) at same.1) a b)
    cases (inr none) = absurd (let long = ap length none in omega (arith, long))

pub recovery_rests : (key context xs : List ℕ) (writes found : Writes) (s j s' j' : StorageState) → Recoverable key context xs writes found s j → Taken (storage_effect found) (recovery_steps (length found)) s s'
    → Taken (journal_effect j.bytes) (recovery_steps (length found)) j j' → RestsAtEither (Some s'.disk) (Some j'.disk) xs writes
recovery_rests key context xs writes [] s j s' j' r a b =
    let storage = unwritten_storage key context xs writes s j r in
    let c = b.more.more in
    record {
      bytes = s.bytes;
      one = storage.one;
      rests = record {
        storage_is = ap Some (unwritten_stays 3 s.bytes s s' s' (λ c synced. synced.1.certainly s.bytes storage.settled) a refl);
        journal_is = ap Some (ap (λ (h : StorageState). h.disk) c.more.more
            ∙ c.more.does.1.certainly [] (within_settles c.between.disk (disk_after b.more.between.disk (Size 0 ∷ [])) [] c.does.1 (settles_emptied b.more.between.disk)));
      };
    }
recovery_rests key context xs writes (write ∷ found) s j s' j' r a b = cases (the_writes key context xs writes (write ∷ found) s j r)
  where
    rested : (writes : Writes) → write ∷ found ≡ writes → Recoverable key context xs writes (write ∷ found) s j → IsJournal key context writes j.bytes → RestsAtEither (Some s'.disk) (Some j'.disk) xs writes
    rested writes same recoverable whole = rw (← same) (record {
      bytes = after_writes (write ∷ found) xs;
      one = inr refl;
      rests = record {
        storage_is = ap Some (writing_ends_storage key context xs (write ∷ found) j.bytes s.disk a.between s'
            (recovery_making key context xs (write ∷ found) s j a.between (rw (← same) at recoverable) (rw (← same) at whole) a.does) (rw a.more.does at a.more.more));
        journal_is = ap Some (writing_ends_journal j.bytes (length (write ∷ found)) j' (rw (b.more.does, b.does) at b.more.more));
      };
    })

    cases : ((write ∷ found ≡ writes) × IsJournal key context writes j.bytes) ⊎ (write ∷ found ≡ []) → RestsAtEither (Some s'.disk) (Some j'.disk) xs writes
    cases (inl same) = rested writes same.0 r same.1
    cases (inr none) = absurd (let long = ap length none in omega (arith, long))

-- ---- the beginning of the journal

-- a crash leaves no more, so it leaves the beginning
fewer_begin : (beginning : List ℕ) (now disk : Disk) → LeavesNoMore now disk → BeginsAs beginning disk → BeginsAs beginning now
fewer_begin beginning now disk fewer begins js crashed = begins js (fewer js crashed)

-- while the journal is emptied, with nothing else pending
emptying_begins : (beginning : List ℕ) (disk : Disk) (between : StorageState) (j' : StorageState) → disk.pending ≡ [] → BeginsAs beginning disk → IsWithin between.disk disk → Leaves (Changes (Size 0)) between j' → BeginsAs beginning j'.disk
emptying_begins beginning disk between j' nothing begins within leaves js crashed =
    emptied_begins beginning disk nothing begins js (within_crashed (disk_after between.disk (Size 0 ∷ [])) (disk_after disk (Size 0 ∷ [])) (within_after between.disk disk (Size 0 ∷ []) within) js (leaves js crashed))

-- and once it is
emptied_stays : (beginning : List ℕ) (disk : Disk) (a b : StorageState) → disk.pending ≡ [] → BeginsAs beginning disk → IsWithin a.disk disk → Does (Changes (Size 0)) a b → BeginsAs beginning b.disk
emptied_stays beginning disk a b nothing begins within does =
    emptying_begins beginning disk a b nothing begins within (λ js crashed. within_crashed b.disk (disk_after a.disk (Size 0 ∷ [])) does.1 js crashed)

empty_begins : (beginning : List ℕ) (disk : Disk) → disk ≡ certain [] → BeginsAs beginning disk
empty_begins beginning disk is = rw is (certain_begins beginning [] (inl (omega arith)))

writing_begins : (beginning js : List ℕ) (n m : ℕ) (j' : StorageState) → HasBeginning beginning js → StopsAt (journal_effect js) (writing_steps n) m (certain_state js) j' → BeginsAs beginning j'.disk
writing_begins beginning js n m j' has b = cases (far (suc m) n)
  where
    kept : m ≤ n → Leaves Nothing b.between j' → BeginsAs beginning j'.disk
    kept low leaves = rw (leaves ∙ journal_kept js (range_with_len 0 m) (certain_state js) b.between (rw (take_making n m low) at b.taken)) (certain_begins beginning js has)

    ended : (i : ℕ) (old between : StorageState) → old ≡ certain_state js → Taken (journal_effect js) (take (suc i) ends) old between → Leaves (journal_effect js (step_at ends (suc i))) between j' → BeginsAs beginning j'.disk
    ended zero old between is taken leaves =
        emptying_begins beginning (certain js) between j' refl (certain_begins beginning js has) (rw (taken.more, taken.does, is) (within_itself (certain js))) leaves
    ended (suc zero) old between is taken leaves =
        fewer_begin beginning j'.disk between.disk leaves.0
        (rw taken.more.more (emptied_stays beginning (certain js) taken.between taken.more.between refl (certain_begins beginning js has) (rw (taken.does, is) (within_itself (certain js))) taken.more.does))
    ended (suc (suc zero)) old between is taken leaves = emptied_all old between is taken (taken.more.more.more) leaves
      where
        emptied_all : (old between : StorageState) → old ≡ certain_state js → (taken : Taken (journal_effect js) (take 3 ends) old between) → between ≡ taken.more.more.between → j' ≡ between → BeginsAs beginning j'.disk
        emptied_all old between is taken same leaves =
            let synced = changed_synced js (Size 0) taken.more.between taken.more.more.between (rw (taken.does ∙ is) at taken.more.does) taken.more.more.does in
            empty_begins beginning j'.disk (ap (λ (h : StorageState). h.disk) (leaves ∙ same ∙ synced) ∙ ap certain (resized_none js))
    ended (suc (suc (suc i))) old between is taken leaves =
        let synced = changed_synced js (Size 0) taken.more.between taken.more.more.between (rw (taken.does ∙ is) at taken.more.does) taken.more.more.does in
        empty_begins beginning j'.disk (ap (λ (h : StorageState). h.disk) (leaves ∙ taken.more.more.more ∙ synced) ∙ ap certain (resized_none js))

    later : (i : ℕ) → suc m ≡ n + suc i → BeginsAs beginning j'.disk
    later zero is =
        let step : step_at (writing_steps n) m ≡ SyncStorage = step_ended n m (omega (arith, is)) ∙ ap (step_at ends) (let none : m - n ≡ 0 = omega (arith, is) in none) in
        kept (omega (arith, is)) (rw step at b.leaves)
    later (suc i) is =
        let sum : m ≡ n + suc i = omega (arith, is) in
        let steps = ap (λ (k : ℕ). take k (writing_steps n)) sum ∙ take_ended n (suc i) in
        let step = step_ended n m (omega (arith, is)) ∙ ap (step_at ends) (let rest : m - n ≡ suc i = omega (arith, is) in rest) in
        let both = taken_both (journal_effect js) (makes n) (take (suc i) ends) (certain_state js) b.between (rw steps at b.taken) in
        ended i both.between b.between (journal_kept js (range_with_len 0 n) (certain_state js) both.between both.before) both.behind (rw step at b.leaves)

    cases : (suc m ≤ n) ⊎ ((i : ℕ) × (suc m ≡ n + suc i)) → BeginsAs beginning j'.disk
    cases (inl low) = kept (omega (arith, low)) (rw (step_making n m low) at b.leaves)
    cases (inr more) = later more.0 more.1

pub commit_begins : (key context journal : List ℕ) (writes : Writes) (k : ℕ) (j : StorageState) → IsJournal key context writes journal → StopsAt (journal_effect journal) (commit_steps (length writes)) k (certain_state []) j → KeepsBeginning (take 512 journal) (Some j.disk)
commit_begins key context journal writes k j whole b = begins_keeps (take 512 journal) j.disk (cases k b)
  where
    beginning : List ℕ
    beginning = take 512 journal

    size : 512 ≤ length journal
    size = long key context journal writes whole

    first : BeginsAs beginning (disk_after (certain []) (Write 0 beginning ∷ []))
    first = beginning_begins beginning beginning (omega (arith, length-take-le 512 journal size))

    second : BeginsAs beginning (disk_after (certain beginning) (Write 512 (drop 512 journal) ∷ []))
    second = beginning_stays beginning (drop 512 journal) (length-take-le 512 journal size)

    synced : (a c : StorageState) → Does (Changes (Write 0 beginning)) (certain_state []) a → Does Syncs a c → c ≡ certain_state beginning
    synced a c p q = changed_synced [] (Write 0 beginning) a c p q ∙ ap certain_state (overwritten_whole [] beginning (omega arith))

    cases : (k : ℕ) → StopsAt (journal_effect journal) (commit_steps (length writes)) k (certain_state []) j → BeginsAs beginning j.disk
    cases zero b = fewer_begin beginning j.disk (disk_after (certain []) (Write 0 beginning ∷ [])) (rw b.taken at b.leaves) first
    cases (suc zero) b =
        fewer_begin beginning j.disk (disk_after (certain []) (Write 0 beginning ∷ []))
        (λ js crashed. within_crashed b.taken.between.disk (disk_after (certain []) (Write 0 beginning ∷ [])) b.taken.does.1 js ((rw b.taken.more at b.leaves).0 js crashed)) first
    cases (suc (suc zero)) b =
        fewer_begin beginning j.disk (disk_after (certain beginning) (Write 512 (drop 512 journal) ∷ []))
        (rw (b.taken.more.more, synced b.taken.between b.taken.more.between b.taken.does b.taken.more.does) at b.leaves) second
    cases (suc (suc (suc zero))) b =
        let t = b.taken in
        let before = synced t.between t.more.between t.does t.more.does in
        fewer_begin beginning j.disk (disk_after (certain beginning) (Write 512 (drop 512 journal) ∷ []))
        (λ js crashed. within_crashed t.more.more.between.disk (disk_after (certain beginning) (Write 512 (drop 512 journal) ∷ [])) (rw before at t.more.more.does).1 js ((rw t.more.more.more at b.leaves).0 js crashed)) second
    cases (suc (suc (suc (suc m)))) b =
        let u = b.taken in
        let journal_is = written_journal journal size u.between u.more.between u.more.more.between u.more.more.more.between u.does u.more.does u.more.more.does u.more.more.more.does in
        writing_begins beginning journal (length writes) m j (inr refl) (record { between = b.between; taken = rw journal_is at u.more.more.more.more; leaves = b.leaves })

pub recovery_begins : (beginning : List ℕ) (n k : ℕ) (j j' : StorageState) → Crashed j.disk j.bytes → BeginsAs beginning j.disk → StopsAt (journal_effect j.bytes) (recovery_steps n) k j j' → KeepsBeginning beginning (Some j'.disk)
recovery_begins beginning n k j j' possible begins b = begins_keeps beginning j'.disk (cases n k b)
  where
    spoilt_begins : BeginsAs beginning (spoilt j.disk)
    spoilt_begins = fewer_begin beginning (spoilt j.disk) j.disk (spoilt_crashed j.disk) begins

    cases : (n k : ℕ) → StopsAt (journal_effect j.bytes) (recovery_steps n) k j j' → BeginsAs beginning j'.disk
    cases zero zero b = rw (b.leaves ∙ b.taken) begins
    cases zero (suc zero) b = fewer_begin beginning j'.disk j.disk ((rw (b.taken.more, b.taken.does) at b.leaves).0) begins
    cases zero (suc (suc zero)) b =
        let t = b.taken in
        emptying_begins beginning (spoilt j.disk) b.between j' refl spoilt_begins (rw t.more.more ((rw t.does at t.more.does).1.otherwise)) b.leaves
    cases zero (suc (suc (suc zero))) b =
        let t = b.taken in
        fewer_begin beginning j'.disk b.between.disk b.leaves.0
        (rw t.more.more.more (emptied_stays beginning (spoilt j.disk) t.more.between t.more.more.between refl spoilt_begins ((rw t.does at t.more.does).1.otherwise) t.more.more.does))
    cases zero (suc (suc (suc (suc zero)))) b =
        let t = b.taken in
        empty_begins beginning j'.disk (ap (λ (h : StorageState). h.disk) (b.leaves ∙ t.more.more.more.more)
        ∙ t.more.more.more.does.1.certainly [] (within_settles t.more.more.between.disk (disk_after t.more.between.disk (Size 0 ∷ [])) [] t.more.more.does.1 (settles_emptied t.more.between.disk)))
    cases zero (suc (suc (suc (suc (suc k))))) b =
        let t = b.taken in
        empty_begins beginning j'.disk (ap (λ (h : StorageState). h.disk) (b.leaves ∙ t.more.more.more.more)
        ∙ t.more.more.more.does.1.certainly [] (within_settles t.more.more.between.disk (disk_after t.more.between.disk (Size 0 ∷ [])) [] t.more.more.does.1 (settles_emptied t.more.between.disk)))
    cases (suc n) zero b = rw (b.leaves ∙ b.taken) begins
    cases (suc n) (suc zero) b = fewer_begin beginning j'.disk j.disk ((rw (b.taken.more, b.taken.does) at b.leaves).0) begins
    cases (suc n) (suc (suc m)) b =
        let u = b.taken in
        writing_begins beginning j.bytes (suc n) m j' (begins j.bytes possible) (record { between = b.between; taken = rw (u.more.does, u.does) at u.more.more; leaves = b.leaves })
