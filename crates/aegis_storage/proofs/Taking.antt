-- Steps that are taken, and where they stop.
use Rattle.std.proofs.Common.{◌≡◌, ℕ, zero, suc, ◌+◌, ◌-◌, ◌<◌, ◌≤◌, ◌⊎◌, inl, inr, List, [], ◌∷◌, ◌++◌, Some, add-one, drop, get_or, length, map, take, refl, sym, subst, ap, ap₂, ◌∙◌, arith}
use Rattle.std.proofs.lemmas.List.{map-append, take-append-drop, take_all}
use Rattle.std.proofs.Math.Seq.{take-suc}
use Rattle.std.specs.List.{range_with_len}
use Rattle.aegis_storage.specs.Disk.{AreParts, Change, Crashed, Disk, IsWithin, Size, Write, Writes, disk_after, after_writes, certain, changed, changes, spoilt}
use Rattle.aegis_storage.specs.Journal.{IsJournal, RecoversUnlessOtherJournal}
use Rattle.aegis_storage.specs.Steps.{Changes, Does, Effect, StorageState, Leaves, LeavesNoMore, Nothing, Replaces, StopsAt, Syncs, Taken, certain_state, journal_effect, step_at, storage_effect, write_of, writing_steps}
use Rattle.aegis_storage.specs.declared.steps.Step.{Step}
use Rattle.aegis_storage.specs.declared.steps.Step.TheVariants.{Done, EmptyJournal, MakeWrite, ReplaceJournal, SyncJournal, SyncStorage, WriteBeginning, WriteRest}
use Rattle.aegis_storage.proofs.Disks.{after_after, crashed_more, no_more, parts_left, left_crashed, resized_none, settles_after, settles_certain, spoilt_crashed, stays_certain, within_after, within_both, within_crashed, within_itself, within_settles, written_again}
use Rattle.aegis_storage.proofs.Journals.{any_journal, whole_journal}
use Rattle.aegis_storage.proofs.StepFacts.{ends, far, makes, step_ended, step_making, take_ended, take_making}

-- ---- one call

-- a call that has not begun
pub not_begun : (effect : Effect) (h : StorageState) → Leaves effect h h
not_begun Nothing h = refl
not_begun (Changes change) h = λ bytes crashed. crashed_more h.disk (change ∷ []) bytes crashed
not_begun Syncs h = (λ bytes crashed. crashed, λ bytes within. within)
not_begun Replaces h = (λ bytes crashed. crashed, λ bytes within. within)

-- a call that has failed
pub failed_changes : (change : Change) (old new : StorageState) → IsWithin new.disk (spoilt (disk_after old.disk (change ∷ []))) → Leaves (Changes change) old new
failed_changes change old new within bytes crashed =
    spoilt_crashed (disk_after old.disk (change ∷ [])) bytes (within_crashed new.disk (spoilt (disk_after old.disk (change ∷ []))) within bytes crashed)

pub failed_syncs : (old new : StorageState) → IsWithin new.disk (spoilt old.disk) → Leaves Syncs old new
failed_syncs old new within =
    (λ bytes crashed. spoilt_crashed old.disk bytes (within_crashed new.disk (spoilt old.disk) within bytes crashed), λ bytes certainly. stays_certain old.disk new.disk bytes within certainly)

-- a call of a storage that has returned
pub returned : (writes : Writes) (step : Step) (old new : StorageState) → Does (storage_effect writes step) old new → Leaves (storage_effect writes step) old new
returned writes WriteBeginning old new does = does
returned writes WriteRest old new does = does
returned writes SyncJournal old new does = does
returned writes ReplaceJournal old new does = does
returned writes (MakeWrite number) old new does = λ bytes crashed. within_crashed new.disk (disk_after old.disk (write_of writes number ∷ [])) does.1 bytes crashed
returned writes SyncStorage old new does = failed_syncs old new does.1.otherwise
returned writes EmptyJournal old new does = does
returned writes Done old new does = does

pub held_is : (h : StorageState) (xs : List ℕ) → h.bytes ≡ xs → h.disk ≡ certain xs → h ≡ certain_state xs
held_is h xs bytes disk = let both : List ℕ → Disk → StorageState = λ b d. record { bytes = b; disk = d } in ap₂ both bytes disk

-- a change of certain bytes, and a sync
pub changed_synced : (xs : List ℕ) (change : Change) (a b : StorageState) → Does (Changes change) (certain_state xs) a → Does Syncs a b → b ≡ certain_state (changed change xs)
changed_synced xs change a b p q =
    held_is b (changed change xs) (q.0 ∙ p.0)
    (q.1.certainly (changed change xs) (within_settles a.disk (disk_after (certain xs) (change ∷ [])) (changed change xs) p.1 (settles_after xs (change ∷ []))))

-- a sync of certain bytes
pub certain_synced : (xs : List ℕ) (b : StorageState) → Does Syncs (certain_state xs) b → b ≡ certain_state xs
certain_synced xs b q = held_is b xs q.0 (q.1.certainly xs (settles_certain xs))

-- ---- several calls

-- the first steps, and those after them
pub record TakenBoth (effect : Step → Effect) (first second : List Step) (old new : StorageState) : Type 0 where
  pub between : StorageState
  pub before : Taken effect first old between
  pub behind : Taken effect second between new

pub taken_both : (effect : Step → Effect) (first second : List Step) (old new : StorageState) → Taken effect (first ++ second) old new → TakenBoth effect first second old new
taken_both effect [] second old new taken = record { between = old; before = refl; behind = taken }
taken_both effect (step ∷ first) second old new taken =
    let rest = taken_both effect first second taken.between new taken.more in record {
      between = rest.between;
      before = record { between = taken.between; does = taken.does; more = rest.before };
      behind = rest.behind;
    }

-- one step more, where none is left too
pub taken_more : (effect : Step → Effect) → effect Done ≡ Nothing → (steps : List Step) (k : ℕ) (old h new : StorageState) → Taken effect (take k steps) old h → Does (effect (step_at steps k)) h new → Taken effect (take (suc k) steps) old new
taken_more effect none [] zero old h new taken does = (rw none at does) ∙ taken
taken_more effect none [] (suc k) old h new taken does = (rw none at does) ∙ taken
taken_more effect none (step ∷ steps) zero old h new taken does = record { between = new; does = rw taken at does; more = refl }
taken_more effect none (step ∷ steps) (suc k) old h new taken does =
    record { between = taken.between; does = taken.does; more = taken_more effect none steps k taken.between h new taken.more does }

-- ---- while the writes are made

pub journal_kept : (journal numbers : List ℕ) (old new : StorageState) → Taken (journal_effect journal) (map MakeWrite numbers) old new → new ≡ old
journal_kept journal [] old new taken = taken
journal_kept journal (i ∷ numbers) old new taken = journal_kept journal numbers taken.between new taken.more ∙ taken.does

next_change : (writes : Writes) (m : ℕ) → m < length writes → changes (take (suc m) writes) ≡ changes (take m writes) ++ write_of writes m ∷ []
next_change writes m low =
    ap changes (take-suc writes m (0, []) low) ∙ map-append (λ write. Write write.0 write.1) (take m writes) (get_or writes m (0, []) ∷ [])

-- one write more
one_more : (writes : Writes) (disk old new : Disk) (m : ℕ) → m < length writes → IsWithin old (disk_after disk (changes (take m writes))) → IsWithin new (disk_after old (write_of writes m ∷ []))
    → IsWithin new (disk_after disk (changes (take (suc m) writes)))
one_more writes disk old new m low within more =
    within_both new (disk_after old (write_of writes m ∷ [])) (disk_after disk (changes (take (suc m) writes))) more
    (subst (λ (d : Disk). IsWithin (disk_after old (write_of writes m ∷ [])) d) (after_after disk (changes (take m writes)) (write_of writes m ∷ []) ∙ ap (disk_after disk) (sym (next_change writes m low)))
    (within_after old (disk_after disk (changes (take m writes))) (write_of writes m ∷ []) within))

-- m writes from one of them on are pending, after those before it
writes_more : (writes : Writes) (disk : Disk) (from m : ℕ) (old new : StorageState) → from + m ≤ length writes → IsWithin old.disk (disk_after disk (changes (take from writes)))
    → Taken (storage_effect writes) (map MakeWrite (range_with_len from m)) old new → IsWithin new.disk (disk_after disk (changes (take (from + m) writes)))
writes_more writes disk from zero old new low within taken =
    let sum : from ≡ from + 0 = omega arith in subst (λ (k : ℕ). IsWithin new.disk (disk_after disk (changes (take k writes)))) sum (rw taken within)
writes_more writes disk from (suc m) old new low within taken =
    let one = one_more writes disk old.disk taken.between.disk from (omega (arith, low)) within taken.does.1 in
    let sum : (from + 1) + m ≡ from + suc m = omega arith in
    subst (λ (k : ℕ). IsWithin new.disk (disk_after disk (changes (take k writes)))) sum
    (writes_more writes disk (from + 1) m taken.between new (omega (arith, low)) (rw add-one one) taken.more)

pub writes_made : (writes : Writes) (disk : Disk) (m : ℕ) (old new : StorageState) → m ≤ length writes → IsWithin old.disk disk → Taken (storage_effect writes) (makes m) old new
    → IsWithin new.disk (disk_after disk (changes (take m writes)))
writes_made writes disk m old new low within taken =
    let sum : 0 + m ≡ m = omega arith in
    subst (λ (k : ℕ). IsWithin new.disk (disk_after disk (changes (take k writes)))) sum
    (writes_more writes disk 0 m old new (omega (arith, low)) (subst (λ (d : Disk). IsWithin old.disk d) (sym (no_more disk)) within) taken)

-- ---- from the first write on

-- What is known there: the journal has the writes, and over whatever a crash leaves of the storage they give the same.
pub record Making (key context xs : List ℕ) (writes : Writes) (js : List ℕ) (disk : Disk) (s : StorageState) : Type 0 where
  pub whole : IsJournal key context writes js
  pub written : (ys : List ℕ) → Crashed disk ys → after_writes writes ys ≡ after_writes writes xs
  pub within : IsWithin s.disk (spoilt disk)

some_parts : (writes : Writes) (m : ℕ) (parts : List Change) → AreParts (changes (take m writes)) parts → AreParts (changes writes) parts
some_parts writes m parts are =
    subst (λ (l : List Change). AreParts l parts) (sym (map-append (λ write. Write write.0 write.1) (take m writes) (drop m writes)) ∙ ap changes (take-append-drop m writes))
    (parts_left (changes (take m writes)) (changes (drop m writes)) parts are)

-- whatever a crash leaves of some of the writes, all of them give the same
some_written : (key context xs : List ℕ) (writes : Writes) (js : List ℕ) (disk : Disk) (s : StorageState) (m : ℕ) → Making key context xs writes js disk s
    → (ys : List ℕ) → Crashed (disk_after (spoilt disk) (changes (take m writes))) ys → after_writes writes ys ≡ after_writes writes xs
some_written key context xs writes js disk s m making ys crashed =
    ap (after_writes writes) crashed.are ∙ written_again writes crashed.parts crashed.base (some_parts writes m crashed.parts crashed.of_pending)
    ∙ making.written crashed.base (left_crashed disk crashed.base crashed.of_lost)

-- while they are made, and until they are synced
making_stops : (key context xs : List ℕ) (writes : Writes) (js : List ℕ) (disk : Disk) (s s' j' : StorageState) (m : ℕ) → Making key context xs writes js disk s
    → LeavesNoMore s'.disk (disk_after (spoilt disk) (changes (take m writes))) → j' ≡ certain_state js → RecoversUnlessOtherJournal key context xs writes (Some s'.disk) (Some j'.disk)
making_stops key context xs writes js disk s s' j' m making leaves same =
    whole_journal key context xs writes js s'.disk j'.disk making.whole (rw same (within_itself (certain js)))
    (λ ys crashed. some_written key context xs writes js disk s m making ys (leaves ys crashed))

-- once they are synced
made_certain : (key context xs : List ℕ) (writes : Writes) (js : List ℕ) (disk : Disk) (s a b : StorageState) → Making key context xs writes js disk s → IsWithin a.disk (disk_after (spoilt disk) (changes writes)) → Does Syncs a b
    → b.disk ≡ certain (after_writes writes xs)
made_certain key context xs writes js disk s a b making within synced =
    synced.1.certainly (after_writes writes xs)
    (within_settles a.disk (disk_after (spoilt disk) (changes writes)) (after_writes writes xs) within (λ base left. making.written base (left_crashed disk base left)))

all_made : (writes : Writes) (disk : Disk) (old new : StorageState) → IsWithin old.disk disk → Taken (storage_effect writes) (makes (length writes)) old new → IsWithin new.disk (disk_after disk (changes writes))
all_made writes disk old new within taken =
    subst (λ (l : Writes). IsWithin new.disk (disk_after disk (changes l))) (take_all (length writes) writes (omega arith)) (writes_made writes disk (length writes) old new (omega arith) within taken)

-- the storage is as the sync left it
ended_storage : (writes : Writes) (i : ℕ) (zs : List ℕ) (a s s' : StorageState) → ((b : StorageState) → Does Syncs a b → b.disk ≡ certain zs) → Taken (storage_effect writes) (take (suc i) ends) a s
    → Leaves (storage_effect writes (step_at ends (suc i))) s s' → s'.disk ≡ certain zs
ended_storage writes zero zs a s s' synced taken leaves = rw (leaves, taken.more) (synced taken.between taken.does)
ended_storage writes (suc zero) zs a s s' synced taken leaves = rw (leaves, taken.more.more, taken.more.does) (synced taken.between taken.does)
ended_storage writes (suc (suc zero)) zs a s s' synced taken leaves = rw (leaves, taken.more.more.more, taken.more.more.does, taken.more.does) (synced taken.between taken.does)
ended_storage writes (suc (suc (suc i))) zs a s s' synced taken leaves = rw (leaves, taken.more.more.more, taken.more.more.does, taken.more.does) (synced taken.between taken.does)

-- From the first write on, with a journal that is certain.
pub writing_stops : (key context xs : List ℕ) (writes : Writes) (js : List ℕ) (disk : Disk) (s s' j' : StorageState) (m : ℕ) → Making key context xs writes js disk s
    → StopsAt (storage_effect writes) (writing_steps (length writes)) m s s' → StopsAt (journal_effect js) (writing_steps (length writes)) m (certain_state js) j'
    → RecoversUnlessOtherJournal key context xs writes (Some s'.disk) (Some j'.disk)
writing_stops key context xs writes js disk s s' j' m making storage journal = cases (far (suc m) (length writes))
  where
    n : ℕ
    n = length writes

    -- the journal is not touched before the writes are synced
    untouched : (i : ℕ) → m ≤ n → take m (writing_steps n) ≡ makes m → Leaves Nothing journal.between j' → j' ≡ certain_state js
    untouched i low steps leaves = leaves ∙ journal_kept js (range_with_len 0 m) (certain_state js) journal.between (rw steps at journal.taken)

    before : m < n → RecoversUnlessOtherJournal key context xs writes (Some s'.disk) (Some j'.disk)
    before low =
        let steps = take_making n m (omega (arith, low)) in
        let step = step_making n m low in
        let made = writes_made writes (spoilt disk) m s storage.between (omega (arith, low)) making.within (rw steps at storage.taken) in
        making_stops key context xs writes js disk s s' j' (suc m) making
        (λ ys crashed. within_crashed (disk_after storage.between.disk (write_of writes m ∷ [])) (disk_after (spoilt disk) (changes (take (suc m) writes)))
        (one_more writes (spoilt disk) storage.between.disk (disk_after storage.between.disk (write_of writes m ∷ [])) m low made (within_itself (disk_after storage.between.disk (write_of writes m ∷ [])))) ys
        ((rw step at storage.leaves) ys crashed))
        (untouched m (omega (arith, low)) steps (rw step at journal.leaves))

    syncing : m ≡ n → RecoversUnlessOtherJournal key context xs writes (Some s'.disk) (Some j'.disk)
    syncing is =
        let steps = take_making n m (omega (arith, is)) in
        let step : step_at (writing_steps n) m ≡ SyncStorage = step_ended n m (omega (arith, is)) ∙ ap (step_at ends) (let none : m - n ≡ 0 = omega (arith, is) in none) in
        let made = writes_made writes (spoilt disk) m s storage.between (omega (arith, is)) making.within (rw steps at storage.taken) in
        making_stops key context xs writes js disk s s' j' m making
        (λ ys crashed. within_crashed storage.between.disk (disk_after (spoilt disk) (changes (take m writes))) made ys ((rw step at storage.leaves).0 ys crashed))
        (untouched m (omega (arith, is)) steps (rw step at journal.leaves))

    ended : (i : ℕ) → m ≡ n + suc i → RecoversUnlessOtherJournal key context xs writes (Some s'.disk) (Some j'.disk)
    ended i is =
        let steps : take m (writing_steps n) ≡ makes n ++ take (suc i) ends = ap (λ (k : ℕ). take k (writing_steps n)) is ∙ take_ended n (suc i) in
        let step : step_at (writing_steps n) m ≡ step_at ends (suc i) = step_ended n m (omega (arith, is)) ∙ ap (step_at ends) (let rest : m - n ≡ suc i = omega (arith, is) in rest) in
        let both = taken_both (storage_effect writes) (makes n) (take (suc i) ends) s storage.between (rw steps at storage.taken) in
        let made = all_made writes (spoilt disk) s both.between making.within both.before in
        let is_certain = ended_storage writes i (after_writes writes xs) both.between storage.between s' (λ b synced. made_certain key context xs writes js disk s both.between b making made synced) both.behind (rw step at storage.leaves) in
        any_journal key context xs writes (after_writes writes xs) s'.disk j'.disk (inr refl) (rw is_certain (within_itself (certain (after_writes writes xs))))

    later : (i : ℕ) → suc m ≡ n + suc i → RecoversUnlessOtherJournal key context xs writes (Some s'.disk) (Some j'.disk)
    later zero is = syncing (omega (arith, is))
    later (suc i) is = ended i (omega (arith, is))

    cases : (suc m ≤ n) ⊎ ((i : ℕ) × (suc m ≡ n + suc i)) → RecoversUnlessOtherJournal key context xs writes (Some s'.disk) (Some j'.disk)
    cases (inl low) = before (omega (arith, low))
    cases (inr more) = later more.0 more.1

-- all of them
pub writing_ends_storage : (key context xs : List ℕ) (writes : Writes) (js : List ℕ) (disk : Disk) (s s' : StorageState) → Making key context xs writes js disk s → Taken (storage_effect writes) (writing_steps (length writes)) s s'
    → s'.disk ≡ certain (after_writes writes xs)
writing_ends_storage key context xs writes js disk s s' making taken =
    let both = taken_both (storage_effect writes) (makes (length writes)) ends s s' taken in
    let made = all_made writes (spoilt disk) s both.between making.within both.before in
    ended_storage writes 2 (after_writes writes xs) both.between s' s' (λ b synced. made_certain key context xs writes js disk s both.between b making made synced) both.behind refl

pub writing_ends_journal : (js : List ℕ) (n : ℕ) (j' : StorageState) → Taken (journal_effect js) (writing_steps n) (certain_state js) j' → j'.disk ≡ certain []
writing_ends_journal js n j' taken =
    let both = taken_both (journal_effect js) (makes n) ends (certain_state js) j' taken in
    let kept = journal_kept js (range_with_len 0 n) (certain_state js) both.between both.before in
    let behind = rw kept at both.behind in
    let emptied = rw behind.does at behind.more in
    let synced = changed_synced js (Size 0) emptied.between emptied.more.between emptied.does emptied.more.does in ap (λ (h : StorageState). h.disk) (emptied.more.more ∙ synced) ∙ ap certain (resized_none js)
