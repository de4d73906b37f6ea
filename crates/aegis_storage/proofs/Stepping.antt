-- The steps that a driver takes, on storages whose bytes and disks may be known.
use Rattle.std.proofs.Common.{◌≡◌, ℕ, zero, suc, ◌+◌, ◌-◌, ◌<◌, ◌≤◌, inl, inr, List, [], ◌∷◌, ◌++◌, IfSome, None, Some, Option, drop, get_or, length, map, min, take, refl, subst, sym, ap, ◌∙◌, arith}
use Rattle.std.proofs.lemmas.List.{drop_all, length-append, take_all}
use Rattle.std.proofs.Math.Seq.{drop-cons, take-suc}
use Rattle.std.specs.Io.KnownBytes.{Keeps}
use Rattle.std.specs.List.{range_with_len}
use Rattle.aegis_storage.specs.Disk.{Adds, Disk, IfKnown, IsWithin, MakesSynced, Spoils, Write, Writes, WritesAll, WritesAt, disk_after, after_writes, changed, spoilt}
use Rattle.aegis_storage.specs.Journal.{AreWithinStorage, RecoversKnown, entries, entry}
use Rattle.aegis_storage.specs.Steps.{AreRedone, Changes, Does, Effect, StorageState, Leaves, Nothing, Replaces, StopsAt, Syncs, Taken, certain_state, journal_effect, step_at, steps_of, storage_effect, write_of, writing_steps}
use Rattle.aegis_storage.specs.Private.{Fails, Succeeds, IsNext, Knows, LeavesOne, made_with}
use Rattle.aegis_storage.specs.declared.steps.Order.{Order}
use Rattle.aegis_storage.specs.declared.steps.Order.TheVariants.{Commit, Recovery}
use Rattle.aegis_storage.specs.declared.steps.Step.{Step}
use Rattle.aegis_storage.specs.declared.steps.Step.TheVariants.{Done, EmptyJournal, MakeWrite, ReplaceJournal, SyncJournal, SyncStorage, WriteBeginning, WriteRest}
use Rattle.aegis_storage.specs.declared.store.TheConstants.{MAX_STORAGE_BYTES}
use Rattle.aegis_storage.proofs.Disks.{no_more, written_more}
use Rattle.aegis_storage.proofs.Journals.{known_whole, same_entry}
use Rattle.aegis_storage.proofs.StepFacts.{ends, far, long-makes, makes, step_ended, step_making, take_making}
use Rattle.aegis_storage.proofs.Taking.{failed_changes, failed_syncs, not_begun, returned, taken_more}

-- ---- one call

-- the bytes and the disk are known, and are something of which P holds
pub record KnowsOne (P : StorageState → Type 0) (bytes : Option (List ℕ)) (disk : Option Disk) : Type 0 where
  pub new : StorageState
  pub is : Knows new bytes disk
  pub so : P new

kept : (xs : List ℕ) (a b : Option (List ℕ)) → a ≡ Some xs → Keeps a b → b ≡ Some xs
kept xs a b is keeps = cases b (rw is at keeps)
  where
    cases : (b : Option (List ℕ)) → Keeps (Some xs) b → b ≡ Some xs
    cases None k = absurd k
    cases (Some ys) k = ap Some k

known : {X : Type 0} → (R : X → X → Type 0) (x : X) (a b : Option X) → a ≡ Some x → IfKnown R a b → (y : X) × (b ≡ Some y) × R x y
known {X = X} R x a b is k = cases b (rw is at k)
  where
    cases : (b : Option X) → IfKnown R (Some x) b → (y : X) × (b ≡ Some y) × R x y
    cases None p = absurd p
    cases (Some y) p = (y, refl, p)

pub known_does : (effect : Effect) (h : StorageState) (b b' : Option (List ℕ)) (d d' : Option Disk) → Succeeds effect b b' d d' → Knows h b d → KnowsOne (Does effect h) b' d'
known_does Nothing h b b' d d' has is = record { new = h; is = (has.0 ∙ is.0, has.1 ∙ is.1); so = refl }
known_does (Changes change) h b b' d d' has is =
    let bytes = known (λ xs ys. ys ≡ changed change xs) h.bytes b b' is.0 has.0 in
    let disk = known (λ disk now. IsWithin now (disk_after disk (change ∷ []))) h.disk d d' is.1 has.1 in
    record { new = record { bytes = bytes.0; disk = disk.0 }; is = (bytes.1, disk.1); so = (bytes.2, disk.2) }
known_does Syncs h b b' d d' has is =
    let disk = known MakesSynced h.disk d d' is.1 has.1 in record { new = record { bytes = h.bytes; disk = disk.0 }; is = (kept h.bytes b b' is.0 has.0, disk.1); so = (refl, disk.2) }
known_does Replaces h b b' d d' has is = record { new = certain_state h.bytes; is = (kept h.bytes b b' is.0 has.0, has.1 h.disk h.bytes is.1 is.0); so = refl }

spoilt_now : (h : StorageState) (d d' : Option Disk) → d ≡ Some h.disk → Spoils d d' [] → (now : Disk) × (d' ≡ Some now) × IsWithin now (spoilt h.disk)
spoilt_now h d d' is spoils =
    let now = known (λ disk now. IsWithin now (spoilt (disk_after disk []))) h.disk d d' is spoils in (now.0, now.1, subst (λ (k : Disk). IsWithin now.0 (spoilt k)) (no_more h.disk) now.2)

pub known_leaves : (effect : Effect) (h : StorageState) (d d' : Option Disk) → Fails effect d d' → d ≡ Some h.disk → LeavesOne (Leaves effect h) d'
known_leaves Nothing h d d' fails is = record { new = h; is = fails ∙ is; so = refl }
known_leaves (Changes change) h d d' fails is =
    let now = known (λ disk now. IsWithin now (spoilt (disk_after disk (change ∷ [])))) h.disk d d' is fails in
    record { new = record { bytes = h.bytes; disk = now.0 }; is = now.1; so = failed_changes change h (record { bytes = h.bytes; disk = now.0 }) now.2 }
known_leaves Syncs h d d' fails is =
    let now = spoilt_now h d d' is fails in record { new = record { bytes = h.bytes; disk = now.0 }; is = now.1; so = failed_syncs h (record { bytes = h.bytes; disk = now.0 }) now.2 }
known_leaves Replaces h d d' fails is =
    let now = spoilt_now h d d' is fails in record { new = record { bytes = h.bytes; disk = now.0 }; is = now.1; so = failed_syncs h (record { bytes = h.bytes; disk = now.0 }) now.2 }

-- ---- the writes that are left

-- how many writes steps make
abbrev pub made_in : List Step → ℕ
made_in [] = 0
made_in (WriteBeginning ∷ steps) = made_in steps
made_in (WriteRest ∷ steps) = made_in steps
made_in (SyncJournal ∷ steps) = made_in steps
made_in (ReplaceJournal ∷ steps) = made_in steps
made_in (MakeWrite number ∷ steps) = suc (made_in steps)
made_in (SyncStorage ∷ steps) = made_in steps
made_in (EmptyJournal ∷ steps) = made_in steps
made_in (Done ∷ steps) = made_in steps

made_more : (steps : List Step) (k : ℕ) → made_in (take (suc k) steps) ≡ made_with (step_at steps k) (made_in (take k steps))
made_more [] zero = refl
made_more [] (suc k) = refl
made_more (step ∷ steps) zero = one step
  where
    one : (step : Step) → made_in (step ∷ []) ≡ made_with step 0
    one WriteBeginning = refl
    one WriteRest = refl
    one SyncJournal = refl
    one ReplaceJournal = refl
    one (MakeWrite i) = refl
    one SyncStorage = refl
    one EmptyJournal = refl
    one Done = refl
made_more (step ∷ steps) (suc k) = later step (made_more steps k)
  where
    suc_with : (step : Step) (n : ℕ) → suc (made_with step n) ≡ made_with step (suc n)
    suc_with WriteBeginning n = refl
    suc_with WriteRest n = refl
    suc_with SyncJournal n = refl
    suc_with ReplaceJournal n = refl
    suc_with (MakeWrite i) n = refl
    suc_with SyncStorage n = refl
    suc_with EmptyJournal n = refl
    suc_with Done n = refl

    later : (step : Step) → made_in (take (suc k) steps) ≡ made_with (step_at steps k) (made_in (take k steps))
        → made_in (step ∷ take (suc k) steps) ≡ made_with (step_at steps k) (made_in (step ∷ take k steps))
    later WriteBeginning same = same
    later WriteRest same = same
    later SyncJournal same = same
    later ReplaceJournal same = same
    later (MakeWrite i) same = ap suc same ∙ suc_with (step_at steps k) (made_in (take k steps))
    later SyncStorage same = same
    later EmptyJournal same = same
    later Done same = same

made_makes : (from m : ℕ) → made_in (map MakeWrite (range_with_len from m)) ≡ m
made_makes from zero = refl
made_makes from (suc m) = ap suc (made_makes (from + 1) m)

ends_next : (j made n : ℕ) → IsNext (step_at ends j) made n
ends_next zero made n = tt
ends_next (suc zero) made n = tt
ends_next (suc (suc zero)) made n = tt
ends_next (suc (suc (suc j))) made n = tt

writing_next : (n m : ℕ) → IsNext (step_at (writing_steps n) m) (made_in (take m (writing_steps n))) n
writing_next n m =
    elim (far (suc m) n) [
      | inl low ↦ rw (step_making n m low, take_making n m (omega arith), made_makes 0 m) (refl, low)
      | inr more ↦ rw (step_ended n m (let is = more.1 in omega (arith, is))) (ends_next (m - n) (made_in (take m (writing_steps n))) n)
    ]

pub is_next : (order : Order) (n k : ℕ) → IsNext (step_at (steps_of order n) k) (made_in (take k (steps_of order n))) n
is_next Commit n zero = tt
is_next Commit n (suc zero) = tt
is_next Commit n (suc (suc zero)) = tt
is_next Commit n (suc (suc (suc zero))) = tt
is_next Commit n (suc (suc (suc (suc m)))) = writing_next n m
is_next Recovery zero zero = tt
is_next Recovery zero (suc zero) = tt
is_next Recovery zero (suc (suc zero)) = tt
is_next Recovery zero (suc (suc (suc zero))) = tt
is_next Recovery zero (suc (suc (suc (suc m)))) = tt
is_next Recovery (suc n) zero = tt
is_next Recovery (suc n) (suc zero) = tt
is_next Recovery (suc n) (suc (suc m)) = writing_next (suc n) m

within_at : (found : Writes) (i : ℕ) → AreWithinStorage found → i < length found → (get_or found i (0, [])).0 + length (get_or found i (0, [])).1 ≤ MAX_STORAGE_BYTES
within_at [] i within low = absurd (omega (arith, low))
within_at (write ∷ found) zero within low = within.0
within_at (write ∷ found) (suc i) within low = within_at found i within.1 (omega (arith, low))

-- the next write, and those after it
pub next_entries : (found : Writes) (made : ℕ) (rest : List ℕ) → rest ≡ entries (drop made found) → made < length found → rest ≡ entry (get_or found made (0, [])) ++ entries (drop (suc made) found)
next_entries found made rest is low = is ∙ ap entries (drop-cons found made (0, []) low)

-- it is found
pub next_found : (found : Writes) (made : ℕ) (rest : List ℕ) (write : ℕ × List ℕ) (after : List ℕ) → AreWithinStorage found → rest ≡ entries (drop made found) → made < length found
    → write.0 + length write.1 ≤ MAX_STORAGE_BYTES → rest ≡ entry write ++ after → (write ≡ get_or found made (0, [])) × (after ≡ entries (drop (suc made) found))
next_found found made rest write after within is low fits split =
    same_entry write (get_or found made (0, [])) after (entries (drop (suc made) found)) fits (within_at found made within low) (sym split ∙ next_entries found made rest is low)

pub next_missed : (found : Writes) (made : ℕ) (rest : List ℕ) → AreWithinStorage found → rest ≡ entries (drop made found) → made < length found
    → ((write : ℕ × List ℕ) (after : List ℕ) → write.0 + length write.1 ≤ MAX_STORAGE_BYTES → rest ≡ entry write ++ after → ⊥) → ⊥
next_missed found made rest within is low none = none (get_or found made (0, [])) (entries (drop (suc made) found)) (within_at found made within low) (next_entries found made rest is low)

-- the write that was found is made
pub made_adds : (found : Writes) (made i place : ℕ) (bytes : List ℕ) (old new : Option Disk) → i ≡ made → (place, bytes) ≡ get_or found made (0, []) → Adds old new (Write place bytes ∷ []) → Adds old new (write_of found i ∷ [])
made_adds found made i place bytes old new is one adds = rw (is, ← one) adds

pub made_spoils : (found : Writes) (made i place : ℕ) (bytes : List ℕ) (old new : Option Disk) → i ≡ made → (place, bytes) ≡ get_or found made (0, []) → Spoils old new (Write place bytes ∷ []) → Spoils old new (write_of found i ∷ [])
made_spoils found made i place bytes old new is one spoils = rw (is, ← one) spoils

pub made_writes : (found : Writes) (made i place : ℕ) (bytes : List ℕ) (a b : Option (List ℕ)) → i ≡ made → (place, bytes) ≡ get_or found made (0, []) → WritesAt a b place bytes
    → IfKnown (λ xs ys. ys ≡ changed (write_of found i) xs) a b
made_writes found made i place bytes a b is one writes = rw (is, ← one) writes

-- the two parts in which a journal is written
pub take_min : (whole : List ℕ) (n : ℕ) → n ≡ min (length whole) 512 → take n whole ≡ take 512 whole
take_min whole n is =
    elim (far (length whole) 512) [
      | inl low ↦ take_all n whole (omega arith) ∙ sym (take_all 512 whole low)
      | inr more ↦ (let long = more.1 in let here : n ≡ 512 = omega (arith, long) in ap (λ (k : ℕ). take k whole) here)
    ]

pub drop_min : (whole : List ℕ) (n : ℕ) → n ≡ min (length whole) 512 → drop n whole ≡ drop 512 whole
drop_min whole n is =
    elim (far (length whole) 512) [
      | inl low ↦ drop_all n whole (omega arith) ∙ sym (drop_all 512 whole low)
      | inr more ↦ (let long = more.1 in let here : n ≡ 512 = omega (arith, long) in ap (λ (k : ℕ). drop k whole) here)
    ]

-- how many writes all the steps make
made_append : (first second : List Step) → made_in (first ++ second) ≡ made_in first + made_in second
made_append [] second = omega arith
made_append (step ∷ first) second = one step (made_append first second)
  where
    one : (step : Step) → made_in (first ++ second) ≡ made_in first + made_in second → made_in (step ∷ (first ++ second)) ≡ made_in (step ∷ first) + made_in second
    one WriteBeginning same = same
    one WriteRest same = same
    one SyncJournal same = same
    one ReplaceJournal same = same
    one (MakeWrite i) same = omega (arith, same)
    one SyncStorage same = same
    one EmptyJournal same = same
    one Done same = same

made_writing : (n : ℕ) → made_in (writing_steps n) ≡ n
made_writing n = let both = made_append (makes n) ends in let some = made_makes 0 n in omega (arith, both, some)

made_all : (order : Order) (n : ℕ) → made_in (steps_of order n) ≡ n
made_all Commit n = made_writing n
made_all Recovery zero = refl
made_all Recovery (suc n) = made_writing (suc n)

-- known bytes, also where the disk is not known
pub known_step : (found : Writes) (step : Step) (made : ℕ) (a b c : Option (List ℕ)) (old new : Option Disk) → IsNext step made (length found) → Succeeds (storage_effect found step) b c old new → WritesAll a b (take made found)
    → WritesAll a c (take (made_with step made) found)
known_step found step made None b c old new next has all = tt
known_step found step made (Some xs) None c old new next has all = absurd all
known_step found WriteBeginning made (Some xs) (Some ys) c old new next has all = rw has.0 all
known_step found WriteRest made (Some xs) (Some ys) c old new next has all = rw has.0 all
known_step found SyncJournal made (Some xs) (Some ys) c old new next has all = rw has.0 all
known_step found ReplaceJournal made (Some xs) (Some ys) c old new next has all = rw has.0 all
known_step found (MakeWrite i) made (Some xs) (Some ys) None old new next has all = absurd has.0
known_step found (MakeWrite i) made (Some xs) (Some ys) (Some zs) old new next has all =
    (rw next.0 at has.0) ∙ ap (changed (write_of found made)) all
    ∙ sym (ap (λ (l : Writes). after_writes l xs) (take-suc found made (0, []) next.1) ∙ written_more (take made found) (get_or found made (0, [])).0 (get_or found made (0, [])).1 xs)
known_step found SyncStorage made (Some xs) (Some ys) None old new next has all = absurd has.0
known_step found SyncStorage made (Some xs) (Some ys) (Some zs) old new next has all = has.0 ∙ all
known_step found EmptyJournal made (Some xs) (Some ys) c old new next has all = rw has.0 all
known_step found Done made (Some xs) (Some ys) c old new next has all = rw has.0 all

-- ---- the steps so far

pub record Reached (found : Writes) (whole : List ℕ) (steps : List Step) (rest : List ℕ) (sb sb' jb jb' : Option (List ℕ)) (sd sd' jd jd' : Option Disk) : Type 0 where
  pub left : rest ≡ entries (drop (made_in steps) found)
  pub known : WritesAll sb sb' (take (made_in steps) found)
  pub storage : (h : StorageState) → Knows h sb sd → KnowsOne (Taken (storage_effect found) steps h) sb' sd'
  pub journal : (h : StorageState) → Knows h jb jd → KnowsOne (Taken (journal_effect whole) steps h) jb' jd'

pub reached_first : (found : Writes) (whole rest : List ℕ) (sb jb : Option (List ℕ)) (sd jd : Option Disk) → rest ≡ entries found → Reached found whole [] rest sb sb jb jb sd sd jd jd
reached_first found whole rest sb jb sd jd is = record {
  left = is;
  known = same sb;
  storage = λ h knows. record { new = h; is = knows; so = refl };
  journal = λ h knows. record { new = h; is = knows; so = refl };
}
  where
    same : (sb : Option (List ℕ)) → WritesAll sb sb []
    same None = tt
    same (Some xs) = refl

pub reached_more : (found : Writes) (whole : List ℕ) (all : List Step) (k : ℕ) (step : Step) (rest after : List ℕ) (sb sb' sb'' jb jb' jb'' : Option (List ℕ)) (sd sd' sd'' jd jd' jd'' : Option Disk) → step ≡ step_at all k
    → IsNext step (made_in (take k all)) (length found) → Reached found whole (take k all) rest sb sb' jb jb' sd sd' jd jd' → Succeeds (journal_effect whole step) jb' jb'' jd' jd'' → Succeeds (storage_effect found step) sb' sb'' sd' sd''
    → after ≡ entries (drop (made_with step (made_in (take k all))) found) → Reached found whole (take (suc k) all) after sb sb'' jb jb'' sd sd'' jd jd''
reached_more found whole all k step rest after sb sb' sb'' jb jb' jb'' sd sd' sd'' jd jd' jd'' is next reached journal storage left = record {
  left = rw (made_more all k, ← is) left;
  known = rw (made_more all k, ← is) (known_step found step (made_in (take k all)) sb sb' sb'' sd' sd'' next storage reached.known);
  storage = λ h knows. one (storage_effect found) refl h sb' sb'' sd' sd'' storage (reached.storage h knows);
  journal = λ h knows. one (journal_effect whole) refl h jb' jb'' jd' jd'' journal (reached.journal h knows);
}
  where
    one : (effect : Step → Effect) → effect Done ≡ Nothing → (h : StorageState) (b b' : Option (List ℕ)) (d d' : Option Disk) → Succeeds (effect step) b b' d d' → KnowsOne (Taken effect (take k all) h) b d
        → KnowsOne (Taken effect (take (suc k) all) h) b' d'
    one effect none h b b' d d' has before =
        let now = known_does (effect step) before.new b b' d d' has before.is in
        record { new = now.new; is = now.is; so = taken_more effect none all k h before.new now.new before.so (subst (λ (s : Step). Does (effect s) before.new now.new) is now.so) }

-- ---- all the steps

long_steps : (order : Order) (n : ℕ) → length (steps_of order n) ≤ n + 7
long_steps Commit n = let long = long-makes n in omega (arith, long, length-append (makes n) ends)
long_steps Recovery zero = omega arith
long_steps Recovery (suc n) = let long = long-makes (suc n) in omega (arith, long, length-append (makes (suc n)) ends)

-- ---- the journal that a recovery replaces

ends_replace_none : (j : ℕ) → step_at ends j ≡ ReplaceJournal → ⊥
ends_replace_none zero is = cc
ends_replace_none (suc zero) is = cc
ends_replace_none (suc (suc zero)) is = cc
ends_replace_none (suc (suc (suc j))) is = cc

writing_replaces_none : (n m : ℕ) → step_at (writing_steps n) m ≡ ReplaceJournal → ⊥
writing_replaces_none n m is =
    elim (far (suc m) n) [
      | inl low ↦ (let making = step_making n m low in let here = is in cc)
      | inr more ↦ ends_replace_none (m - n) (sym (step_ended n m (let is = more.1 in omega (arith, is))) ∙ is)
    ]

pub replaces : (order : Order) (n k : ℕ) → step_at (steps_of order n) k ≡ ReplaceJournal → (order ≡ Recovery) × (k ≤ 1)
replaces Commit n zero is = absurd (cc)
replaces Commit n (suc zero) is = absurd (cc)
replaces Commit n (suc (suc zero)) is = absurd (cc)
replaces Commit n (suc (suc (suc zero))) is = absurd (cc)
replaces Commit n (suc (suc (suc (suc m)))) is = absurd (writing_replaces_none n m is)
replaces Recovery n zero is = (refl, omega arith)
replaces Recovery n (suc zero) is = (refl, omega arith)
replaces Recovery zero (suc (suc zero)) is = absurd (cc)
replaces Recovery zero (suc (suc (suc zero))) is = absurd (cc)
replaces Recovery zero (suc (suc (suc (suc m)))) is = absurd (cc)
replaces Recovery (suc n) (suc (suc m)) is = absurd (writing_replaces_none (suc n) m is)

-- the first step leaves it as it is
pub recovery_begins : (order : Order) (n k : ℕ) (whole : List ℕ) (a b : Option (List ℕ)) (old new : Option Disk) → order ≡ Recovery → k ≤ 0 → Succeeds (journal_effect whole (step_at (steps_of order n) k)) a b old new → b ≡ a
recovery_begins Commit n k whole a b old new is low has = absurd (cc)
recovery_begins Recovery n (suc k) whole a b old new is low has = absurd (omega (arith, low))
recovery_begins Recovery zero zero whole a b old new is low has = has.0
recovery_begins Recovery (suc n) zero whole a b old new is low has = has.0

pub if_same : (whole : List ℕ) (a b : Option (List ℕ)) → a ≡ b → IfSome b (λ xs. whole ≡ xs) → IfSome a (λ xs. whole ≡ xs)
if_same whole a b is some = rw is some

-- ---- at the end of the steps

pub reached_all : (order : Order) (found : Writes) (whole rest : List ℕ) (k : ℕ) (sb sb' jb jb' : Option (List ℕ)) (sd sd' jd jd' : Option Disk) → length found + 7 ≤ k
    → Reached found whole (take k (steps_of order (length found))) rest sb sb' jb jb' sd sd' jd jd' → Reached found whole (steps_of order (length found)) rest sb sb' jb jb' sd sd' jd jd'
reached_all order found whole rest k sb sb' jb jb' sd sd' jd jd' long reached =
    let most = long_steps order (length found) in
    subst (λ (steps : List Step). Reached found whole steps rest sb sb' jb jb' sd sd' jd jd') (take_all k (steps_of order (length found)) (omega (arith, long, most))) reached

pub reached_written : (order : Order) (found : Writes) (whole rest : List ℕ) (sb sb' jb jb' : Option (List ℕ)) (sd sd' jd jd' : Option Disk)
    → Reached found whole (steps_of order (length found)) rest sb sb' jb jb' sd sd' jd jd' → WritesAll sb sb' found
reached_written order found whole rest sb sb' jb jb' sd sd' jd jd' reached =
    subst (λ (l : Writes). WritesAll sb sb' l) (ap (λ (k : ℕ). take k found) (made_all order (length found)) ∙ take_all (length found) found (omega arith)) reached.known

pub one_disk : (P : StorageState → Type 0) (b : Option (List ℕ)) (d : Option Disk) → KnowsOne P b d → LeavesOne P d
one_disk P b d one = record { new = one.new; is = one.is.1; so = one.so }

-- ---- a commit and a recovery

pub known_redone : (key context js : List ℕ) (found : Writes) (a b : Option (List ℕ)) → AreRedone key context js found → WritesAll a b found → RecoversKnown key context (Some js) a b
known_redone key context js found a b (inl whole) all = known_whole key context found js a b whole all
known_redone key context js found a b (inr none) all = none_written a b (rw none.0 at all)
  where
    none_written : (a b : Option (List ℕ)) → WritesAll a b [] → RecoversKnown key context (Some js) a b
    none_written None b k = tt
    none_written (Some xs) None k = absurd k
    none_written (Some xs) (Some ys) k = record { whole = λ writes is. absurd (none.1 writes is); other = λ not. k }

-- ---- where the steps stop

abbrev pub Stopped : (found : Writes) (whole : List ℕ) (all : List Step) (sb jb : Option (List ℕ)) (sd sd' jd jd' : Option Disk) → Type 0
Stopped found whole all sb jb sd sd' jd jd' =
    (k : ℕ) × ((h : StorageState) → Knows h sb sd → LeavesOne (StopsAt (storage_effect found) all k h) sd') × ((h : StorageState) → Knows h jb jd → LeavesOne (StopsAt (journal_effect whole) all k h) jd')

-- step k has not begun
unbegun : (effect : Step → Effect) (all : List Step) (k : ℕ) (h : StorageState) (b : Option (List ℕ)) (d : Option Disk) → KnowsOne (Taken effect (take k all) h) b d → LeavesOne (StopsAt effect all k h) d
unbegun effect all k h b d one = record { new = one.new; is = one.is.1; so = record { between = one.new; taken = one.so; leaves = not_begun (effect (step_at all k)) one.new } }

-- it has failed
failed : (effect : Step → Effect) (all : List Step) (k : ℕ) (step : Step) (h : StorageState) (b : Option (List ℕ)) (d d' : Option Disk) → step ≡ step_at all k → KnowsOne (Taken effect (take k all) h) b d → Fails (effect step) d d'
    → LeavesOne (StopsAt effect all k h) d'
failed effect all k step h b d d' is one fails =
    let now = known_leaves (effect step) one.new d d' fails one.is.1 in
    record { new = now.new; is = now.is; so = record { between = one.new; taken = one.so; leaves = subst (λ (s : Step). Leaves (effect s) one.new now.new) is now.so } }

-- the storage has taken it
taken : (found : Writes) (all : List Step) (k : ℕ) (step : Step) (h : StorageState) (b b' : Option (List ℕ)) (d d' : Option Disk) → step ≡ step_at all k → KnowsOne (Taken (storage_effect found) (take k all) h) b d
    → Succeeds (storage_effect found step) b b' d d' → LeavesOne (StopsAt (storage_effect found) all k h) d'
taken found all k step h b b' d d' is one has =
    let now = known_does (storage_effect found step) one.new b b' d d' has one.is in
    record {
      new = now.new;
      is = now.is.1;
      so = record { between = one.new; taken = one.so; leaves = subst (λ (s : Step). Leaves (storage_effect found s) one.new now.new) is (returned found step one.new now.new now.so) };
    }

pub stopped_before : (found : Writes) (whole : List ℕ) (all : List Step) (k : ℕ) (rest : List ℕ) (sb sb' jb jb' : Option (List ℕ)) (sd sd' jd jd' : Option Disk) → Reached found whole (take k all) rest sb sb' jb jb' sd sd' jd jd'
    → Stopped found whole all sb jb sd sd' jd jd'
stopped_before found whole all k rest sb sb' jb jb' sd sd' jd jd' reached =
    (k, λ h knows. unbegun (storage_effect found) all k h sb' sd' (reached.storage h knows), λ h knows. unbegun (journal_effect whole) all k h jb' jd' (reached.journal h knows))

pub stopped_in_storage : (found : Writes) (whole : List ℕ) (all : List Step) (k : ℕ) (step : Step) (rest : List ℕ) (sb sb' jb jb' : Option (List ℕ)) (sd sd' sd'' jd jd' : Option Disk) → step ≡ step_at all k
    → Reached found whole (take k all) rest sb sb' jb jb' sd sd' jd jd' → Fails (storage_effect found step) sd' sd'' → Stopped found whole all sb jb sd sd'' jd jd'
stopped_in_storage found whole all k step rest sb sb' jb jb' sd sd' sd'' jd jd' is reached fails =
    (k, λ h knows. failed (storage_effect found) all k step h sb' sd' sd'' is (reached.storage h knows) fails, λ h knows. unbegun (journal_effect whole) all k h jb' jd' (reached.journal h knows))

pub stopped_in_journal : (found : Writes) (whole : List ℕ) (all : List Step) (k : ℕ) (step : Step) (rest : List ℕ) (sb sb' sb'' jb jb' : Option (List ℕ)) (sd sd' sd'' jd jd' jd'' : Option Disk) → step ≡ step_at all k
    → Reached found whole (take k all) rest sb sb' jb jb' sd sd' jd jd' → Succeeds (storage_effect found step) sb' sb'' sd' sd'' → Fails (journal_effect whole step) jd' jd'' → Stopped found whole all sb jb sd sd'' jd jd''
stopped_in_journal found whole all k step rest sb sb' sb'' jb jb' sd sd' sd'' jd jd' jd'' is reached has fails =
    (k, λ h knows. taken found all k step h sb' sb'' sd' sd'' is (reached.storage h knows) has, λ h knows. failed (journal_effect whole) all k step h jb' jd' jd'' is (reached.journal h knows) fails)
