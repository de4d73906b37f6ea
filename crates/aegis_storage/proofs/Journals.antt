-- Writes, journals and their beginnings, and the states of a commit and of a recovery.
use Rattle.std.proofs.Common.{◌≡◌, ◌+◌, ◌<◌, ℕ, List, [], ◌∷◌, ◌++◌, drop, get_or, length, take, refl, arith, ◌^◌, ◌≤◌, ◌⊎◌, inl, inr, None, Some, Option, sym, ap, ◌∙◌}
use Rattle.std.proofs.lemmas.Grind.{common_steps, flat_map-append}
use Rattle.std.proofs.lemmas.List.{append-nil, append_assoc, map-append, take-append-drop, take_more, drop_at, length-append, take_at, take_all}
use Rattle.std.proofs.lemmas.Nat.{from_le_bytes-to_le_bytes_8}
use Rattle.std.specs.Int.{to_le_bytes, w64}
use Rattle.aegis_storage.specs.declared.pending.PendingWrite.{PendingWrite}
use Rattle.aegis_storage.specs.Journal.{AreWithinStorage, entries, entry, Gives, GivesOneOf, IsAtRest, IsFramed, IsJournal, IsOneOf, IsNoOtherJournal, IsSafe, RecoversUnlessOtherJournal, RecoversKnown, authenticated, HasBeginning, KeepsBeginning, framed, journal_length}
use Rattle.aegis_storage.specs.Disk.{writes_of, Crashed, Disk, IsWithin, Size, Writes, WritesAll, certain, changes, after_writes, Change, IsPartOfOne, Write, disk_after, changed}
use Rattle.aegis_base.specs.Mac.{mac}
use Rattle.aegis_base.specs.Variant.{Aegis128L}
use Rattle.aegis_base.proofs.MacFacts.{length_mac}
use Rattle.aegis_storage.specs.declared.store.TheConstants.{MAX_STORAGE_BYTES}
use Rattle.aegis_storage.proofs.Disks.{after_parts, all_parts, certain_has, certain_only, emptied, has_left, within_crashed, within_itself, written_again}
use Rattle.aegis_storage.proofs.Overwriting.{kept_part, length-overwritten}

-- ---- writes

pub writes_taken : {A : Type 0} (writes : List (PendingWrite A)) (i : ℕ) (write : PendingWrite A) (bs : List ℕ) → i < length writes → write ≡ get_or writes i write → bs ≡ write.bytes.items
    → writes_of (take (i + 1) writes) ≡ writes_of (take i writes) ++ (write.place, bs) ∷ []
writes_taken writes i write bs low is same = grind (arith, common_steps, map-append, take_more)

pub writes_split : {A : Type 0} (writes : List (PendingWrite A)) (i : ℕ) → writes_of writes ≡ writes_of (take i writes) ++ writes_of (drop i writes)
writes_split writes i = rw (← map-append, take-append-drop i writes)

pub all_within : {A : Type 0} (writes : List (PendingWrite A)) → AreWithinStorage (writes_of writes)
all_within [] = tt
all_within (write ∷ writes) = (write.within, all_within writes)

pub writes_pushed : {A : Type 0} (writes new : List (PendingWrite A)) (write : PendingWrite A) (at : ℕ) (bs : List ℕ) → new ≡ writes ++ write ∷ [] → write.place ≡ at → write.bytes.items ≡ bs
    → writes_of new ≡ writes_of writes ++ (at, bs) ∷ []
writes_pushed writes new write at bs more place same = rw (more, ← place, ← same) (map-append (λ w. (w.place, w.bytes.items)) writes (write ∷ []))

-- ---- their bytes in a journal

pub entries_taken : {A : Type 0} (writes : List (PendingWrite A)) (i : ℕ) (write : PendingWrite A) (bs : List ℕ) → i < length writes → write ≡ get_or writes i write → bs ≡ write.bytes.items
    → entries (writes_of (take (i + 1) writes)) ≡ entries (writes_of (take i writes)) ++ entry (write.place, bs)
entries_taken writes i write bs low is same = rw (writes_taken writes i write bs low is same, flat_map-append, append-nil)

-- a write that was found, and what is left behind it
pub entries_pushed : {A : Type 0} (old new : List (PendingWrite A)) (write : PendingWrite A) (rest after content : List ℕ) → new ≡ old ++ write ∷ [] → rest ≡ entry (write.place, write.bytes.items) ++ after
    → entries (writes_of old) ++ rest ≡ content → entries (writes_of new) ++ after ≡ content
entries_pushed old new write rest after content more is all =
    rw (writes_pushed old new write write.place write.bytes.items more refl refl, flat_map-append, append-nil, append_assoc, ← is) all

-- ---- one list of writes for a journal

-- parts of the same lengths
same_parts : (n : ℕ) (ps qs xs ys : List ℕ) → length ps ≡ n → length qs ≡ n → ps ++ xs ≡ qs ++ ys → (ps ≡ qs) × (xs ≡ ys)
same_parts n ps qs xs ys p q same = (sym (take_at ps xs n p) ∙ ap (take n) same ∙ take_at qs ys n q, sym (drop_at ps xs n p) ∙ ap (drop n) same ∙ drop_at qs ys n q)

same_number : (m n : ℕ) (xs ys : List ℕ) → m < 2 ^ 64 → n < 2 ^ 64 → to_le_bytes w64 m ++ xs ≡ to_le_bytes w64 n ++ ys → (m ≡ n) × (xs ≡ ys)
same_number m n xs ys low high same = grind (arith, same_parts 8 (to_le_bytes w64 m) (to_le_bytes w64 n) xs ys refl refl same, from_le_bytes-to_le_bytes_8)

pub same_entry : (v w : ℕ × List ℕ) (xs ys : List ℕ) → v.0 + length v.1 ≤ MAX_STORAGE_BYTES → w.0 + length w.1 ≤ MAX_STORAGE_BYTES → entry v ++ xs ≡ entry w ++ ys → (v ≡ w) × (xs ≡ ys)
same_entry v w xs ys low high same =
    let place = same_number v.0 w.0 _ _ (omega (arith, low)) (omega (arith, high)) (simp append_assoc at same) in
    let count = same_number (length v.1) (length w.1) _ _ (omega (arith, low)) (omega (arith, high)) place.1 in
    let bytes = same_parts (length v.1) v.1 w.1 xs ys refl (sym count.0) count.1 in
    (ap (λ (n : ℕ). (n, v.1)) place.0 ∙ ap (λ (l : List ℕ). (w.0, l)) bytes.0, bytes.1)

pub same_writes : (vs ws : Writes) → AreWithinStorage vs → AreWithinStorage ws → entries vs ≡ entries ws → vs ≡ ws
same_writes [] [] p q same = refl
same_writes [] (w ∷ ws) p q same = absurd (let sizes : 0 ≡ length (entries (w ∷ ws)) = ap length same in omega (arith, sizes))
same_writes (v ∷ vs) [] p q same = absurd (let sizes : length (entries (v ∷ vs)) ≡ 0 = ap length same in omega (arith, sizes))
same_writes (v ∷ vs) (w ∷ ws) p q same =
    let first = same_entry v w (entries vs) (entries ws) p.0 q.0 same in rw (first.0, same_writes vs ws p.1 q.1 first.1)

-- what is left behind some writes begins with no write, so the whole is of no writes
pub no_writes : (done : Writes) (rest : List ℕ) (writes : Writes) → 0 < length rest → ((write : ℕ × List ℕ) (after : List ℕ) → write.0 + length write.1 ≤ MAX_STORAGE_BYTES → rest ≡ entry write ++ after → ⊥)
    → AreWithinStorage done → AreWithinStorage writes → entries done ++ rest ≡ entries writes → ⊥
no_writes [] rest [] some none p q same = omega (arith, some, ap length same)
no_writes [] rest (w ∷ ws) some none p q same = none w (entries ws) q.0 same
no_writes (v ∷ vs) rest [] some none p q same = let sizes : length (entries (v ∷ vs) ++ rest) ≡ 0 = ap length same in omega (arith, sizes)
no_writes (v ∷ vs) rest (w ∷ ws) some none p q same =
    no_writes vs rest ws some none p.1 q.1 (same_entry v w (entries vs ++ rest) (entries ws) p.0 q.0 (sym (append_assoc (entry v) (entries vs) rest) ∙ same)).1

-- the parts of a journal
long-mac : (key nonce bytes : List ℕ) → length (mac Aegis128L 32 key nonce bytes) ≡ 32
long-mac key nonce bytes = length_mac Aegis128L 32 key nonce bytes (inl refl) (inr refl)

pub framed_parts : (key context xs journal : List ℕ) (is : IsFramed key context xs journal) (beginning nonce content end : List ℕ) → length beginning ≡ 512 → length nonce ≡ 16 → length end ≡ 32
    → journal ≡ beginning ++ (nonce ++ (content ++ end)) → (content ≡ xs) × (end ≡ mac Aegis128L 32 key nonce (authenticated context content))
framed_parts key context xs journal is beginning nonce content end p q r are =
    let tag : List ℕ = mac Aegis128L 32 key is.nonce (authenticated context xs) in
    let first = same_parts 512 beginning is.beginning _ _ p is.beginning_size (sym are ∙ is.are) in
    let second = same_parts 16 nonce is.nonce _ _ q is.nonce_size first.1 in
    let sizes : length xs ≡ length content = omega (arith, ap length second.1, r, long-mac key is.nonce (authenticated context xs), length-append content end, length-append xs tag) in
    let third = same_parts (length content) content xs end tag refl sizes second.1 in (third.0, rw (second.0, third.0) third.1)

pub length-framed : (key context content journal : List ℕ) → IsFramed key context content journal → 560 ≤ length journal
length-framed key context content journal is = grind (arith, common_steps, long-mac key is.nonce (authenticated context content))

pub length-journal : (key context beginning nonce : List ℕ) (writes : Writes) (journal : List ℕ) → length beginning ≡ 512 → length nonce ≡ 16 → journal ≡ framed key beginning nonce context (entries writes)
    → length journal ≡ journal_length writes
length-journal key context beginning nonce writes journal p q are = grind (arith, common_steps, p, q, long-mac key nonce (authenticated context (entries writes)))

pub one_content : (key context xs ys journal : List ℕ) → IsFramed key context xs journal → IsFramed key context ys journal → xs ≡ ys
one_content key context xs ys journal p q =
    (framed_parts key context ys journal q p.beginning p.nonce xs _ p.beginning_size p.nonce_size (long-mac key p.nonce (authenticated context xs)) p.are).0

pub one_journal : (key context : List ℕ) (vs ws : Writes) (journal : List ℕ) → IsJournal key context vs journal → IsJournal key context ws journal → vs ≡ ws
one_journal key context vs ws journal p q = same_writes vs ws p.within q.within (one_content key context (entries vs) (entries ws) journal p.framed q.framed)

pub empty_is_none : (key context : List ℕ) (writes : Writes) → IsJournal key context writes [] → ⊥
empty_is_none key context writes is = let long : 560 ≤ 0 = length-framed key context (entries writes) [] is.framed in omega (arith, long)

-- ---- the writes in the content of a journal

pub within_more : (writes : Writes) (write : ℕ × List ℕ) → AreWithinStorage writes → write.0 + length write.1 ≤ MAX_STORAGE_BYTES → AreWithinStorage (writes ++ write ∷ [])
within_more [] write p low = (low, tt)
within_more (w ∷ ws) write p low = (p.0, within_more ws write p.1 low)

pub entries_more : (writes : Writes) (write : ℕ × List ℕ) → entries (writes ++ write ∷ []) ≡ entries writes ++ entry write
entries_more writes write = rw (flat_map-append, append-nil)

-- a write that was found, and what is left behind it
pub entries_found : (done : Writes) (write : ℕ × List ℕ) (rest after content : List ℕ) → rest ≡ entry write ++ after → entries done ++ rest ≡ content → entries (done ++ write ∷ []) ++ after ≡ content
entries_found done write rest after content is all = rw (entries_more done write, append_assoc, ← is) all

-- the writes that are left behind some of them
pub left_writes : (done writes : Writes) (rest : List ℕ) → AreWithinStorage done → AreWithinStorage writes → entries done ++ rest ≡ entries writes
    → (left : Writes) × (writes ≡ done ++ left) × AreWithinStorage left × (rest ≡ entries left)
left_writes [] writes rest p q same = (writes, refl, q, same)
left_writes (v ∷ vs) [] rest p q same = absurd (let sizes : length (entries (v ∷ vs) ++ rest) ≡ 0 = ap length same in omega (arith, sizes))
left_writes (v ∷ vs) (w ∷ ws) rest p q same =
    let first = same_entry v w (entries vs ++ rest) (entries ws) p.0 q.0 (sym (append_assoc (entry v) (entries vs) rest) ∙ same) in
    let more = left_writes vs ws rest p.1 q.1 first.1 in
    (more.0, ap (λ (x : ℕ × List ℕ). x ∷ ws) (sym first.0) ∙ ap (λ (l : Writes). v ∷ l) more.1, more.2, more.3)

-- nothing is left
pub all_done : (done : Writes) (rest content : List ℕ) → length rest ≡ 0 → entries done ++ rest ≡ content → content ≡ entries done
all_done done [] content none all = sym all ∙ append-nil (entries done)
all_done done (x ∷ xs) content some all = absurd (omega (arith, some))

-- no writes are left behind nothing
pub all_writes : (done writes : Writes) (rest : List ℕ) → length rest ≡ 0 → AreWithinStorage done → AreWithinStorage writes → entries done ++ rest ≡ entries writes → writes ≡ done
all_writes done writes [] none p q same = same_writes writes done q p (sym same ∙ append-nil (entries done))
all_writes done writes (x ∷ xs) some p q same = absurd (omega (arith, some))

-- ---- recovery

-- an empty journal changes nothing
by_empty : (key context old : List ℕ) (P : List ℕ → Type 0) → P old → Gives key context [] old P
by_empty key context old P p = record { whole = λ writes is. absurd (empty_is_none key context writes is); other = λ not. p }

-- the writes of a whole journal are made
pub by_journal : (key context js old : List ℕ) (writes : Writes) (P : List ℕ → Type 0) → IsJournal key context writes js → P (after_writes writes old) → Gives key context js old P
by_journal key context js old writes P is p = record {
  whole = λ found found_is. rw (one_journal key context found writes js found_is is) p;
  other = λ not. absurd (not writes is);
}

-- ---- states

-- the writes may be made again
pub again : (writes : Writes) (xs : List ℕ) → after_writes writes (after_writes writes xs) ≡ after_writes writes xs
again writes xs = written_again writes (changes writes) xs (all_parts (changes writes))

pub one_written : (writes : Writes) (xs zs : List ℕ) → IsOneOf xs (after_writes writes xs) zs → after_writes writes zs ≡ after_writes writes xs
one_written writes xs zs (inl before) = ap (after_writes writes) before
one_written writes xs zs (inr all) = ap (after_writes writes) all ∙ again writes xs

-- What the storage holds is certain: whatever journal a crash leaves, recovery gives the bytes, or all the writes over them.
pub any_journal : (key context xs : List ℕ) (writes : Writes) (zs : List ℕ) (storage journal : Disk) → IsOneOf xs (after_writes writes xs) zs → IsWithin storage (certain zs)
    → RecoversUnlessOtherJournal key context xs writes (Some storage) (Some journal)
any_journal key context xs writes zs storage journal one within = record {
  storage_disk = storage;
  journal_disk = journal;
  storage_is = refl;
  journal_is = refl;
  gives = λ ys js p q no_other_journal. rw (certain_only zs ys (within_crashed storage (certain zs) within ys p)) (record {
    whole = λ found is. inr (rw (no_other_journal found is) (one_written writes xs zs one));
    other = λ not. one;
  });
  safe = inl (zs, within);
}

-- The journal is certain and whole: whatever a crash leaves of the storage, its writes are made again.
pub whole_journal : (key context xs : List ℕ) (writes : Writes) (js : List ℕ) (storage journal : Disk) → IsJournal key context writes js → IsWithin journal (certain js)
    → ((ys : List ℕ) → Crashed storage ys → after_writes writes ys ≡ after_writes writes xs) → RecoversUnlessOtherJournal key context xs writes (Some storage) (Some journal)
whole_journal key context xs writes js storage journal whole within written = record {
  storage_disk = storage;
  journal_disk = journal;
  storage_is = refl;
  journal_is = refl;
  gives = λ ys ks p q _. rw (certain_only js ks (within_crashed journal (certain js) within ks q)) (by_journal key context js ys writes (IsOneOf xs (after_writes writes xs)) whole (inr (written ys p)));
  safe = inr (js, whole, within);
}

pub rest_recovers : (key context xs : List ℕ) (writes : Writes) (storage journal : Option Disk) (zs : List ℕ) → IsOneOf xs (after_writes writes xs) zs → IsAtRest storage journal zs
    → RecoversUnlessOtherJournal key context xs writes storage journal
rest_recovers key context xs writes storage journal zs one rest =
    rw (rest.storage_is, rest.journal_is) (any_journal key context xs writes zs (certain zs) (certain []) one (within_itself (certain zs)))

pub at_rest_recovers : (key context xs : List ℕ) (writes : Writes) (storage journal : Option Disk) → IsAtRest storage journal xs → RecoversUnlessOtherJournal key context xs writes storage journal
at_rest_recovers key context xs writes storage journal rest = rest_recovers key context xs writes storage journal xs (inl refl) rest

-- ---- what is known

pub known_whole : (key context : List ℕ) (writes : Writes) (js : List ℕ) (a b : Option (List ℕ)) → IsJournal key context writes js → WritesAll a b writes → RecoversKnown key context (Some js) a b
known_whole key context writes js None b is all = tt
known_whole key context writes js (Some xs) None is all = absurd all
known_whole key context writes js (Some xs) (Some ys) is all = by_journal key context js xs writes (λ given. ys ≡ given) is all

pub known_other : (key context js : List ℕ) (a : Option (List ℕ)) → ((writes : Writes) → IsJournal key context writes js → ⊥) → RecoversKnown key context (Some js) a a
known_other key context js None not = tt
known_other key context js (Some xs) not = record { whole = λ writes is. absurd (not writes is); other = λ also. refl }

-- ---- a crash

pub gives_of : (key context xs : List ℕ) (writes : Writes) (storage journal : Disk) → RecoversUnlessOtherJournal key context xs writes (Some storage) (Some journal)
    → (ys js : List ℕ) → Crashed storage ys → Crashed journal js → IsNoOtherJournal key context writes js → GivesOneOf key context xs (after_writes writes xs) js ys
gives_of key context xs writes storage journal recovers ys js p q no_other_journal =
    let s : storage ≡ recovers.storage_disk = (let is = recovers.storage_is in cc) in
    let j : journal ≡ recovers.journal_disk = (let is = recovers.journal_is in cc) in recovers.gives ys js (rw s at p) (rw j at q) no_other_journal

pub safe_of : (key context xs : List ℕ) (writes : Writes) (storage journal : Disk) → RecoversUnlessOtherJournal key context xs writes (Some storage) (Some journal) → IsSafe key context writes storage journal
safe_of key context xs writes storage journal recovers =
    let s : storage ≡ recovers.storage_disk = (let is = recovers.storage_is in cc) in
    let j : journal ≡ recovers.journal_disk = (let is = recovers.journal_is in cc) in rw (s, j) recovers.safe

pub crashed_recovers : (key context xs : List ℕ) (writes : Writes) (storage journal : Disk) (ys js : List ℕ) → RecoversUnlessOtherJournal key context xs writes (Some storage) (Some journal)
    → Crashed storage ys → Crashed journal js → RecoversUnlessOtherJournal key context xs writes (Some (certain ys)) (Some (certain js))
crashed_recovers key context xs writes storage journal ys js recovers p q = record {
  storage_disk = certain ys;
  journal_disk = certain js;
  storage_is = refl;
  journal_is = refl;
  gives = λ zs ks a b no_other_journal.
      let same = certain_only js ks b in
      rw (certain_only ys zs a, same) (gives_of key context xs writes storage journal recovers ys js p q (rw same at no_other_journal));
  safe = inl (ys, within_itself (certain ys));
}

-- ---- bytes that are appended

-- xs, and at most n bytes after them
record Follows (xs : List ℕ) (n : ℕ) (ys : List ℕ) : Type 0 where
  first : take (length xs) ys ≡ xs
  most : length ys ≤ length xs + n

-- after a part of a write past xs
follows_part : (xs all : List ℕ) (part : Change) (ys : List ℕ) → IsPartOfOne (Write (length xs) all ∷ []) part → Follows xs (length all) ys → Follows xs (length all) (changed part ys)
follows_part xs all (Write at bs) ys (inl is) before =
    let fits = is.1 in let there = is.2 in let first = before.first in let most = before.most in record {
      first = kept_part ys at bs 0 (length xs) (inl (omega (arith, there))) (ap length first) ∙ first;
      most = omega (arith, most, fits, there, length-overwritten ys at bs);
    }
follows_part xs all (Size n) ys (inl is) before = absurd is
follows_part xs all part ys (inr is) before = absurd is

follows : (xs all : List ℕ) (bytes : List ℕ) → Crashed (disk_after (certain xs) (Write (length xs) all ∷ [])) bytes → Follows xs (length all) bytes
follows xs all bytes crashed =
    after_parts (Follows xs (length all)) xs (Write (length xs) all ∷ []) (follows_part xs all) (record { first = take_all (length xs) xs (omega arith); most = omega arith }) bytes crashed

-- ---- beginnings

-- whatever a crash now leaves of the journal has the beginning
abbrev pub BeginsAs : (beginning : List ℕ) → Disk → Type 0
BeginsAs beginning journal = (js : List ℕ) → Crashed journal js → HasBeginning beginning js

pub begins_keeps : (beginning : List ℕ) (journal : Disk) → BeginsAs beginning journal → KeepsBeginning beginning (Some journal)
begins_keeps beginning journal begins = record { disk = journal; is = refl; has = begins }

pub certain_begins : (beginning js : List ℕ) → HasBeginning beginning js → BeginsAs beginning (certain js)
certain_begins beginning js has ks crashed = rw (certain_only js ks crashed) has

-- while a journal is emptied
pub emptied_begins : (beginning : List ℕ) (journal : Disk) → journal.pending ≡ [] → BeginsAs beginning journal → BeginsAs beginning (disk_after journal (Size 0 ∷ []))
emptied_begins beginning journal nothing begins js crashed = cases (emptied journal js nothing crashed)
  where
    cases : Crashed journal js ⊎ (js ≡ []) → HasBeginning beginning js
    cases (inl before) = begins js before
    cases (inr none) = inl (omega (arith, ap length none))

pub empty_beginning : (beginning : List ℕ) (state : Option Disk) → state ≡ Some (certain []) → KeepsBeginning beginning state
empty_beginning beginning state is = certain_has (HasBeginning beginning) state [] (inl (omega arith)) is

-- while the beginning is written
pub beginning_begins : (beginning part : List ℕ) → length part ≤ 512 → BeginsAs beginning (disk_after (certain []) (Write 0 part ∷ []))
beginning_begins beginning part short js crashed = let most = (follows [] part js crashed).most in inl (omega (arith, most, short))

-- while the rest is written
pub beginning_stays : (beginning rest : List ℕ) → length beginning ≡ 512 → BeginsAs beginning (disk_after (certain beginning) (Write 512 rest ∷ []))
beginning_stays beginning rest long js crashed = inr (rw long at ((follows beginning rest js (rw long crashed)).first))

pub crashed_beginning : (beginning : List ℕ) (journal : Disk) (js : List ℕ) → KeepsBeginning beginning (Some journal) → Crashed journal js → KeepsBeginning beginning (Some (certain js))
crashed_beginning beginning journal js keeps crashed = certain_has (HasBeginning beginning) (Some (certain js)) js (has_left _ (Some journal) journal js keeps refl crashed) refl
