-- One more change.
use Rattle.std.proofs.Common.{◌≡◌, ◌+◌, ◌<◌, ℕ, Bool, false, true, Err, OnErr, OnOk, Ok, Result, Some, List, [], ◌∷◌, ◌++◌, get_or, length, take, refl, sym, ap, ◌∙◌}
use Rattle.std.proofs.lemmas.List.{map-append, take_more}
use Rattle.aegis_storage.specs.Disk.{AreLeftOf, Change, IsWithin, MakesCertain, MakesSynced, SettlesTo, disk_after, applied, certain, changed, spoilt}
use Rattle.aegis_storage.proofs.Disks.{applied_append, certain_within, parts_left, within_itself}
use Rattle.test_storage.specs.declared.pending.PendingChange.{PendingChange}
use Rattle.test_storage.specs.declared.disk.TestDisk.{TestDisk}
use Rattle.test_storage.specs.Pending.{IsLost, IsSettled, all_there, readable_bytes, change_of, changes_of, disk_of, disk_with}

pub applied_pushed : (pending new : List PendingChange) (change : PendingChange) (xs : List ℕ) → new ≡ pending ++ change ∷ []
    → applied (changes_of new) xs ≡ changed (change_of change) (applied (changes_of pending) xs)
applied_pushed pending new change xs is = rw (is, map-append) (applied_append (changes_of pending) (change_of change ∷ []) xs)

pub applied_taken : (pending : List PendingChange) (i : ℕ) (change : PendingChange) (xs : List ℕ) → i < length pending → change ≡ get_or pending i change
    → applied (changes_of (take (i + 1) pending)) xs ≡ changed (change_of change) (applied (changes_of (take i pending)) xs)
applied_taken pending i change xs low is =
    applied_pushed (take i pending) (take (i + 1) pending) change xs (take_more pending i change low ∙ ap (λ c. take i pending ++ c ∷ []) (sym is))

-- the disk after one more change
pub pushed : (old new : Bool) (synced : List ℕ) (pending now : List PendingChange) (change : PendingChange) → old ≡ false → new ≡ false → now ≡ pending ++ change ∷ []
    → IsWithin (disk_with new synced (changes_of now)) (disk_after (disk_with old synced (changes_of pending)) (change_of change ∷ []))
pushed old new synced pending now change first ended is = rw (first, ended, is, map-append) (within_itself (disk_after (disk_with false synced (changes_of pending)) (change_of change ∷ [])))

-- the disk after a call that failed, and has left its change or not
lost_left : (synced : List ℕ) (changes more : List Change) (base : List ℕ) → AreLeftOf (changes ∷ []) synced base → AreLeftOf ((changes ++ more) ∷ []) synced base
lost_left synced changes more base left = (left.0, parts_left changes more left.0 left.1, left.2)

lost_within : (synced : List ℕ) (changes more : List Change) → IsWithin (disk_with true synced changes) (disk_with true synced (changes ++ more))
lost_within synced changes more = record {
  also = λ rest bytes crashed. record { base = crashed.base; of_lost = lost_left synced changes more crashed.base crashed.of_lost; parts = crashed.parts; of_pending = crashed.of_pending; are = crashed.are };
  settles = λ rest bytes settled base left. settled base (lost_left synced changes more base left);
}

-- a disk of which nothing is pending is within itself after a call that failed
nothing_lost : (synced : List ℕ) (changes more : List Change) → IsWithin (disk_with true synced changes) (spoilt (disk_after (disk_with true synced changes) more))
nothing_lost synced changes more = record {
  also = λ rest bytes crashed. record {
    base = crashed.base;
    of_lost = (crashed.of_lost.0, crashed.of_lost.1, ([], tt, crashed.of_lost.2));
    parts = crashed.parts;
    of_pending = crashed.of_pending;
    are = crashed.are;
  };
  settles = λ rest bytes settled base left. settled base (left.0, left.1, ([], tt, left.2));
}

pub unchanged : (old new : Bool) (synced : List ℕ) (pending now : List PendingChange) (more : List Change) → new ≡ true → now ≡ pending
    → IsWithin (disk_with new synced (changes_of now)) (spoilt (disk_after (disk_with old synced (changes_of pending)) more))
unchanged false new synced pending now more failed same = rw (failed, same) (lost_within synced (changes_of pending) more)
unchanged true new synced pending now more failed same = rw (failed, same) (nothing_lost synced (changes_of pending) more)

pub left_pushed : (old new : Bool) (synced : List ℕ) (pending now : List PendingChange) (change : PendingChange) → old ≡ false → new ≡ true → now ≡ pending ++ change ∷ []
    → IsWithin (disk_with new synced (changes_of now)) (spoilt (disk_after (disk_with old synced (changes_of pending)) (change_of change ∷ [])))
left_pushed old new synced pending now change first failed is =
    rw (first, failed, is, map-append) (within_itself (disk_with true synced (changes_of pending ++ change_of change ∷ [])))

-- the same of disks
pub unchanged_disk : (old new : TestDisk) (more : List Change) → new.synced ≡ old.synced → new.pending.items ≡ old.pending.items → new.failed ≡ true → IsWithin (disk_of new) (spoilt (disk_after (disk_of old) more))
unchanged_disk old new more synced same failed = rw synced (unchanged old.failed new.failed old.synced.items old.pending.items new.pending.items more failed same)

pub left_disk : (old new : TestDisk) (change : PendingChange) → new.synced ≡ old.synced → old.failed ≡ false → new.failed ≡ true → new.pending.items ≡ old.pending.items ++ change ∷ []
    → IsWithin (disk_of new) (spoilt (disk_after (disk_of old) (change_of change ∷ [])))
left_disk old new change synced first failed is = rw synced (left_pushed old.failed new.failed old.synced.items old.pending.items new.pending.items change first failed is)

pub pushed_disk : (old new : TestDisk) (change : PendingChange) → new.synced ≡ old.synced → old.failed ≡ false → new.failed ≡ false → new.pending.items ≡ old.pending.items ++ change ∷ []
    → IsWithin (disk_of new) (disk_after (disk_of old) (change_of change ∷ []))
pushed_disk old new change synced first ended is = rw synced (pushed old.failed new.failed old.synced.items old.pending.items new.pending.items change first ended is)

pub pushed_bytes : (old new : TestDisk) (change : PendingChange) → new.synced ≡ old.synced → new.pending.items ≡ old.pending.items ++ change ∷ [] → readable_bytes new ≡ changed (change_of change) (readable_bytes old)
pushed_bytes old new change synced is = rw synced (applied_pushed old.pending.items new.pending.items change old.synced.items is)

pub same_bytes : (old new : TestDisk) → new.synced ≡ old.synced → new.pending.items ≡ old.pending.items → readable_bytes new ≡ readable_bytes old
same_bytes old new synced same = rw (synced, same) refl

-- ---- a disk that is synced

-- the same bytes can be read
pub kept : {T E : Type 0} (r : Result T E) (old new : TestDisk) → OnOk r (IsSettled old new) → OnErr r (IsLost old new) → readable_bytes new ≡ readable_bytes old
kept (Ok x) old new settled lost = rw settled.2 settled.1
kept (Err e) old new settled lost = same_bytes old new lost.0 (ap (λ v. v.items) lost.1)

settled_disk : (old new : TestDisk) → IsSettled old new → disk_of new ≡ certain (readable_bytes old)
settled_disk old new settled = rw (settled.3, settled.1, settled.2) refl

pub synced_now : (old new : TestDisk) → IsSettled old new → MakesSynced (disk_of old) (disk_of new)
synced_now old new settled = rw (settled_disk old new settled) (record {
  certainly = λ bytes gives. ap certain (reads old.failed settled.0 bytes gives);
  otherwise = certain_within (disk_of old) (readable_bytes old) (all_there old);
})
  where
    reads : (failed : Bool) → failed ≡ false → (bytes : List ℕ) → SettlesTo (disk_with failed old.synced.items (changes_of old.pending.items)) bytes → readable_bytes old ≡ bytes
    reads failed is bytes gives = (rw is at gives) old.synced.items refl

pub replaced_now : (old new : TestDisk) → IsSettled old new → MakesCertain (Some (readable_bytes old)) (Some (disk_of old)) (Some (disk_of new))
replaced_now old new settled disk xs is known = rw (settled_disk old new settled) (let same : readable_bytes old ≡ xs = (let here = known in cc) in rw same refl)

pub lost_disk : (old new : TestDisk) → IsLost old new → IsWithin (disk_of new) (spoilt (disk_after (disk_of old) []))
lost_disk old new lost = unchanged_disk old new [] lost.0 (ap (λ v. v.items) lost.1) lost.2

pub on_err_map : {T E P Q : Type 0} (r : Result T E) → (P → Q) → OnErr r P → OnErr r Q
on_err_map (Ok x) f p = tt
on_err_map (Err e) f p = f p
