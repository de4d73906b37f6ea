-- What calls do to what a crash may leave.
use Rattle.std.specs.Prelude.{⊤}
use Rattle.std.proofs.Common.{◌≡◌, ℕ, ◌+◌, ◌<◌, ◌≤◌, ◌⊎◌, inl, inr, List, [], ◌∷◌, ◌++◌, None, Some, OnErr, OnOk, Option, Result, Ok, Err, get_or, length, max, refl, sym, subst, ap, ◌∙◌, arith}
use Rattle.std.proofs.lemmas.List.{append-nil, append_assoc, ext_get_or}
use Rattle.aegis_storage.specs.Disk.{AreLeftOf, AreParts, Change, CrashLeaves, Crashed, Disk, IsPart, IsPartOfOne, IsPossible, IsWithin, MakesSynced, SettlesTo, Size, Write, Writes, disk_after, after_writes, applied, certain, changed, changes, overwritten, resized, spoilt}
use Rattle.aegis_storage.specs.Steps.{LeavesNoMore}
use Rattle.aegis_storage.proofs.Overwriting.{after_part, before_part, length-overwritten, within_part}

-- ---- parts of changes

pub itself : (change : Change) → IsPart change change
itself (Write at bs) = (0, omega arith, omega arith)
itself (Size n) = refl

part_left : (xs ys : List Change) (part : Change) → IsPartOfOne xs part → IsPartOfOne (xs ++ ys) part
part_left [] ys part p = absurd p
part_left (x ∷ xs) ys part (inl p) = inl p
part_left (x ∷ xs) ys part (inr p) = inr (part_left xs ys part p)

pub parts_left : (xs ys parts : List Change) → AreParts xs parts → AreParts (xs ++ ys) parts
parts_left xs ys [] are = tt
parts_left xs ys (part ∷ parts) are = (part_left xs ys part are.0, parts_left xs ys parts are.1)

part_right : (xs ys : List Change) (part : Change) → IsPartOfOne ys part → IsPartOfOne (xs ++ ys) part
part_right [] ys part p = p
part_right (x ∷ xs) ys part p = inr (part_right xs ys part p)

pub parts_right : (xs ys parts : List Change) → AreParts ys parts → AreParts (xs ++ ys) parts
parts_right xs ys [] are = tt
parts_right xs ys (part ∷ parts) are = (part_right xs ys part are.0, parts_right xs ys parts are.1)

pub parts_append : (changes first second : List Change) → AreParts changes first → AreParts changes second → AreParts changes (first ++ second)
parts_append changes [] second p q = q
parts_append changes (part ∷ first) second p q = (p.0, parts_append changes first second p.1 q)

pub all_parts : (more : List Change) → AreParts more more
all_parts [] = tt
all_parts (change ∷ more) = (inl (itself change), parts_right (change ∷ []) more more (all_parts more))

no_parts : (parts : List Change) → AreParts [] parts → parts ≡ []
no_parts [] are = refl
no_parts (part ∷ parts) are = absurd are.0

pub applied_append : (first second : List Change) (xs : List ℕ) → applied (first ++ second) xs ≡ applied second (applied first xs)
applied_append [] second xs = refl
applied_append (change ∷ first) second xs = applied_append first second (changed change xs)

-- ---- what a crash leaves

-- What holds of the synced bytes, and then after each part of a pending change, holds after a crash.
pub after_parts : (P : List ℕ → Type 0) (xs : List ℕ) (more : List Change) → ((part : Change) (ys : List ℕ) → IsPartOfOne more part → P ys → P (changed part ys)) → P xs
    → (bytes : List ℕ) → Crashed (disk_after (certain xs) more) bytes → P bytes
after_parts P xs more step first bytes crashed = rw (crashed.are, crashed.of_lost) (all crashed.parts xs crashed.of_pending first)
  where
    all : (parts : List Change) (ys : List ℕ) → AreParts more parts → P ys → P (applied parts ys)
    all [] ys are p = p
    all (part ∷ parts) ys are p = all parts (changed part ys) are.1 (step part ys are.0 p)

pub certain_only : (xs ys : List ℕ) → Crashed (certain xs) ys → ys ≡ xs
certain_only xs ys crashed = crashed.are ∙ ap (λ (l : List Change). applied l crashed.base) (no_parts crashed.parts crashed.of_pending) ∙ crashed.of_lost

pub certain_has : (P : List ℕ → Type 0) (state : Option Disk) (xs : List ℕ) → P xs → state ≡ Some (certain xs) → CrashLeaves P state
certain_has P state xs p is = record { disk = certain xs; is = is; has = λ ys crashed. rw (certain_only xs ys crashed) p }

pub certain_leaves : (state : Option Disk) (xs : List ℕ) → state ≡ Some (certain xs) → CrashLeaves (λ ys. ys ≡ xs) state
certain_leaves state xs is = certain_has (λ ys. ys ≡ xs) state xs refl is

pub has_left : (P : List ℕ → Type 0) (state : Option Disk) (disk : Disk) (bytes : List ℕ) → CrashLeaves P state → state ≡ Some disk → Crashed disk bytes → P bytes
has_left P state disk bytes leaves is crashed = leaves.has bytes (let same : disk ≡ leaves.disk = (let also = leaves.is in cc) in rw same at crashed)

-- a crash leaves some of the pending changes, and those that are pending besides them
pub crashed_more : (disk : Disk) (more : List Change) (bytes : List ℕ) → Crashed disk bytes → Crashed (disk_after disk more) bytes
crashed_more disk more bytes crashed = record {
  base = crashed.base;
  of_lost = crashed.of_lost;
  parts = crashed.parts;
  of_pending = parts_left disk.pending more crashed.parts crashed.of_pending;
  are = crashed.are;
}

-- ---- what can be read

-- what can be read of a known disk
pub record Readable (bytes : Option (List ℕ)) (disk : Disk) : Type 0 where
  pub xs : List ℕ
  pub is : bytes ≡ Some xs
  pub possible : Crashed disk xs

pub readable : (bytes : Option (List ℕ)) (state : Option Disk) (disk : Disk) → IsPossible bytes state → state ≡ Some disk → Readable bytes disk
readable bytes state disk possible is = cases bytes (rw is at possible)
  where
    cases : (bytes : Option (List ℕ)) → IsPossible bytes (Some disk) → Readable bytes disk
    cases None p = absurd p
    cases (Some xs) p = record { xs = xs; is = refl; possible = p }

pub readable_certain : (bytes : Option (List ℕ)) (state : Option Disk) (xs : List ℕ) → IsPossible bytes state → state ≡ Some (certain xs) → bytes ≡ Some xs
readable_certain bytes state xs possible is = let r = readable bytes state (certain xs) possible is in r.is ∙ ap Some (certain_only xs r.xs r.possible)

pub on_ok_map : {T E P Q : Type 0} (r : Result T E) → (P → Q) → OnOk r P → OnOk r Q
on_ok_map (Ok x) f p = f p
on_ok_map (Err e) f p = tt

pub on_err : {T E P : Type 0} (r : Result T E) → P → OnErr r P
on_err (Ok x) p = tt
on_err (Err e) p = p

-- ---- a disk within another

pub no_more : (disk : Disk) → disk_after disk [] ≡ disk
no_more disk = rw append-nil refl

pub after_after : (disk : Disk) (more rest : List Change) → disk_after (disk_after disk more) rest ≡ disk_after disk (more ++ rest)
after_after disk more rest = rw append_assoc refl

pub within_itself : (disk : Disk) → IsWithin disk disk
within_itself disk = record { also = λ more bytes crashed. crashed; settles = λ more bytes settled. settled }

pub within_both : (a b c : Disk) → IsWithin a b → IsWithin b c → IsWithin a c
within_both a b c p q = record {
  also = λ more bytes crashed. q.also more bytes (p.also more bytes crashed);
  settles = λ more bytes settled. p.settles more bytes (q.settles more bytes settled);
}

pub within_crashed : (a b : Disk) → IsWithin a b → LeavesNoMore a b
within_crashed a b p bytes crashed =
    subst (λ (d : Disk). Crashed d bytes) (no_more b) (p.also [] bytes (subst (λ (d : Disk). Crashed d bytes) (sym (no_more a)) crashed))

pub within_settles : (a b : Disk) (bytes : List ℕ) → IsWithin a b → SettlesTo b bytes → SettlesTo a bytes
within_settles a b bytes p settled =
    subst (λ (d : Disk). SettlesTo d bytes) (no_more a) (p.settles [] bytes (subst (λ (d : Disk). SettlesTo d bytes) (sym (no_more b)) settled))

pub within_after : (a b : Disk) (more : List Change) → IsWithin a b → IsWithin (disk_after a more) (disk_after b more)
within_after a b more p = record {
  also = λ rest bytes crashed.
      subst (λ (d : Disk). Crashed d bytes) (sym (after_after b more rest)) (p.also (more ++ rest) bytes (subst (λ (d : Disk). Crashed d bytes) (after_after a more rest) crashed));
  settles = λ rest bytes settled.
      subst (λ (d : Disk). SettlesTo d bytes) (sym (after_after a more rest)) (p.settles (more ++ rest) bytes (subst (λ (d : Disk). SettlesTo d bytes) (after_after b more rest) settled));
}

-- one more layer is lost
left_more : (layers : List (List Change)) (layer : List Change) (before base bytes : List ℕ) (parts : List Change) → AreLeftOf layers before base → AreParts layer parts → bytes ≡ applied parts base
    → AreLeftOf (layers ++ layer ∷ []) before bytes
left_more [] layer before base bytes parts left of are = (parts, of, are ∙ ap (applied parts) left)
left_more (first ∷ layers) layer before base bytes parts left of are = (left.0, left.1, left_more layers layer (applied left.0 before) base bytes parts left.2 of are)

-- what is left with it
record LeftMore (layers : List (List Change)) (layer : List Change) (before bytes : List ℕ) : Type 0 where
  base : List ℕ
  left : AreLeftOf layers before base
  parts : List Change
  of : AreParts layer parts
  are : bytes ≡ applied parts base

more_left : (layers : List (List Change)) (layer : List Change) (before bytes : List ℕ) → AreLeftOf (layers ++ layer ∷ []) before bytes → LeftMore layers layer before bytes
more_left [] layer before bytes left = record { base = before; left = refl; parts = left.0; of = left.1; are = left.2 }
more_left (first ∷ layers) layer before bytes left =
    let rest = more_left layers layer (applied left.0 before) bytes left.2 in record { base = rest.base; left = (left.0, left.1, rest.left); parts = rest.parts; of = rest.of; are = rest.are }

-- what a crash leaves is what a later one may begin with
pub crashed_left : (disk : Disk) (bytes : List ℕ) → Crashed disk bytes → AreLeftOf (disk.lost ++ disk.pending ∷ []) disk.synced bytes
crashed_left disk bytes crashed = left_more disk.lost disk.pending disk.synced crashed.base bytes crashed.parts crashed.of_lost crashed.of_pending crashed.are

pub left_crashed : (disk : Disk) (bytes : List ℕ) → AreLeftOf (disk.lost ++ disk.pending ∷ []) disk.synced bytes → Crashed disk bytes
left_crashed disk bytes left =
    let rest = more_left disk.lost disk.pending disk.synced bytes left in record { base = rest.base; of_lost = rest.left; parts = rest.parts; of_pending = rest.of; are = rest.are }

-- a crash leaves as much after a call that failed
pub spoilt_crashed : (disk : Disk) → LeavesNoMore (spoilt disk) disk
spoilt_crashed disk bytes crashed =
    left_crashed disk bytes (rw (crashed.are ∙ ap (λ (l : List Change). applied l crashed.base) (no_parts crashed.parts crashed.of_pending)) crashed.of_lost)

pub within_spoilt : (a b : Disk) → IsWithin a b → IsWithin (spoilt a) (spoilt b)
within_spoilt a b p = record {
  also = λ more bytes crashed. record {
    base = crashed.base;
    of_lost = crashed_left b crashed.base (within_crashed a b p crashed.base (left_crashed a crashed.base crashed.of_lost));
    parts = crashed.parts;
    of_pending = crashed.of_pending;
    are = crashed.are;
  };
  settles = λ more bytes settled base left. settled base (crashed_left b base (within_crashed a b p base (left_crashed a base left)));
}

-- certain bytes stay certain after a call that failed
spoilt_certain : (xs : List ℕ) → IsWithin (spoilt (certain xs)) (certain xs)
spoilt_certain xs = record {
  also = λ rest bytes crashed. record {
    base = xs;
    of_lost = refl;
    parts = crashed.parts;
    of_pending = crashed.of_pending;
    are = crashed.are ∙ ap (applied crashed.parts) (nothing crashed.base crashed.of_lost);
  };
  settles = λ rest bytes settled base left. ap (applied rest) (nothing base left) ∙ settled xs refl;
}
  where
    nothing : (base : List ℕ) → AreLeftOf ([] ∷ []) xs base → base ≡ xs
    nothing base left = left.2 ∙ ap (λ (l : List Change). applied l xs) (no_parts left.0 left.1)

pub stays_certain : (old new : Disk) (xs : List ℕ) → IsWithin new (spoilt old) → IsWithin old (certain xs) → IsWithin new (certain xs)
stays_certain old new xs p q =
    within_both new (spoilt old) (certain xs) p (within_both (spoilt old) (spoilt (certain xs)) (certain xs) (within_spoilt old (certain xs) q) (spoilt_certain xs))

-- certain bytes that a crash may leave
pub certain_within : (disk : Disk) (xs : List ℕ) → Crashed disk xs → IsWithin (certain xs) (spoilt disk)
certain_within disk xs left = record {
  also = λ rest bytes crashed. record {
    base = xs;
    of_lost = crashed_left disk xs left;
    parts = crashed.parts;
    of_pending = crashed.of_pending;
    are = crashed.are ∙ ap (applied crashed.parts) crashed.of_lost;
  };
  settles = λ rest bytes settled base same. ap (applied rest) same ∙ settled xs (crashed_left disk xs left);
}

-- ---- what a sync makes certain

pub settles_after : (xs : List ℕ) (more : List Change) → SettlesTo (disk_after (certain xs) more) (applied more xs)
settles_after xs more base left = ap (applied more) left

pub settles_certain : (xs : List ℕ) → SettlesTo (certain xs) xs
settles_certain xs base left = left

-- a disk of which a crash leaves these bytes alone
pub settles_only : (disk : Disk) (xs : List ℕ) → ((ys : List ℕ) → Crashed disk ys → ys ≡ xs) → SettlesTo disk xs
settles_only disk xs only base left = only (applied disk.pending base) (record { base = base; of_lost = left; parts = disk.pending; of_pending = all_parts disk.pending; are = refl })

pub resized_none : (xs : List ℕ) → resized xs 0 ≡ []
resized_none xs = grind arith

-- a journal that is emptied, whatever was lost of it
pub settles_emptied : (disk : Disk) → SettlesTo (disk_after disk (Size 0 ∷ [])) []
settles_emptied disk base left = applied_append disk.pending (Size 0 ∷ []) base ∙ resized_none (applied disk.pending base)

-- after any part of it, with nothing else pending, the journal is as it was, or empty
emptied_parts : (parts : List Change) (xs : List ℕ) → AreParts (Size 0 ∷ []) parts → (applied parts xs ≡ xs) ⊎ (applied parts xs ≡ [])
emptied_parts [] xs are = inl refl
emptied_parts (Write at bs ∷ parts) xs are = elim are.0 [ inl none ↦ absurd none | inr none ↦ absurd none ]
emptied_parts (Size n ∷ parts) xs are = elim are.0 [
  | inl is ↦ inr (elim (emptied_parts parts (resized xs n) are.1) [
    | inl same ↦ same ∙ ap (resized xs) is ∙ resized_none xs
    | inr none ↦ none
  ])
  | inr none ↦ absurd none
]

pub emptied : (disk : Disk) (bytes : List ℕ) → disk.pending ≡ [] → Crashed (disk_after disk (Size 0 ∷ [])) bytes → Crashed disk bytes ⊎ (bytes ≡ [])
emptied disk bytes none crashed = elim (emptied_parts crashed.parts crashed.base (rw none at crashed.of_pending)) [
  | inl same ↦ inl (record { base = crashed.base; of_lost = crashed.of_lost; parts = []; of_pending = tt; are = crashed.are ∙ same })
  | inr empty ↦ inr (crashed.are ∙ empty)
]

-- ---- vectors

-- certain bytes, after a change that is made at once
pub made : (xs zs : List ℕ) (change : Change) → zs ≡ changed change xs → IsWithin (certain zs) (disk_after (certain xs) (change ∷ []))
made xs zs change is = record {
  also = λ rest bytes crashed. record {
    base = xs;
    of_lost = refl;
    parts = change ∷ crashed.parts;
    of_pending = (inl (itself change), parts_right (change ∷ []) rest crashed.parts crashed.of_pending);
    are = crashed.are ∙ ap (applied crashed.parts) (crashed.of_lost ∙ is);
  };
  settles = λ rest bytes settled base left. ap (applied rest) (left ∙ is) ∙ settled xs refl;
}

-- and after a call that failed
pub unmade : (xs zs : List ℕ) (more : List Change) → zs ≡ xs → IsWithin (certain zs) (spoilt (disk_after (certain xs) more))
unmade xs zs more same = record {
  also = λ rest bytes crashed. record {
    base = zs;
    of_lost = ([], tt, same);
    parts = crashed.parts;
    of_pending = crashed.of_pending;
    are = crashed.are ∙ ap (applied crashed.parts) crashed.of_lost;
  };
  settles = λ rest bytes settled base left. ap (applied rest) left ∙ settled zs ([], tt, same);
}

pub synced_certain : (xs : List ℕ) → MakesSynced (certain xs) (certain xs)
synced_certain xs = record {
  certainly = λ bytes settled. ap certain (settled xs refl);
  otherwise = unmade xs xs [] refl;
}

-- ---- one write after the other

pub written_more : (writes : Writes) (at : ℕ) (bs xs : List ℕ) → after_writes (writes ++ (at, bs) ∷ []) xs ≡ overwritten (after_writes writes xs) at bs
written_more [] at bs xs = refl
written_more (write ∷ writes) at bs xs = written_more writes at bs (overwritten xs write.0 write.1)

-- ---- parts of writes, and the writes again

-- byte i is none of those that the writes write
abbrev Leaves : Writes → ℕ → Type 0
Leaves [] i = ⊤
Leaves (write ∷ writes) i = ((i < write.0) ⊎ (write.0 + length write.1 ≤ i)) × Leaves writes i

-- how far the writes reach
abbrev end_of : Writes → ℕ
end_of [] = 0
end_of (write ∷ writes) = max (write.0 + length write.1) (end_of writes)

-- The two differ only in bytes that the writes write, and in a length that they make up for.
pub record Alike (writes : Writes) (xs ys : List ℕ) : Type 0 where
  pub size : max (length xs) (end_of writes) ≡ max (length ys) (end_of writes)
  pub bytes : (i : ℕ) → Leaves writes i → get_or xs i 0 ≡ get_or ys i 0

alike_next : (at : ℕ) (bs : List ℕ) (writes : Writes) (xs ys : List ℕ) → Alike ((at, bs) ∷ writes) xs ys → Alike writes (overwritten xs at bs) (overwritten ys at bs)
alike_next at bs writes xs ys alike = record {
  size = let long = alike.size in omega (arith, long, length-overwritten xs at bs, length-overwritten ys at bs);
  bytes = λ i leaves. grind (arith, alike.bytes i, before_part, within_part, after_part);
}

-- the writes make them the same
alike_written : (writes : Writes) (xs ys : List ℕ) → Alike writes xs ys → after_writes writes xs ≡ after_writes writes ys
alike_written [] xs ys alike = ext_get_or 0 xs ys (let long = alike.size in omega (arith, long)) (λ i h. alike.bytes i tt)
alike_written (write ∷ writes) xs ys alike = alike_written writes (overwritten xs write.0 write.1) (overwritten ys write.0 write.1) (alike_next write.0 write.1 writes xs ys alike)

-- and so it is after a part of one of the writes
left_byte : (xs : List ℕ) (place : ℕ) (all : List ℕ) (at : ℕ) (bs : List ℕ) (k i : ℕ) → k + length bs ≤ length all → at ≡ place + k → (i < place) ⊎ (place + length all ≤ i)
    → get_or (overwritten xs at bs) i 0 ≡ get_or xs i 0
left_byte xs place all at bs k i fits is apart = grind (arith, before_part, after_part)

alike_part : (writes : Writes) (part : Change) (xs : List ℕ) → IsPartOfOne (changes writes) part → Alike writes (changed part xs) xs
alike_part [] part xs is = absurd is
alike_part (write ∷ writes) (Write at bs) xs (inl is) = record {
  size = let fits = is.1 in let there = is.2 in omega (arith, fits, there, length-overwritten xs at bs);
  bytes = λ i leaves. left_byte xs write.0 write.1 at bs is.0 i is.1 is.2 leaves.0;
}
alike_part (write ∷ writes) (Size n) xs (inl is) = absurd is
alike_part (write ∷ writes) part xs (inr is) =
    let rest = alike_part writes part xs is in record { size = let same = rest.size in omega (arith, same); bytes = λ i leaves. rest.bytes i leaves.1 }

-- The key: after any parts of the writes, in any order, the writes give what they give without these.
pub written_again : (writes : Writes) (parts : List Change) (xs : List ℕ) → AreParts (changes writes) parts → after_writes writes (applied parts xs) ≡ after_writes writes xs
written_again writes [] xs are = refl
written_again writes (part ∷ parts) xs are =
    written_again writes parts (changed part xs) are.1 ∙ alike_written writes (changed part xs) xs (alike_part writes part xs are.0)
