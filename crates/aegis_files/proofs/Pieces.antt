-- Pieces that are put together.
use Rattle.std.proofs.Common.{◌≡◌, ℕ, zero, suc, ◌+◌, ◌-◌, ◌<◌, ◌≤◌, List, [], ◌∷◌, ◌++◌, Option, Some, IfSome, drop, length, take, refl, sym, ap, ◌∙◌, arith, le_refl, subst}
use Rattle.std.proofs.KnownBytes.{Appends-kept}
use Rattle.std.proofs.lemmas.List.{append-nil, drop_at, length-append, length-drop, length-take, take_all, take_at}
use Rattle.std.proofs.lemmas.List.Folds.{concat-append}
use Rattle.std.proofs.Math.Seq.{drop-nil, take-add, take-nil}
use Rattle.std.specs.List.{concat}
use Rattle.std.specs.Io.KnownBytes.{Appends, Consumes, IsAtEnd, Keeps}
use Rattle.aegis.specs.declared.record.position.RecordPosition.{RecordPosition}
use Rattle.aegis.specs.RecordResults.{Begun, Progress}
use Rattle.aegis.specs.RecordStream.{frames_length, next_position, position_after}

pub concat-push : (ms : List (List ℕ)) (m : List ℕ) → concat (ms ++ m ∷ []) ≡ concat ms ++ m
concat-push ms m = concat-append ms (m ∷ []) ∙ ap (λ (l : List ℕ). concat ms ++ l) (append-nil m)

pub slice_end : (bytes : List ℕ) (start : ℕ) → take (length bytes - start) (drop start bytes) ≡ drop start bytes
slice_end bytes start = let len = length-drop start bytes in take_all (length bytes - start) (drop start bytes) (omega arith)

-- messages are shorter than their records
pub concat-short : (ms : List (List ℕ)) → length (concat ms) ≤ frames_length ms
concat-short [] = omega arith
concat-short (m ∷ ms) = let rest = concat-short ms in omega (arith, length-append m (concat ms))

-- the number of messages before a position, and of their bytes
pub counted_after : (at : RecordPosition) (ms : List (List ℕ))
    → ((position_after at ms).number ≡ at.number + length ms) × ((position_after at ms).before ≡ at.before + length (concat ms))
counted_after at [] = (omega arith, omega arith)
counted_after at (m ∷ ms) = let rest = counted_after (next_position at m) ms in grind (arith, rest, length-append)

pub counted : (p : Progress) (ms : List (List ℕ)) (bytes : List ℕ) → Begun p ms bytes → (p.position.number ≡ length ms) × (p.position.before ≡ length (concat ms))
unfolding Begun
counted p ms bytes b = grind (arith, counted_after)

-- what was read of bytes that are known
pub read_some : (all left : Option (List ℕ)) (taken : List ℕ) (P : List ℕ → Type 0) → Consumes all left taken
    → ((f rest : List ℕ) → all ≡ Some f → f ≡ taken ++ rest → left ≡ Some rest → P f) → IfSome all P
read_some all left taken P read go = grind arith

pub some_with : (a : Option (List ℕ)) (P Q : List ℕ → Type 0) → ((x : List ℕ) → P x → Q x) → IfSome a P → IfSome a Q
some_with a P Q so p = grind arith

pub at_end : (rest : List ℕ) (left : Option (List ℕ)) → left ≡ Some rest → IsAtEnd left → rest ≡ []
at_end rest left e end = grind arith

-- a reader that gave no bytes and is at its end was there before, and one that gave some was not
pub was_at_end : (a b : Option (List ℕ)) → Consumes a b [] → IsAtEnd b → IsAtEnd a
was_at_end a b read end = grind arith

pub some_left : (a b : Option (List ℕ)) (taken : List ℕ) → Consumes a b taken → 0 < length taken → IfSome a (λ rest. 0 < length rest)
some_left a b taken read some = grind (arith, length-append)

-- what looking for the end of a file uses
pub ruleset end_laws = (was_at_end, some_left, length-take)

-- the prefix of a file, and what follows it
pub two_prefixes : (a b x y : List ℕ) → length a ≡ 24 → length b ≡ 24 → a ++ x ≡ b ++ y → (a ≡ b) × (x ≡ y)
two_prefixes a b x y la lb e =
    (sym (take_at a x 24 la) ∙ ap (take 24) e ∙ take_at b y 24 lb, sym (drop_at a x 24 la) ∙ ap (drop 24) e ∙ drop_at b y 24 lb)

-- a part of no bytes, and of bytes that are put together
pub part_nil : (skip len : ℕ) → take len (drop {A = ℕ} skip []) ≡ []
part_nil skip len = grind (arith, take-nil, drop-nil)

pub part-append : (skip len : ℕ) (a b : List ℕ)
    → take len (drop skip (a ++ b)) ≡ take len (drop skip a) ++ take (len - length (take len (drop skip a))) (drop (skip - length a) b)
part-append zero zero a b = refl
part-append zero (suc len) [] b = let e : suc len - 0 ≡ suc len = omega arith in rw e refl
part-append zero (suc len) (x ∷ a) b = let rest = part-append zero len a b in grind (arith, rest)
part-append (suc skip) zero [] b = refl
part-append (suc skip) (suc len) [] b =
    let e : suc len - 0 ≡ suc len = omega arith in
    let f : suc skip - 0 ≡ suc skip = omega arith in
    rw (e, f) refl
part-append (suc skip) len (x ∷ a) b = let rest = part-append skip len a b in grind (arith, rest)

-- all bytes were written, and then the writer was flushed
pub flushed : (a b c : Option (List ℕ)) (bytes : List ℕ) → Appends a b bytes → Keeps b c → (n : ℕ) × Appends a c (take n bytes)
flushed a b c bytes sent kept = (length bytes, subst (Appends a c) (sym (take_all (length bytes) bytes (le_refl (length bytes)))) (Appends-kept a b c bytes sent kept))

-- what writing the last bytes uses
pub ruleset last_laws = (Appends-kept, flushed)

-- what the loop that writes bytes uses
pub ruleset write_laws = (take-add, slice_end)
