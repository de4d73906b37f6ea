-- A buffer of which a part is filled.
use Rattle.std.proofs.Common.{◌≡◌, ℕ, ◌+◌, ◌-◌, ◌<◌, ◌≤◌, List, ◌++◌, Option, arith, length, take, drop, sym, ap, ◌∙◌, subst, le_refl, length-take-le}
use Rattle.std.proofs.KnownBytes.{Consumes-trans}
use Rattle.std.proofs.Math.Seq.{take-append-add}
use Rattle.std.proofs.lemmas.List.{length-append, length-drop, length-take, take-append-le, take_all, with_items_is}
use Rattle.std.proofs.lemmas.Slice.{take-put_mid_below}
use Rattle.std.specs.Io.KnownBytes.{Consumes, IsAtEnd}
use Rattle.std.specs.Prelude.{Vec}
use Rattle.std.specs.Vec.{with_items}
use Rattle.aegis_files.specs.Private.{ReadsPart}
use borrow.Rule.Slice.PartMut.{put_mid}

take_filled : (from room n : ℕ) (old part : List ℕ) → from ≤ length old → n ≤ length part → take (from + n) (put_mid from room old part) ≡ take from old ++ take n part
take_filled from room n old part within fits = grind (arith, length-take-le, take-append-add, take-append-le)

-- one more read, after the bytes that are filled already
pub filled_more : (a b c : Option (List ℕ)) (from room n : ℕ) (old part : List ℕ) → from ≤ length old → n ≤ length part
    → Consumes a b (take from old) → Consumes b c (take n part) → Consumes a c (take (from + n) (put_mid from room old part))
filled_more a b c from room n old part within fits before read =
    subst (Consumes a c) (sym (take_filled from room n old part within fits)) (Consumes-trans a b c (take from old) (take n part) before read)

-- a read that failed
pub filled_same : (a c : Option (List ℕ)) (from room : ℕ) (old part : List ℕ) → from ≤ length old → Consumes a c (take from old)
    → Consumes a c (take from (put_mid from room old part))
filled_same a c from room old part within before = subst (Consumes a c) (sym (take-put_mid_below _ _ _ _ _ (le_refl _) within)) before

pub put_part : (from room : ℕ) (old part : List ℕ) → from + room ≤ length old → length part ≡ length (take room (drop from old)) → length part ≡ room
put_part from room old part within same =
    omega (arith, same, length-take room (drop from old), length-drop from old)

pub put_long : (from room : ℕ) (old part : List ℕ) → from + room ≤ length old → length part ≡ length (take room (drop from old))
    → length (put_mid from room old part) ≡ length old
put_long from room old part within same = grind (arith, put_part, length-drop, length-append, length-take-le)

-- the bytes `from..to` of a vector were filled, or the first n of them
pub filled_part : {A : Type 0} (v : Vec ℕ A) (old all part : List ℕ) (from to n : ℕ) (left left' : Option (List ℕ)) → all ≡ v.items → take from all ≡ take from old
    → from ≤ to → to ≤ length all → length part ≡ length (take (to - from) (drop from all)) → n ≤ length part
    → Consumes left left' (take n part) → (n < length part → IsAtEnd left')
    → ReadsPart old (with_items v (put_mid from (to - from) all part)).items from to (from + n) left left'
filled_part v old all part from to n left left' value beginning ordered fits same within read end =
    grind (arith, put_part, put_long, with_items_is, take-put_mid_below, le_refl, filled_more)

-- the beginning of a vector that is made longer by zeros
pub longer : (old zeros : List ℕ) (from to : ℕ) → from ≤ length old → length old ≤ to → take from (take to old ++ zeros) ≡ take from old
longer old zeros from to within grown =
    ap (λ (l : List ℕ). take from (l ++ zeros)) (take_all to old grown) ∙ take-append-le from old zeros within

-- what the loop that fills a buffer uses
pub ruleset fill_laws = (filled_more, filled_same, put_long, put_part)
