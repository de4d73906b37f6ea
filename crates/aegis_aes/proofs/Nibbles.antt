-- Look-ups in tables of sixteen entries, by places that are computed from bytes.
use Rattle.std.proofs.Common.{◌≡◌, ℕ, zero, suc, ◌+◌, ◌*◌, ◌/◌, ◌%◌, ◌^◌, ◌<◌, Bool, true, false, cond, ◌||◌, ◌==◌, T, ltb, leb, List, [], ◌∷◌, length, map, get_or, take, bit_and, bit_xor, replicate, w8, Fits, refl, sym, ap, ◌∙◌, arith, lt→ltb, map-id, ⊎_elim}
use Rattle.std.proofs.lemmas.Grind.{same_number_lists}
use Rattle.std.proofs.lemmas.List.{get_or-map, length-map, take_all}
use Rattle.std.proofs.lemmas.Bool.{agree_below, agree_below_at, eqb-true, leb-false}
use Rattle.std.proofs.lemmas.Nat.{xor_mod, xor_lt, and_le_r}
use Rattle.std.proofs.lemmas.Simd.{get_or-chunk, swz_l, SwzOk, SwzOk-from_Each1, get_or-swz_l, Each1-get_or, Each1-weaker, Each1-zip2, Each1-all, Each2-splat, Each2-of, map-map, splat_is_map, zip2_of_maps}
use Rattle.std.specs.Simd.Lanes.{Each1, chunk, zip2}
use mir.Val.{zeroes}
use Rattle.aegis_aes.specs.Permutes.{ArePlaces, IsPlace, IsWidth, table_entry, entry_beside}
use Rattle.aegis_aes.specs.declared.permutes.TheConstants.{IN_HIGH, IN_LOW, INVERSE, OUT_ONE, OUT_TWO, SCALED}
use Rattle.aegis_aes.specs.Field.{inverse, mul, mul_bits}
use Rattle.aegis_aes.specs.Round.{affine, substitute}

-- ---- places
pub xor_places : {a b : List ℕ} → ArePlaces a → ArePlaces b → ArePlaces (zip2 bit_xor a b)
xor_places {a} {b} p q = record {
  each = Each1-zip2 bit_xor IsPlace a b (Each2-of IsPlace IsPlace (λ m n. IsPlace (bit_xor m n))
      (λ m n h k. omega (arith, xor_mod m n 7, xor_lt 4 (m % 128) (n % 128) h k)) a b p.each q.each);
}

pub and_places : (xs : List ℕ) (n : ℕ) → ArePlaces (zip2 bit_and xs (replicate n 15))
and_places xs n = record {
  each = Each1-zip2 bit_and IsPlace xs (replicate n 15)
      (Each2-splat (λ a b. IsPlace (bit_and a b)) xs n 15 (Each1-all (λ a. IsPlace (bit_and a 15)) (λ a. omega (arith, and_le_r a 15)) xs));
}

pub inverse_places : ArePlaces INVERSE
inverse_places = record { each = (omega arith, (omega arith, (omega arith, (omega arith, (omega arith, (omega arith, (omega arith, (omega arith, (omega arith, (omega arith, (omega arith, (omega arith, (omega arith, (omega arith, (omega arith, (omega arith, tt)))))))))))))))) }

pub scaled_places : ArePlaces SCALED
scaled_places = record { each = (omega arith, (omega arith, (omega arith, (omega arith, (omega arith, (omega arith, (omega arith, (omega arith, (omega arith, (omega arith, (omega arith, (omega arith, (omega arith, (omega arith, (omega arith, (omega arith, tt)))))))))))))))) }

is-place : (j : ℕ) (b : Bool) → leb 128 j ≡ b → IsPlace j → T (b || ltb j 16)
is-place j true e h = tt
is-place j false e h = lt→ltb j 16 (omega (arith, leb-false 128 j e))

-- the condition that a permute has on its places
pub places_ok : (b size n : ℕ) (at : List ℕ) → size ≡ b * 16 → n ≡ size → length at ≡ n → ArePlaces at → SwzOk w8 16 size 0 (take size at)
places_ok b size n at e same long p =
    rw (take_all size at (omega (arith, long))) (SwzOk-from_Each1 w8 16 b size 0 at e (omega (arith, long))
    (Each1-weaker IsPlace (λ j. T (leb 128 j || ltb j 16)) (λ j h. is-place j (leb 128 j) refl h) at p.each))

-- the result of a permute
pub moved : (size n : ℕ) (from at : List ℕ) → n ≡ size → length from ≡ n → length at ≡ n
    → (i : ℕ) → i < n → get_or (chunk 0 n (swz_l w8 16 (take size from) 0 (take size at))) i 0 ≡ entry_beside from i (get_or at i 0)
moved size n from at same long-from long-at i lt =
    rw (take_all size from (omega (arith, long-from))) (rw (take_all size at (omega (arith, long-at)))
    (get_or-chunk 0 n (swz_l w8 16 from 0 at) i 0 lt ∙ ap (λ (k : ℕ). get_or (swz_l w8 16 from 0 at) k 0) (omega arith) ∙ get_or-swz_l w8 16 from 0 at i (omega (arith, long-at))
    ∙ ap (λ (k : ℕ). cond (zeroes 16 w8 (get_or at i 0)) 0 (get_or from (16 * (k / 16) + get_or at i 0) 0)) (omega arith)))

-- ---- one look-up
entry-place : (t : List ℕ) → ArePlaces t → (j : ℕ) → IsPlace (table_entry t j)
entry-place t p j = either (leb 128 j) (get_or t j 0) (at-place t p.each j)
  where
    either : (b : Bool) (v : ℕ) → IsPlace v → IsPlace (cond b 0 v)
    either true v h = omega arith
    either false v h = h

    at-place : (xs : List ℕ) → Each1 IsPlace xs → (n : ℕ) → IsPlace (get_or xs n 0)
    at-place [] h n = omega arith
    at-place (x ∷ xs) h zero = h.0
    at-place (x ∷ xs) h (suc n) = at-place xs h.1 n

pub entry_places : (t at : List ℕ) → ArePlaces t → ArePlaces (map (table_entry t) at)
entry_places t at p = record { each = all at }
  where
    all : (js : List ℕ) → Each1 IsPlace (map (table_entry t) js)
    all [] = tt
    all (j ∷ js) = (entry-place t p j, all js)

-- ---- lists of entries
pub blocks : (n : ℕ) → IsWidth n → n % 16 ≡ 0
blocks n width = ⊎_elim (λ e. rw e refl) (λ e. rw e refl) width

pub two_blocks : (n : ℕ) → IsWidth n → (n ≡ 16 → ⊥) → n ≡ 32
two_blocks n width not-one = ⊎_elim (λ e. absurd (not-one e)) (λ e. e) width

pub entries-at : (table from at out : List ℕ) (n : ℕ) → length from ≡ n → length at ≡ n → length out ≡ n
    → ((i : ℕ) → i < n → get_or from i 0 ≡ get_or table (i % 16) 0) → ArePlaces at → IsWidth n
    → ((i : ℕ) → i < n → get_or out i 0 ≡ entry_beside from i (get_or at i 0))
    → out ≡ map (table_entry table) at
entries-at table from at out n long-from long-at long-out same p width each =
    let whole : n % 16 ≡ 0 = blocks n width in
    same_number_lists _ _ (long-out ∙ sym (length-map at (table_entry table) ∙ long-at)) (λ i lt.
    let l : i < n = omega (arith, lt, long-out) in
    each i l ∙ beside whole (get_or at i 0) i l (leb 128 (get_or at i 0)) refl (Each1-get_or IsPlace at i 0 (omega (arith, long-at)) p.each)
    ∙ sym (get_or-map (table_entry table) at i 0 0 (omega (arith, long-at))))
  where
    beside : n % 16 ≡ 0 → (j i : ℕ) → i < n → (b : Bool) → leb 128 j ≡ b → IsPlace j → entry_beside from i j ≡ table_entry table j
    beside whole j i l true e h = rw e refl
    beside whole j i l false e h =
        let low : j < 16 = omega (arith, leb-false 128 j e) in
        let within : 16 * (i / 16) + j < n = omega arith in
        rw e (same (16 * (i / 16) + j) within ∙ ap (λ (k : ℕ). get_or table k 0) (omega arith))

-- ---- SubBytes of one byte, step by step
abbrev pub half : ℕ → ℕ
half x = bit_and x 15

abbrev pub changed : ℕ → ℕ
changed x = bit_xor (table_entry IN_LOW (half x)) (table_entry IN_HIGH (half (x / 2 ^ 4)))

abbrev pub lower : ℕ → ℕ
lower x = half (changed x)

abbrev pub upper : ℕ → ℕ
upper x = half (changed x / 2 ^ 4)

abbrev pub total : ℕ → ℕ
total x = bit_xor (upper x) (lower x)

abbrev pub first : ℕ → ℕ
first x = bit_xor (table_entry INVERSE (bit_xor (table_entry INVERSE (upper x)) (table_entry SCALED (lower x)))) (total x)

abbrev pub second : ℕ → ℕ
second x = bit_xor (table_entry INVERSE (bit_xor (table_entry INVERSE (total x)) (table_entry SCALED (lower x)))) (upper x)

abbrev pub substituted : ℕ → ℕ
substituted x = bit_xor (bit_xor (table_entry OUT_ONE (first x)) (table_entry OUT_TWO (second x))) 0x63

all_bytes : agree_below (λ x. substituted x == substitute x) (λ _. true) 256 ≡ true
unfolding mul_bits mul inverse affine substitute
all_bytes = refl

pub all_substituted : (xs : List ℕ) → Each1 (Fits w8) xs → map substituted xs ≡ map substitute xs
all_substituted [] fits = refl
all_substituted (x ∷ xs) fits =
    let here : substituted x ≡ substitute x = eqb-true _ _ (agree_below_at (λ x. substituted x == substitute x) (λ _. true) 256 x all_bytes fits.0.fits) in
    let rest = all_substituted xs fits.1 in
    λ k. here k ∷ rest k

pub small : (n : ℕ) → IsWidth n → n * 1 < 2 ^ 63
small n width = ⊎_elim (λ e. omega arith) (λ e. omega arith) width

-- the result of each step on n bytes
module _ (xs : List ℕ) (n : ℕ) (long : length xs ≡ n) where
  pub themselves : xs ≡ map (λ x. x) xs
  themselves = sym (map-id xs)

  pub halves : {js r : List ℕ} (g : ℕ → ℕ) → js ≡ map g xs → r ≡ zip2 bit_and js (replicate n 15) → r ≡ map (λ x. half (g x)) xs
  halves g e made = made ∙ zip2_of_maps bit_and g (λ _. 15) xs e (splat_is_map xs n 15 long)

  pub shifted : {js : List ℕ} (g : ℕ → ℕ) → js ≡ map g xs → zip2 (λ a b. a / 2 ^ b) js (replicate n 4) ≡ map (λ x. g x / 2 ^ 4) xs
  shifted g e = zip2_of_maps (λ a b. a / 2 ^ b) g (λ _. 4) xs e (splat_is_map xs n 4 long)

  pub found : {js r : List ℕ} (t : List ℕ) (g : ℕ → ℕ) → js ≡ map g xs → r ≡ map (table_entry t) js → r ≡ map (λ x. table_entry t (g x)) xs
  found t g e made = made ∙ ap (map (table_entry t)) e ∙ map-map (table_entry t) g xs

  pub sum_of : {js ks : List ℕ} (g h : ℕ → ℕ) → js ≡ map g xs → ks ≡ map h xs → zip2 bit_xor js ks ≡ map (λ x. bit_xor (g x) (h x)) xs
  sum_of g h e f = zip2_of_maps bit_xor g h xs e f
