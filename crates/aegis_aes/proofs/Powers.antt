-- Products, inverses and the affine map on bytes side by side, from those of one byte.
use Rattle.std.proofs.Common.{◌≡◌, ℕ, zero, suc, ◌-◌, ◌*◌, ◌/◌, ◌%◌, ◌^◌, ◌<◌, Bool, true, false, not, cond, eqb, nat_lt, ◌==◌, List, [], ◌∷◌, length, map, bit_and, bit_or, bit_xor, replicate, if◌then◌else◌, w8, Fits, map-id, refl, sym, ap, ap₂, ◌∙◌, arith}
use Rattle.std.proofs.lemmas.Bool.{agree_below, agree_below_at, eqb-true, ltb-true}
use Rattle.std.proofs.lemmas.List.{length-map}
use Rattle.std.proofs.lemmas.Simd.{map-map, splat_is_map, zip2_of_maps}
use Rattle.std.specs.Simd.Lanes.{Each1, sel_l, top, zip2}
use Rattle.std.specs.Int.Bits.{xor_assoc, xor_zero_r}
use Rattle.aegis_aes.specs.Field.{inverse, mul, mul_bits, xtime}
use Rattle.aegis_aes.specs.Round.{affine, substitute}

-- ---- selections
pub selects : (bit : ℕ) (a b : List ℕ) → length a ≡ length b
    → sel_l (map (top 7) (zip2 (λ x y. cond (eqb x y) 255 0) (zip2 bit_and b (replicate (length b) bit)) (replicate (length b) 0))) (replicate (length b) 0) a
    ≡ zip2 (λ x y. if bit_and y bit == 0 then 0 else x) a b
selects bit [] [] long = refl
selects bit (x ∷ a) [] long = absurd (omega (arith, long))
selects bit [] (y ∷ b) long = absurd (omega (arith, long))
selects bit (x ∷ a) (y ∷ b) long = let rest = selects bit a b (omega (arith, long)) in λ k. here (bit_and y bit == 0) k ∷ rest k
  where
    here : (t : Bool) → cond (top 7 (cond t 255 0)) 0 x ≡ cond t 0 x
    here true = refl
    here false = refl

-- ---- products
abbrev pub part : ℕ → ℕ → ℕ → ℕ
part bit x y = if bit_and y bit == 0 then 0 else x

abbrev pub t1 : ℕ → ℕ
t1 x = xtime x

abbrev pub t2 : ℕ → ℕ
t2 x = xtime (t1 x)

abbrev pub t3 : ℕ → ℕ
t3 x = xtime (t2 x)

abbrev pub t4 : ℕ → ℕ
t4 x = xtime (t3 x)

abbrev pub t5 : ℕ → ℕ
t5 x = xtime (t4 x)

abbrev pub t6 : ℕ → ℕ
t6 x = xtime (t5 x)

abbrev pub t7 : ℕ → ℕ
t7 x = xtime (t6 x)

abbrev low_code : ℕ → ℕ → ℕ
low_code x y = bit_xor (bit_xor (bit_xor (part 1 x y) (part 2 (t1 x) y)) (part 4 (t2 x) y)) (part 8 (t3 x) y)

abbrev high_code : ℕ → ℕ → ℕ
high_code x y = bit_xor (bit_xor (bit_xor (part 16 (t4 x) y) (part 32 (t5 x) y)) (part 64 (t6 x) y)) (part 128 (t7 x) y)

abbrev pub product_code : ℕ → ℕ → ℕ
product_code x y = bit_xor (low_code x y) (high_code x y)

-- the definition's test of bit i
abbrev is_set : ℕ → ℕ → Bool
is_set zero y = y % 2 == 1
is_set (suc i) y = is_set i (y / 2)

part-is : (bit i : ℕ) → agree_below (λ y. bit_and y bit == 0) (λ y. not (is_set i y)) 256 ≡ true
    → (x y : ℕ) → y < 256 → part bit x y ≡ (if is_set i y then x else 0)
part-is bit i all x y h = either (bit_and y bit == 0) (is_set i y) (agree_below_at (λ y. bit_and y bit == 0) (λ y. not (is_set i y)) 256 y all h)
  where
    either : (t u : Bool) → t ≡ not u → (if t then 0 else x) ≡ (if u then x else 0)
    either t true e = rw e refl
    either t false e = rw e refl

to-the-right : (a b c d e : ℕ) → bit_xor (bit_xor (bit_xor (bit_xor a b) c) d) e ≡ bit_xor a (bit_xor b (bit_xor c (bit_xor d e)))
to-the-right a b c d e = xor_assoc (bit_xor (bit_xor a b) c) d e ∙ xor_assoc (bit_xor a b) c (bit_xor d e) ∙ xor_assoc a b (bit_xor c (bit_xor d e))

four : {a b c d a' b' c' d' : ℕ} → a ≡ a' → b ≡ b' → c ≡ c' → d ≡ d' → bit_xor (bit_xor (bit_xor a b) c) d ≡ bit_xor (bit_xor (bit_xor a' b') c') d'
four p q r s = ap₂ bit_xor (ap₂ bit_xor (ap₂ bit_xor p q) r) s

-- the sum of eight terms, in the order of the code and in that of the definition
in-order : (a b c d e f g h : ℕ)
    → bit_xor (bit_xor (bit_xor (bit_xor a b) c) d) (bit_xor (bit_xor (bit_xor e f) g) h)
    ≡ bit_xor a (bit_xor b (bit_xor c (bit_xor d (bit_xor e (bit_xor f (bit_xor g (bit_xor h 0)))))))
in-order a b c d e f g h =
    to-the-right a b c d (bit_xor (bit_xor (bit_xor e f) g) h)
    ∙ ap (λ t. bit_xor a (bit_xor b (bit_xor c (bit_xor d t)))) (sym (xor_zero_r (bit_xor (bit_xor (bit_xor e f) g) h)) ∙ to-the-right e f g h 0)

-- the term of bit i
abbrev term : ℕ → ℕ → ℕ → ℕ
term i x y = if is_set i y then x else 0

product_is : (x y : ℕ) → y < 256 → product_code x y ≡ mul x y
unfolding mul mul_bits
product_is x y h =
    ap₂ bit_xor
    (four (part-is 1 0 refl x y h) (part-is 2 1 refl (t1 x) y h) (part-is 4 2 refl (t2 x) y h) (part-is 8 3 refl (t3 x) y h))
    (four (part-is 16 4 refl (t4 x) y h) (part-is 32 5 refl (t5 x) y h) (part-is 64 6 refl (t6 x) y h) (part-is 128 7 refl (t7 x) y h))
    ∙ in-order (term 0 x y) (term 1 (t1 x) y) (term 2 (t2 x) y) (term 3 (t3 x) y) (term 4 (t4 x) y) (term 5 (t5 x) y) (term 6 (t6 x) y) (term 7 (t7 x) y)

pub products : (a b : List ℕ) → Each1 (Fits w8) b → zip2 product_code a b ≡ zip2 mul a b
products [] b fb = refl
products (x ∷ a) [] fb = refl
products (x ∷ a) (y ∷ b) fb =
    let here = product_is x y fb.0.fits in
    let rest = products a b fb.1 in
    λ k. here k ∷ rest k

zip2-xor : (f g : ℕ → ℕ → ℕ) (a b : List ℕ) → zip2 bit_xor (zip2 f a b) (zip2 g a b) ≡ zip2 (λ x y. bit_xor (f x y) (g x y)) a b
zip2-xor f g [] b = refl
zip2-xor f g (x ∷ a) [] = refl
zip2-xor f g (x ∷ a) (y ∷ b) = let rest = zip2-xor f g a b in λ k. bit_xor (f x y) (g x y) ∷ rest k

zip2-of_map : (f : ℕ → ℕ → ℕ) (h : ℕ → ℕ) (a b : List ℕ) → zip2 f (map h a) b ≡ zip2 (λ x y. f (h x) y) a b
zip2-of_map f h [] b = refl
zip2-of_map f h (x ∷ a) [] = refl
zip2-of_map f h (x ∷ a) (y ∷ b) = let rest = zip2-of_map f h a b in λ k. f (h x) y ∷ rest k

module _ (a b : List ℕ) where
  pub sum_of_two : (f g : ℕ → ℕ → ℕ) {r s : List ℕ} → r ≡ zip2 f a b → s ≡ zip2 g a b → zip2 bit_xor r s ≡ zip2 (λ x y. bit_xor (f x y) (g x y)) a b
  sum_of_two f g p q = ap₂ (zip2 bit_xor) p q ∙ zip2-xor f g a b

  pub part_of : (bit : ℕ) (h : ℕ → ℕ) {d r : List ℕ} → d ≡ map h a → r ≡ zip2 (part bit) d b → r ≡ zip2 (λ x y. part bit (h x) y) a b
  part_of bit h e made = made ∙ ap (λ t. zip2 (part bit) t b) e ∙ zip2-of_map (part bit) h a b

  pub times : (h : ℕ → ℕ) {d r : List ℕ} → d ≡ map h a → r ≡ map xtime d → r ≡ map (λ x. xtime (h x)) a
  times h e made = made ∙ ap (map xtime) e ∙ map-map xtime h a

  -- the eight selections
  pub all_parts : {r1 r2 r3 r4 r5 r6 r7 s0 s1 s2 s3 s4 s5 s6 s7 : List ℕ}
      → r1 ≡ map xtime a → r2 ≡ map xtime r1 → r3 ≡ map xtime r2 → r4 ≡ map xtime r3 → r5 ≡ map xtime r4 → r6 ≡ map xtime r5 → r7 ≡ map xtime r6
      → s0 ≡ zip2 (part 1) a b → s1 ≡ zip2 (part 2) r1 b → s2 ≡ zip2 (part 4) r2 b → s3 ≡ zip2 (part 8) r3 b
      → s4 ≡ zip2 (part 16) r4 b → s5 ≡ zip2 (part 32) r5 b → s6 ≡ zip2 (part 64) r6 b → s7 ≡ zip2 (part 128) r7 b
      → zip2 bit_xor (zip2 bit_xor (zip2 bit_xor (zip2 bit_xor s0 s1) s2) s3) (zip2 bit_xor (zip2 bit_xor (zip2 bit_xor s4 s5) s6) s7) ≡ zip2 product_code a b
  all_parts e1 m2 m3 m4 m5 m6 m7 n0 n1 n2 n3 n4 n5 n6 n7 =
      let e2 = times t1 e1 m2 in
      let e3 = times t2 e2 m3 in
      let e4 = times t3 e3 m4 in
      let e5 = times t4 e4 m5 in
      let e6 = times t5 e5 m6 in
      let e7 = times t6 e6 m7 in
      sum_of_two low_code high_code
      (sum_of_two (λ x y. bit_xor (bit_xor (part 1 x y) (part 2 (t1 x) y)) (part 4 (t2 x) y)) (λ x y. part 8 (t3 x) y)
      (sum_of_two (λ x y. bit_xor (part 1 x y) (part 2 (t1 x) y)) (λ x y. part 4 (t2 x) y)
      (sum_of_two (part 1) (λ x y. part 2 (t1 x) y) n0 (part_of 2 t1 e1 n1)) (part_of 4 t2 e2 n2)) (part_of 8 t3 e3 n3))
      (sum_of_two (λ x y. bit_xor (bit_xor (part 16 (t4 x) y) (part 32 (t5 x) y)) (part 64 (t6 x) y)) (λ x y. part 128 (t7 x) y)
      (sum_of_two (λ x y. bit_xor (part 16 (t4 x) y) (part 32 (t5 x) y)) (λ x y. part 64 (t6 x) y)
      (sum_of_two (λ x y. part 16 (t4 x) y) (λ x y. part 32 (t5 x) y) (part_of 16 t4 e4 n4) (part_of 32 t5 e5 n5)) (part_of 64 t6 e6 n6)) (part_of 128 t7 e7 n7))

-- ---- the power 254
-- its argument is computed once
abbrev pub square : ℕ → ℕ
square x = mul x x

abbrev pub p2 : ℕ → ℕ
p2 x = square x

abbrev pub p3 : ℕ → ℕ
p3 x = mul (p2 x) x

abbrev pub p6 : ℕ → ℕ
p6 x = square (p3 x)

abbrev pub p12 : ℕ → ℕ
p12 x = square (p6 x)

abbrev pub p15 : ℕ → ℕ
p15 x = mul (p12 x) (p3 x)

abbrev pub p30 : ℕ → ℕ
p30 x = square (p15 x)

abbrev pub p60 : ℕ → ℕ
p60 x = square (p30 x)

abbrev pub p120 : ℕ → ℕ
p120 x = square (p60 x)

abbrev pub p240 : ℕ → ℕ
p240 x = square (p120 x)

abbrev pub p252 : ℕ → ℕ
p252 x = mul (p240 x) (p12 x)

abbrev pub p254 : ℕ → ℕ
p254 x = mul (p252 x) (p2 x)

all_powers : agree_below (λ x. p254 x == inverse x) (λ _. true) 256 ≡ true
unfolding mul mul_bits inverse
all_powers = refl

pub power_is_inverse : (x : ℕ) → x < 256 → p254 x ≡ inverse x
power_is_inverse x h = eqb-true _ _ (agree_below_at (λ x. p254 x == inverse x) (λ _. true) 256 x all_powers h)

pub map-agrees : (f g : ℕ → ℕ) → ((x : ℕ) → x < 256 → f x ≡ g x) → (xs : List ℕ) → Each1 (Fits w8) xs → map f xs ≡ map g xs
map-agrees f g same [] fits = refl
map-agrees f g same (x ∷ xs) fits = let here = same x fits.0.fits in let rest = map-agrees f g same xs fits.1 in λ k. here k ∷ rest k

-- eleven products, one after the other
pub powers : (xs : List ℕ) {r2 r3 r6 r12 r15 r30 r60 r120 r240 r252 r254 : List ℕ} → Each1 (Fits w8) xs
    → r2 ≡ zip2 mul xs xs → r3 ≡ zip2 mul r2 xs → r6 ≡ zip2 mul r3 r3 → r12 ≡ zip2 mul r6 r6 → r15 ≡ zip2 mul r12 r3
    → r30 ≡ zip2 mul r15 r15 → r60 ≡ zip2 mul r30 r30 → r120 ≡ zip2 mul r60 r60 → r240 ≡ zip2 mul r120 r120
    → r252 ≡ zip2 mul r240 r12 → r254 ≡ zip2 mul r252 r2 → r254 ≡ map inverse xs
powers xs fits m2 m3 m6 m12 m15 m30 m60 m120 m240 m252 m254 =
    let self = sym (map-id xs) in
    let e2 = m2 ∙ zip2_of_maps mul (λ x. x) (λ x. x) xs self self in
    let e3 = m3 ∙ zip2_of_maps mul p2 (λ x. x) xs e2 self in
    let e6 = m6 ∙ zip2_of_maps mul p3 p3 xs e3 e3 in
    let e12 = m12 ∙ zip2_of_maps mul p6 p6 xs e6 e6 in
    let e15 = m15 ∙ zip2_of_maps mul p12 p3 xs e12 e3 in
    let e30 = m30 ∙ zip2_of_maps mul p15 p15 xs e15 e15 in
    let e60 = m60 ∙ zip2_of_maps mul p30 p30 xs e30 e30 in
    let e120 = m120 ∙ zip2_of_maps mul p60 p60 xs e60 e60 in
    let e240 = m240 ∙ zip2_of_maps mul p120 p120 xs e120 e120 in
    let e252 = m252 ∙ zip2_of_maps mul p240 p12 xs e240 e12 in
    m254 ∙ zip2_of_maps mul p252 p2 xs e252 e2 ∙ map-agrees p254 inverse power_is_inverse xs fits

all_bytes : agree_below (λ x. nat_lt (p254 x) 256) (λ _. true) 256 ≡ true
unfolding mul mul_bits
all_bytes = refl

pub inverse_lt : (x : ℕ) → x < 256 → inverse x < 256
inverse_lt x h = rw (← power_is_inverse x h) (ltb-true _ _ (agree_below_at (λ x. nat_lt (p254 x) 256) (λ _. true) 256 x all_bytes h))

inverses_fit : (xs : List ℕ) → Each1 (Fits w8) xs → Each1 (Fits w8) (map inverse xs)
inverses_fit [] fits = tt
inverses_fit (x ∷ xs) fits = (record { fits = inverse_lt x fits.0.fits }, inverses_fit xs fits.1)

-- ---- the affine map
abbrev pub rotate : ℕ → ℕ → ℕ
rotate places x = bit_or (x * 2 ^ places % 2 ^ 8) (x / 2 ^ (8 - places))

abbrev affine_code : ℕ → ℕ
affine_code x = bit_xor (bit_xor (bit_xor (bit_xor (bit_xor x (rotate 1 x)) (rotate 2 x)) (rotate 3 x)) (rotate 4 x)) 0x63

all_affine : agree_below (λ x. affine_code x == affine x) (λ _. true) 256 ≡ true
unfolding affine
all_affine = refl

affine_is : (x : ℕ) → x < 256 → affine_code x ≡ affine x
affine_is x h = eqb-true _ _ (agree_below_at (λ x. affine_code x == affine x) (λ _. true) 256 x all_affine h)

pub affine_of : (xs b : List ℕ) {r1 r2 r3 r4 : List ℕ} (n : ℕ) → length xs ≡ n → Each1 (Fits w8) xs → b ≡ map inverse xs
    → r1 ≡ map (rotate 1) b → r2 ≡ map (rotate 2) b → r3 ≡ map (rotate 3) b → r4 ≡ map (rotate 4) b
    → zip2 bit_xor (zip2 bit_xor (zip2 bit_xor (zip2 bit_xor (zip2 bit_xor b r1) r2) r3) r4) (replicate n 99) ≡ map substitute xs
unfolding substitute
affine_of xs b n long fits e m1 m2 m3 m4 =
    let size : length b ≡ n = ap length e ∙ length-map xs inverse ∙ long in
    let bytes : Each1 (Fits w8) b = rw e (inverses_fit xs fits) in
    let s1 = zip2_of_maps bit_xor (λ x. x) (rotate 1) b (sym (map-id b)) m1 in
    let s2 = zip2_of_maps bit_xor (λ x. bit_xor x (rotate 1 x)) (rotate 2) b s1 m2 in
    let s3 = zip2_of_maps bit_xor (λ x. bit_xor (bit_xor x (rotate 1 x)) (rotate 2 x)) (rotate 3) b s2 m3 in
    let s4 = zip2_of_maps bit_xor (λ x. bit_xor (bit_xor (bit_xor x (rotate 1 x)) (rotate 2 x)) (rotate 3 x)) (rotate 4) b s3 m4 in
    zip2_of_maps bit_xor (λ x. bit_xor (bit_xor (bit_xor (bit_xor x (rotate 1 x)) (rotate 2 x)) (rotate 3 x)) (rotate 4 x)) (λ _. 99) b s4 (splat_is_map b n 99 size)
    ∙ map-agrees affine_code affine affine_is b bytes ∙ ap (map affine) e ∙ map-map affine inverse xs
