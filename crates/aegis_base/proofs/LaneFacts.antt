-- The xor of the lanes' blocks, and bytes that two lists have in common.
use Rattle.std.proofs.Common.{◌≡◌, ℕ, zero, suc, ◌+◌, ◌<◌, List, [], ◌∷◌, ◌++◌, length, slice_index, refl, sym, ◌∙◌, arith, inl, inr}
use Rattle.aegis_aes.specs.Block.{bytes_at, xor}
use Rattle.aegis_aes.specs.Lanes.{IsLaneCount, xor_lanes}
use Rattle.aegis_aes.proofs.Places.{bytes_at-is, get_or-bytes_at, length-bytes_at}

-- lanes with the same blocks have the same xor
pub xor_lanes_same : (f g : ℕ → List ℕ) (d : ℕ) → ((j : ℕ) → j < d → f j ≡ g j) → xor_lanes f d ≡ xor_lanes g d
unfolding xor_lanes
xor_lanes_same f g zero same = refl
xor_lanes_same f g (suc zero) same = same 0 (omega arith)
xor_lanes_same f g (suc (suc d)) same =
    let rest = xor_lanes_same f g (suc d) (λ j h. same j (omega arith)) in
    let here = same (suc d) (omega arith) in
    rw (rest, here) refl

-- two lists that agree along n bytes have these bytes in common
pub bytes_at-same : (xs ys : List ℕ) (i k n : ℕ) → ((p : ℕ) → p < n → slice_index xs (i + p) ≡ slice_index ys (k + p)) → bytes_at xs i n ≡ bytes_at ys k n
bytes_at-same xs ys i k n same =
    bytes_at-is xs i n (bytes_at ys k n) (length-bytes_at ys k n) (λ p h. same p h ∙ sym (get_or-bytes_at ys k n p 0 h))

-- the n bytes from place i on, and then the next m
pub bytes_at-append : (xs : List ℕ) (i n m : ℕ) → bytes_at xs i n ++ bytes_at xs (i + n) m ≡ bytes_at xs i (n + m)
unfolding bytes_at
bytes_at-append xs i zero m =
    let here : i + 0 ≡ i = omega arith in
    let all : 0 + m ≡ m = omega arith in
    rw (here, all) refl
bytes_at-append xs i (suc n) m =
    let next : i + suc n ≡ (i + 1) + n = omega arith in
    let all : suc n + m ≡ suc (n + m) = omega arith in
    let rest = bytes_at-append xs (i + 1) n m in
    rw (next, all) (λ k. slice_index xs i ∷ rest k)

-- all of them
pub bytes_at-all : (xs : List ℕ) → bytes_at xs 0 (length xs) ≡ xs
bytes_at-all xs = bytes_at-is xs 0 (length xs) xs refl (λ k low. let place : 0 + k ≡ k = omega arith in rw place refl)

-- the xor of two joined lists, if their first parts are equally long
pub xor-append : (xs ys vs ws : List ℕ) → length xs ≡ length ys → xor (xs ++ vs) (ys ++ ws) ≡ xor xs ys ++ xor vs ws
xor-append [] [] vs ws e = refl
xor-append [] (y ∷ ys) vs ws e = absurd (omega (arith, e))
xor-append (x ∷ xs) [] vs ws e = absurd (omega (arith, e))
xor-append (x ∷ xs) (y ∷ ys) vs ws e =
    let shorter : length xs ≡ length ys = omega (arith, e) in
    rw (xor-append xs ys vs ws shorter) refl

pub length-xor : (xs ys : List ℕ) → length xs ≡ length ys → length (xor xs ys) ≡ length ys
length-xor [] [] e = refl
length-xor [] (y ∷ ys) e = absurd (omega (arith, e))
length-xor (x ∷ xs) [] e = absurd (omega (arith, e))
length-xor (x ∷ xs) (y ∷ ys) e =
    let shorter : length xs ≡ length ys = omega (arith, e) in
    let rest = length-xor xs ys shorter in omega arith

-- the xor of the lanes' lists is as long as each of them
pub length-xor_lanes : (f : ℕ → List ℕ) (n d : ℕ) → ((j : ℕ) → j < suc d → length (f j) ≡ n) → length (xor_lanes f (suc d)) ≡ n
unfolding xor_lanes
length-xor_lanes f n zero long = long 0 (omega arith)
length-xor_lanes f n (suc d) long =
    let rest = length-xor_lanes f n d (λ j h. long j (omega arith)) in
    let here = long (suc d) (omega arith) in
    length-xor (xor_lanes f (suc d)) (f (suc d)) (rest ∙ sym here) ∙ here

-- the xor of lists that are each joined from two of equal lengths
pub xor_lanes-append : (f g : ℕ → List ℕ) (n d : ℕ) → ((j : ℕ) → j < d → length (f j) ≡ n)
    → xor_lanes (λ j. f j ++ g j) d ≡ xor_lanes f d ++ xor_lanes g d
unfolding xor_lanes
xor_lanes-append f g n zero long = refl
xor_lanes-append f g n (suc zero) long = refl
xor_lanes-append f g n (suc (suc d)) long =
    let before : (j : ℕ) → j < suc d → length (f j) ≡ n = λ j h. long j (omega arith) in
    let rest = xor_lanes-append f g n (suc d) before in
    let beginning : length (xor_lanes f (suc d)) ≡ length (f (suc d)) = length-xor_lanes f n d before ∙ sym (long (suc d) (omega arith)) in
    rw rest (xor-append (xor_lanes f (suc d)) (f (suc d)) (xor_lanes g (suc d)) (g (suc d)) beginning)

pub count_positive : (d : ℕ) → IsLaneCount d → 0 < d
count_positive d (inl one) = omega arith
count_positive d (inr (inl two)) = omega arith
count_positive d (inr (inr four)) = omega arith

pub length-xor_lanes-count : (f : ℕ → List ℕ) (n d : ℕ) → IsLaneCount d → ((j : ℕ) → j < d → length (f j) ≡ n) → length (xor_lanes f d) ≡ n
length-xor_lanes-count f n d (inl one) long = rw one (length-xor_lanes f n 0 (λ j h. long j (omega arith)))
length-xor_lanes-count f n d (inr (inl two)) long = rw two (length-xor_lanes f n 1 (λ j h. long j (omega arith)))
length-xor_lanes-count f n d (inr (inr four)) long = rw four (length-xor_lanes f n 3 (λ j h. long j (omega arith)))
