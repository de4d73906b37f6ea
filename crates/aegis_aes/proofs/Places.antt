-- Bytes and blocks at places of a list.
use Rattle.std.proofs.Common.{◌≡◌, ℕ, zero, suc, ◌+◌, ◌-◌, ◌%◌, ◌<◌, ◌≤◌, List, [], ◌∷◌, ◌++◌, length, map, get_or, replicate, take, drop, refl, sym, ap, ap₂, ◌∙◌, arith}
use Rattle.std.proofs.lemmas.List.{get_or-map, length-map, places, same_lists, get_or_default, get_or_append_left, get_or-append_right}
use Rattle.std.proofs.lemmas.Simd.{get_or-chunk, get_or-put_chunk_above, get_or-put_chunk_at, get_or-put_chunk_below, get_or-zip2, length-zip2}
use Rattle.std.specs.Simd.Lanes.{chunk, put_chunk, zip2}
use borrow.Rule.Slice.PartMut.{put_mid}
use Rattle.std.specs.Int.Bits.{xor_zero_r}
use Rattle.aegis_aes.specs.Block.{block_at, bytes_at, xor}

-- there are n of them, even past the end of the list
pub length-bytes_at : (xs : List ℕ) (i n : ℕ) → length (bytes_at xs i n) ≡ n
unfolding bytes_at
length-bytes_at xs i zero = refl
length-bytes_at xs i (suc n) = let e = length-bytes_at xs (i + 1) n in grind (arith, e)

-- byte k of the bytes from place i on is byte i + k of the list
pub get_or-bytes_at : (xs : List ℕ) (i n k : ℕ) (d : ℕ) → k < n → get_or (bytes_at xs i n) k d ≡ get_or xs (i + k) 0
unfolding bytes_at
get_or-bytes_at xs i zero k d lt = absurd (omega arith)
get_or-bytes_at xs i (suc n) zero d lt = let e : i + 0 ≡ i = omega arith in rw e refl
get_or-bytes_at xs i (suc n) (suc k) d lt =
    let more = get_or-bytes_at xs (i + 1) n k d (omega arith) in
    let e : i + suc k ≡ (i + 1) + k = omega arith in
    rw e more

-- the bytes of xs from place i on are b if each of them is
pub bytes_at-is : (xs : List ℕ) (i n : ℕ) (b : List ℕ) → length b ≡ n → ((k : ℕ) → k < n → get_or xs (i + k) 0 ≡ get_or b k 0) → bytes_at xs i n ≡ b
bytes_at-is xs i n b long same = grind (arith, length-bytes_at, same_lists, get_or-bytes_at, get_or_default)

-- two lists have the same n bytes from place i on if each of them is the same
pub bytes_at-same : (xs ys : List ℕ) (i n : ℕ) → ((k : ℕ) → i ≤ k → k < i + n → get_or xs k 0 ≡ get_or ys k 0) → bytes_at xs i n ≡ bytes_at ys i n
bytes_at-same xs ys i n same =
    bytes_at-is xs i n (bytes_at ys i n) (length-bytes_at ys i n) (λ k lt.
    same (i + k) (omega arith) (omega arith) ∙ sym (get_or-bytes_at ys i n k 0 lt))

-- the part of a list from place i up to place e
pub bytes_at-part : (xs : List ℕ) (i n e : ℕ) → e ≡ i + n → e ≤ length xs → take (e - i) (drop i xs) ≡ bytes_at xs i n
bytes_at-part xs i n e end room =
    sym (bytes_at-is xs i n (take (e - i) (drop i xs)) (grind (arith, places)) (λ k lt. grind (arith, places)))

-- after ys is written to xs[i..i + n], the bytes there are ys
pub bytes_at_put_mid : (xs ys : List ℕ) (i n k : ℕ) → length ys ≡ n → n ≡ k → i + n ≤ length xs → bytes_at (put_mid i k xs ys) i n ≡ ys
bytes_at_put_mid xs ys i n k long same room =
    bytes_at-is (put_mid i k xs ys) i n ys long (λ m lt. grind (arith, places))

-- a block below place `from` stays if the bytes below `from` do
pub block_at-kept : (xs ys : List ℕ) (at from : ℕ) (b : List ℕ) → at + 16 ≤ from → ((i : ℕ) → i < from → get_or ys i 0 ≡ get_or xs i 0) → block_at xs at ≡ b → block_at ys at ≡ b
block_at-kept xs ys at from b room kept was =
    bytes_at-same ys xs at 16 (λ k _ lt. kept k (omega arith)) ∙ was

-- if P holds of lanes 0 to 3, it holds of each lane below 4
pub all_four_lanes : (P : ℕ → Type 0) → P 0 → P 1 → P 2 → P 3 → (j : ℕ) → j < 4 → P j
all_four_lanes P p0 p1 p2 p3 zero lt = p0
all_four_lanes P p0 p1 p2 p3 (suc zero) lt = p1
all_four_lanes P p0 p1 p2 p3 (suc (suc zero)) lt = p2
all_four_lanes P p0 p1 p2 p3 (suc (suc (suc zero))) lt = p3
all_four_lanes P p0 p1 p2 p3 (suc (suc (suc (suc j)))) lt = absurd (omega arith)

pub blocks_of_repeated : (bytes out : List ℕ) (n : ℕ) → length bytes ≡ 16
    → ((i : ℕ) → i < n → get_or out i 0 ≡ get_or bytes (i % 16) 0) → (p : ℕ) → p % 16 ≡ 0 → p + 16 ≤ n → block_at out p ≡ bytes
blocks_of_repeated bytes out n long each p whole room =
    bytes_at-is out p 16 bytes long (λ k lt. each (p + k) (omega arith) ∙ ap (λ (j : ℕ). get_or bytes j 0) (omega arith))

pub ruleset repeated_laws = (get_or-chunk, blocks_of_repeated)

-- ---- blocks side by side
pub block_at_zip2 : (f : ℕ → ℕ → ℕ) (a b : List ℕ) (n p : ℕ) → length a ≡ n → length b ≡ n → p + 16 ≤ n
    → block_at (zip2 f a b) p ≡ zip2 f (block_at a p) (block_at b p)
block_at_zip2 f a b n p la lb room =
    let x = block_at a p in
    let y = block_at b p in
    let lx = length-bytes_at a p 16 in
    let ly = length-bytes_at b p 16 in
    bytes_at-is (zip2 f a b) p 16 (zip2 f x y) (length-zip2 f x y (lx ∙ sym ly) ∙ lx) (λ k lt.
    get_or-zip2 f a b (p + k) 0 0 0 (omega (arith, la)) (omega (arith, lb))
    ∙ ap₂ f (sym (get_or-bytes_at a p 16 k 0 lt)) (sym (get_or-bytes_at b p 16 k 0 lt))
    ∙ sym (get_or-zip2 f x y k 0 0 0 (omega (arith, lx)) (omega (arith, ly))))

pub ruleset zip2_laws = (length-zip2, block_at_zip2)

pub block_at_map : (f : ℕ → ℕ) (a : List ℕ) (n p : ℕ) → length a ≡ n → p + 16 ≤ n → block_at (map f a) p ≡ map f (block_at a p)
block_at_map f a n p long room =
    let x = block_at a p in
    let lx = length-bytes_at a p 16 in
    bytes_at-is (map f a) p 16 (map f x) (length-map x f ∙ lx) (λ k lt.
    get_or-map f a (p + k) 0 0 (omega (arith, long)) ∙ ap f (sym (get_or-bytes_at a p 16 k 0 lt)) ∙ sym (get_or-map f x k 0 0 (omega (arith, lx))))

pub block_at_chunk : (xs : List ℕ) (at n p : ℕ) → p + 16 ≤ n → block_at (chunk at n xs) p ≡ block_at xs (at + p)
block_at_chunk xs at n p room =
    bytes_at-is (chunk at n xs) p 16 (block_at xs (at + p)) (length-bytes_at xs (at + p) 16) (λ k lt.
    get_or-chunk at n xs (p + k) 0 (omega arith) ∙ ap (λ (j : ℕ). get_or xs j 0) (omega arith) ∙ sym (get_or-bytes_at xs (at + p) 16 k 0 lt))

pub block_at_put_chunk : (xs ys : List ℕ) (at n p : ℕ) → length ys ≡ n → at + n ≤ length xs → p + 16 ≤ n
    → block_at (put_chunk at xs ys) (at + p) ≡ block_at ys p
block_at_put_chunk xs ys at n p long room inside =
    bytes_at-is (put_chunk at xs ys) (at + p) 16 (block_at ys p) (length-bytes_at ys p 16) (λ k lt.
    ap (λ (j : ℕ). get_or (put_chunk at xs ys) j 0) (omega arith)
    ∙ get_or-put_chunk_at at xs ys (p + k) 0 (omega (arith, long)) (omega (arith, long)) ∙ sym (get_or-bytes_at ys p 16 k 0 lt))

pub ruleset put_chunk_laws = (block_at_put_chunk, get_or-put_chunk_above, get_or-put_chunk_below)

-- a block of the first of two lists, one after the other
pub block_at_first : (a b : List ℕ) (p : ℕ) → p + 16 ≤ length a → block_at (a ++ b) p ≡ block_at a p
block_at_first a b p room =
    bytes_at-is (a ++ b) p 16 (block_at a p) (length-bytes_at a p 16) (λ k lt.
    get_or_append_left a b 0 (p + k) (omega arith) ∙ sym (get_or-bytes_at a p 16 k 0 lt))

pub block_at_second : (a b : List ℕ) (n p e : ℕ) → length a ≡ n → e ≡ n + p → block_at (a ++ b) e ≡ block_at b p
block_at_second a b n p e long place =
    bytes_at-is (a ++ b) e 16 (block_at b p) (length-bytes_at b p 16) (λ k lt.
    get_or-append_right a b n (e + k) 0 long (omega arith) ∙ ap (λ (j : ℕ). get_or b j 0) (omega arith) ∙ sym (get_or-bytes_at b p 16 k 0 lt))

pub block_at_all : (a : List ℕ) → length a ≡ 16 → block_at a 0 ≡ a
block_at_all a long = bytes_at-is a 0 16 a long (λ k lt. ap (λ (j : ℕ). get_or a j 0) (omega arith))

pub xor-zeros : (b : List ℕ) (n : ℕ) → length b ≤ n → xor b (replicate n 0) ≡ b
xor-zeros [] n long = refl
xor-zeros (x ∷ b) zero long = absurd (omega arith)
xor-zeros (x ∷ b) (suc n) long = ap₂ (λ (y : ℕ) (t : List ℕ). y ∷ t) (xor_zero_r x) (xor-zeros b n (omega arith))
