-- ShiftRows and MixColumns, byte by byte.
use Rattle.std.proofs.Common.{◌≡◌, ℕ, zero, suc, ◌+◌, ◌*◌, ◌/◌, ◌%◌, ◌<◌, ◌≤◌, ◌^◌, true, cond, leb, nat_lt, ◌&&◌, ◌==◌, List, [], ◌∷◌, length, map, replicate, get_or, Fits, w8, bit_xor, refl, sym, ap, ap₂, ◌∙◌, arith}
use Rattle.std.proofs.lemmas.Bool.{agree_below, agree_below_at, and_parts, eqb-true, lt-leb, ltb-true}
use Rattle.std.proofs.lemmas.Nat.{xor_comm}
use Rattle.std.specs.Int.Bits.{xor_assoc}
use Rattle.aegis_aes.specs.Field.{mul, mul_bits, xtime}
use Rattle.std.proofs.lemmas.List.FromFn.{get_or-map-range_with_len, length-map-range_with_len}
use Rattle.aegis_aes.specs.Block.{block_at}
use Rattle.aegis_aes.specs.Round.{complete_byte, complete_round, mixed}
use Rattle.aegis_aes.proofs.Places.{bytes_at-is, get_or-bytes_at}
use Rattle.std.specs.Simd.Lanes.{Each1, sel_l, top, zip2}
use Rattle.aegis_aes.specs.Permutes.{IsWidth, entry_beside, mixed_at, shifted_row}
use Rattle.aegis_aes.proofs.Nibbles.{blocks}
use Rattle.std.proofs.lemmas.List.{get_or-map, length-map}
use Rattle.std.proofs.lemmas.Simd.{get_or-zip2, length-zip2}

-- ---- products of a byte with the entries of the matrix
all_ones : agree_below (λ a. mul a 1 == a) (λ _. true) 256 ≡ true
unfolding mul mul_bits
all_ones = refl

all_twos : agree_below (λ a. mul a 2 == xtime a) (λ _. true) 256 ≡ true
unfolding mul mul_bits
all_twos = refl

all_threes : agree_below (λ a. mul a 3 == bit_xor (xtime a) a) (λ _. true) 256 ≡ true
unfolding mul mul_bits
all_threes = refl

one : (a : ℕ) → a < 256 → mul a 1 ≡ a
one a h = eqb-true _ _ (agree_below_at (λ a. mul a 1 == a) (λ _. true) 256 a all_ones h)

two : (a : ℕ) → a < 256 → mul a 2 ≡ xtime a
two a h = eqb-true _ _ (agree_below_at (λ a. mul a 2 == xtime a) (λ _. true) 256 a all_twos h)

three : (a : ℕ) → a < 256 → mul a 3 ≡ bit_xor (xtime a) a
three a h = eqb-true _ _ (agree_below_at (λ a. mul a 3 == bit_xor (xtime a) a) (λ _. true) 256 a all_threes h)

all_sums : agree_below (λ a. agree_below (λ b. xtime (bit_xor a b) == bit_xor (xtime a) (xtime b)) (λ _. true) 256) (λ _. true) 256 ≡ true
all_sums = refl

pub xtime-xor : (a b : ℕ) → a < 256 → b < 256 → xtime (bit_xor a b) ≡ bit_xor (xtime a) (xtime b)
xtime-xor a b h k =
    eqb-true _ _ (agree_below_at (λ b. xtime (bit_xor a b) == bit_xor (xtime a) (xtime b)) (λ _. true) 256 b
    (agree_below_at (λ a. agree_below (λ b. xtime (bit_xor a b) == bit_xor (xtime a) (xtime b)) (λ _. true) 256) (λ _. true) 256 a all_sums h) k)

-- ---- the order of sums
swap : (a b c : ℕ) → bit_xor a (bit_xor b c) ≡ bit_xor b (bit_xor a c)
swap a b c = sym (xor_assoc a b c) ∙ ap (λ t. bit_xor t c) (xor_comm a b) ∙ xor_assoc b a c

-- the terms of MixColumns, in the order of the code and in that of each row: a, b and c are the bytes of the next rows,
-- and d and e the doubles of the row's own byte and of the next
as-code : (a b c d e : ℕ) → bit_xor (bit_xor a (bit_xor b c)) (bit_xor d e) ≡ bit_xor (bit_xor e a) (bit_xor d (bit_xor b c))
as-code a b c d e = grind (arith, xor_comm, swap)

in-row-0 : (b c d f : ℕ) → bit_xor (bit_xor (bit_xor d f) b) c ≡ bit_xor f (bit_xor d (bit_xor b c))
in-row-0 b c d f = xor_assoc (bit_xor d f) b c ∙ xor_assoc d f (bit_xor b c) ∙ swap d f (bit_xor b c)

in-row-1 : (b c d f : ℕ) → bit_xor (bit_xor (bit_xor c d) f) b ≡ bit_xor f (bit_xor d (bit_xor b c))
in-row-1 b c d f =
    ap (λ t. bit_xor t b) (xor_comm (bit_xor c d) f) ∙ xor_assoc f (bit_xor c d) b
    ∙ ap (bit_xor f) (ap (λ t. bit_xor t b) (xor_comm c d) ∙ xor_assoc d c b ∙ ap (bit_xor d) (xor_comm c b))

in-row-2 : (b c d f : ℕ) → bit_xor (bit_xor (bit_xor b c) d) f ≡ bit_xor f (bit_xor d (bit_xor b c))
in-row-2 b c d f = xor_comm (bit_xor (bit_xor b c) d) f ∙ ap (bit_xor f) (xor_comm (bit_xor b c) d)

in-row-3 : (b c d f : ℕ) → bit_xor (bit_xor (bit_xor f b) c) d ≡ bit_xor f (bit_xor d (bit_xor b c))
in-row-3 b c d f =
    ap (λ t. bit_xor t d) (xor_assoc f b c) ∙ xor_assoc f (bit_xor b c) d ∙ ap (bit_xor f) (xor_comm (bit_xor b c) d)

-- ---- one column: row r of MixColumns as the code has it
abbrev pub mixed_code : (ℕ → ℕ) → ℕ → ℕ
mixed_code row r =
    bit_xor (bit_xor (row ((r + 1) % 4)) (bit_xor (row ((r + 2) % 4)) (row ((r + 3) % 4)))) (xtime (bit_xor (row r) (row ((r + 1) % 4))))

sum4 : {a b c d a' b' c' d' : ℕ} → a ≡ a' → b ≡ b' → c ≡ c' → d ≡ d' → bit_xor (bit_xor (bit_xor a b) c) d ≡ bit_xor (bit_xor (bit_xor a' b') c') d'
sum4 p q r s = ap₂ bit_xor (ap₂ bit_xor (ap₂ bit_xor p q) r) s

pub column : (row : ℕ → ℕ) (r : ℕ) → ((k : ℕ) → row k < 256) → r < 4 → mixed_code row r ≡ mixed (row 0) (row 1) (row 2) (row 3) r
column row zero low h =
    ap (bit_xor _) (xtime-xor (row 0) (row 1) (low 0) (low 1)) ∙ as-code (row 1) (row 2) (row 3) (xtime (row 0)) (xtime (row 1))
    ∙ sym (in-row-0 (row 2) (row 3) (xtime (row 0)) (bit_xor (xtime (row 1)) (row 1)))
    ∙ sym (sum4 (two (row 0) (low 0)) (three (row 1) (low 1)) (one (row 2) (low 2)) (one (row 3) (low 3)))
column row (suc zero) low h =
    ap (bit_xor _) (xtime-xor (row 1) (row 2) (low 1) (low 2)) ∙ as-code (row 2) (row 3) (row 0) (xtime (row 1)) (xtime (row 2))
    ∙ sym (in-row-1 (row 3) (row 0) (xtime (row 1)) (bit_xor (xtime (row 2)) (row 2)))
    ∙ sym (sum4 (one (row 0) (low 0)) (two (row 1) (low 1)) (three (row 2) (low 2)) (one (row 3) (low 3)))
column row (suc (suc zero)) low h =
    ap (bit_xor _) (xtime-xor (row 2) (row 3) (low 2) (low 3)) ∙ as-code (row 3) (row 0) (row 1) (xtime (row 2)) (xtime (row 3))
    ∙ sym (in-row-2 (row 0) (row 1) (xtime (row 2)) (bit_xor (xtime (row 3)) (row 3)))
    ∙ sym (sum4 (one (row 0) (low 0)) (one (row 1) (low 1)) (two (row 2) (low 2)) (three (row 3) (low 3)))
column row (suc (suc (suc zero))) low h =
    ap (bit_xor _) (xtime-xor (row 3) (row 0) (low 3) (low 0)) ∙ as-code (row 0) (row 1) (row 2) (xtime (row 3)) (xtime (row 0))
    ∙ sym (in-row-3 (row 1) (row 2) (xtime (row 3)) (bit_xor (xtime (row 0)) (row 0)))
    ∙ sym (sum4 (three (row 0) (low 0)) (one (row 1) (low 1)) (one (row 2) (low 2)) (two (row 3) (low 3)))
column row (suc (suc (suc (suc r)))) low h = absurd (omega arith)

-- ---- xtime by a shift and a selection
all_doubles : agree_below (λ x. bit_xor (x * 2 ^ 1 % 2 ^ 8) (cond (top 7 (cond (leb 128 x) 255 0)) 27 0) == xtime x) (λ _. true) 256 ≡ true
all_doubles = refl

pub doubled : (xs : List ℕ) → Each1 (Fits w8) xs
    → zip2 bit_xor (zip2 (λ a b. a * 2 ^ b % 2 ^ 8) xs (replicate (length xs) 1))
    (sel_l (map (top 7) (zip2 (λ a b. cond (leb a b) 255 0) (replicate (length xs) 128) xs)) (replicate (length xs) 27) (replicate (length xs) 0))
    ≡ map xtime xs
doubled [] fits = refl
doubled (x ∷ xs) fits =
    let here : bit_xor (x * 2 ^ 1 % 2 ^ 8) (cond (top 7 (cond (leb 128 x) 255 0)) 27 0) ≡ xtime x =
    eqb-true _ _ (agree_below_at (λ x. bit_xor (x * 2 ^ 1 % 2 ^ 8) (cond (top 7 (cond (leb 128 x) 255 0)) 27 0) == xtime x) (λ _. true) 256 x all_doubles fits.0.fits) in
    let rest = doubled xs fits.1 in
    λ k. here k ∷ rest k

byte-at : (xs : List ℕ) → Each1 (Fits w8) xs → (i : ℕ) → get_or xs i 0 < 256
byte-at [] fits i = omega arith
byte-at (x ∷ xs) fits zero = fits.0.fits
byte-at (x ∷ xs) fits (suc i) = byte-at xs fits.1 i

-- ---- bytes that were moved within their blocks
-- a look-up finds byte j of the block that contains byte i
from-place : (s : List ℕ) (i j : ℕ) → j < 16 → entry_beside s i j ≡ get_or s (16 * (i / 16) + j) 0
from-place s i j h = rw (lt-leb 128 j (omega arith)) refl

pub moved_by : (f : ℕ → ℕ) (table s at out : List ℕ) (n : ℕ)
    → agree_below (λ k. nat_lt (f k) 16 && get_or table k 0 == f k) (λ _. true) 16 ≡ true
    → ((i : ℕ) → i < n → get_or at i 0 ≡ get_or table (i % 16) 0)
    → ((i : ℕ) → i < n → get_or out i 0 ≡ entry_beside s i (get_or at i 0))
    → (i : ℕ) → i < n → get_or out i 0 ≡ get_or s (16 * (i / 16) + f (i % 16)) 0
moved_by f table s at out n all same moved i h =
    let both = and_parts _ _ (agree_below_at (λ k. nat_lt (f k) 16 && get_or table k 0 == f k) (λ _. true) 16 (i % 16) all (omega arith)) in
    moved i h ∙ ap (entry_beside s i) (same i h ∙ eqb-true _ _ both.1) ∙ from-place s i (f (i % 16)) (ltb-true _ _ both.0)

-- the place from which ShiftRows takes the byte `next` rows below byte k, in the same column
abbrev pub row_place : ℕ → ℕ → ℕ
row_place next k = 4 * ((k / 4 + (k % 4 + next) % 4) % 4) + (k % 4 + next) % 4

-- the place two rows below, in the same column
abbrev pub across_place : ℕ → ℕ
across_place k = 4 * (k / 4) + (k % 4 + 2) % 4

-- byte i, in the order of the code, if the three tables of places are the right ones
pub mixed_byte : (s shifted next across doubles key : List ℕ) (n : ℕ) → IsWidth n → Each1 (Fits w8) s
    → length shifted ≡ n → length next ≡ n → length across ≡ n → length key ≡ n
    → ((i : ℕ) → i < n → get_or shifted i 0 ≡ get_or s (16 * (i / 16) + row_place 0 (i % 16)) 0)
    → ((i : ℕ) → i < n → get_or next i 0 ≡ get_or s (16 * (i / 16) + row_place 1 (i % 16)) 0)
    → ((i : ℕ) → i < n → get_or across i 0 ≡ get_or (zip2 bit_xor shifted next) (16 * (i / 16) + across_place (i % 16)) 0)
    → doubles ≡ map xtime (zip2 bit_xor shifted next)
    → (i : ℕ) → i < n
    → get_or (zip2 bit_xor (zip2 bit_xor (zip2 bit_xor next across) doubles) key) i 0 ≡ bit_xor (mixed_at s i) (get_or key i 0)
mixed_byte s shifted next across doubles key n width fits l-shifted l-next l-across l-key e-shifted e-next e-across e-doubles i h =
    let whole = blocks n width in
    let row = shifted_row s i in
    let low : (k : ℕ) → row k < 256 = λ k. byte-at s fits _ in
    let there : 16 * (i / 16) + across_place (i % 16) < n = omega arith in
    let l-sum = length-zip2 bit_xor shifted next (l-shifted ∙ sym l-next) in
    let l-doubles : length doubles ≡ n = ap length e-doubles ∙ length-map (zip2 bit_xor shifted next) xtime ∙ l-sum ∙ l-shifted in
    let l-two = length-zip2 bit_xor next across (l-next ∙ sym l-across) ∙ l-next in
    let l-three = length-zip2 bit_xor (zip2 bit_xor next across) doubles (l-two ∙ sym l-doubles) ∙ l-two in
    let sum-at : (j : ℕ) → j < n → get_or (zip2 bit_xor shifted next) j 0 ≡ bit_xor (get_or s (16 * (j / 16) + row_place 0 (j % 16)) 0) (get_or s (16 * (j / 16) + row_place 1 (j % 16)) 0) = λ j l.
    get_or-zip2 bit_xor shifted next j 0 0 0 (omega (arith, l-shifted)) (omega (arith, l-next)) ∙ ap₂ bit_xor (e-shifted j l) (e-next j l) in
    let own : get_or s (16 * (i / 16) + row_place 0 (i % 16)) 0 ≡ row (i % 4) = ap (λ (k : ℕ). get_or s k 0) (omega arith) in
    let after : get_or s (16 * (i / 16) + row_place 1 (i % 16)) 0 ≡ row ((i % 4 + 1) % 4) = ap (λ (k : ℕ). get_or s k 0) (omega arith) in
    let far : get_or across i 0 ≡ bit_xor (row ((i % 4 + 2) % 4)) (row ((i % 4 + 3) % 4)) =
    e-across i h ∙ sum-at _ there
    ∙ ap₂ bit_xor (ap (λ (k : ℕ). get_or s k 0) (omega arith)) (ap (λ (k : ℕ). get_or s k 0) (omega arith)) in
    let doubled-at : get_or doubles i 0 ≡ xtime (bit_xor (row (i % 4)) (row ((i % 4 + 1) % 4))) =
    ap (λ l. get_or l i 0) e-doubles ∙ get_or-map xtime (zip2 bit_xor shifted next) i 0 0 (omega (arith, l-sum, l-shifted))
    ∙ ap xtime (sum-at i h ∙ ap₂ bit_xor own after) in
    get_or-zip2 bit_xor (zip2 bit_xor (zip2 bit_xor next across) doubles) key i 0 0 0 (omega (arith, l-three)) (omega (arith, l-key))
    ∙ ap (λ t. bit_xor t (get_or key i 0))
    (get_or-zip2 bit_xor (zip2 bit_xor next across) doubles i 0 0 0 (omega (arith, l-two)) (omega (arith, l-doubles))
    ∙ ap₂ bit_xor (get_or-zip2 bit_xor next across i 0 0 0 (omega (arith, l-next)) (omega (arith, l-across)) ∙ ap₂ bit_xor (e-next i h ∙ after) far) doubled-at
    ∙ column row (i % 4) low (omega arith))

pub mixed_long : (shifted next across doubles key : List ℕ) (n : ℕ)
    → length shifted ≡ n → length next ≡ n → length across ≡ n → length key ≡ n → doubles ≡ map xtime (zip2 bit_xor shifted next)
    → length (zip2 bit_xor (zip2 bit_xor (zip2 bit_xor next across) doubles) key) ≡ n
mixed_long shifted next across doubles key n l-shifted l-next l-across l-key e = grind (arith, length-zip2, length-map)

-- ---- whole blocks
mixed-same : {a b c d r a' b' c' d' r' : ℕ} → a ≡ a' → b ≡ b' → c ≡ c' → d ≡ d' → r ≡ r' → mixed a b c d r ≡ mixed a' b' c' d' r'
mixed-same {a} {b} {c} {d} {r} {a'} {b'} {c'} {d'} {r'} p q s t u =
    ap₂ (λ x y. mixed x y c d r) p q ∙ ap₂ (λ x y. mixed a' b' x y r) s t ∙ ap (λ (x : ℕ). mixed a' b' c' d' x) u

pub completed : (x keys out : List ℕ) (n : ℕ)
    → ((i : ℕ) → i < n → get_or out i 0 ≡ bit_xor (mixed_at x i) (get_or keys i 0))
    → (p : ℕ) → p % 16 ≡ 0 → p + 16 ≤ n → block_at out p ≡ complete_round (block_at x p) (block_at keys p)
unfolding complete_round
completed x keys out n each p whole room =
    let block = block_at x p in
    let key = block_at keys p in
    bytes_at-is out p 16 (complete_round block key) (length-map-range_with_len (λ m. complete_byte block key (m / 4) (m % 4)) 0 16) (λ m lt.
    let byte : (k : ℕ) → k < 4 → shifted_row x (p + m) k ≡ get_or block (4 * ((m / 4 + k) % 4) + k) 0 = λ k h.
    ap (λ (j : ℕ). get_or x j 0) (omega arith) ∙ sym (get_or-bytes_at x p 16 (4 * ((m / 4 + k) % 4) + k) 0 (omega arith)) in
    each (p + m) (omega arith)
    ∙ ap₂ bit_xor (mixed-same (byte 0 (omega arith)) (byte 1 (omega arith)) (byte 2 (omega arith)) (byte 3 (omega arith)) (omega arith))
    (ap (λ (j : ℕ). get_or keys j 0) (omega arith) ∙ sym (get_or-bytes_at keys p 16 (4 * (m / 4) + m % 4) 0 (omega arith)))
    ∙ sym (get_or-map-range_with_len (λ m. complete_byte block key (m / 4) (m % 4)) 0 16 m m 0 lt (omega arith)))
