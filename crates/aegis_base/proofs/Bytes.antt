-- Lanes of bytes: if the key, the nonce, the associated data and the message are lists of bytes, so are the rows of the
-- lanes and their keystream.
use Rattle.std.proofs.Common.{◌≡◌, ℕ, zero, suc, ◌+◌, ◌*◌, ◌/◌, ◌%◌, ◌<◌, Bool, true, ◌&&◌, nat_lt, List, [], ◌∷◌, ◌++◌, take, drop, bit_and, bit_xor, refl, arith, inl, inr}
use Rattle.std.specs.Int.Bits.{and_lt}
use Rattle.std.specs.Simd.Lanes.{zip2}
use Rattle.std.proofs.lemmas.Bool.{and_parts, ltb-true}
use Rattle.std.proofs.lemmas.Nat.{xor_lt}
use Rattle.aegis_aes.specs.Block.{and, bytes_at, xor}
use Rattle.aegis_aes.specs.Lanes.{IsLaneCount, context_block}
use Rattle.aegis_aes.proofs.RoundBytes.{IsBytes, round-bytes}
use Rattle.aegis_base.specs.Variant.{Family, Family128, Family256, Variant, rate}
use Rattle.aegis_base.specs.Lane.{add_context, c0, c1, first_blocks, high_half, keystream_blocks, low_half, block_in, init, init_turn, init_turns, update, times}
use Rattle.aegis_base.specs.Message.{lane_after, blocks_at, lane_before, lane_of, share_at, keystream_byte_along}
use Rattle.aegis_base.proofs.MessageFacts.{lane_of-within}

-- ---- lists of bytes

pub none-bytes : IsBytes []
none-bytes = record { below = λ i. omega arith }

pub more-bytes : {x : ℕ} {xs : List ℕ} → x < 256 → IsBytes xs → IsBytes (x ∷ xs)
more-bytes {x} {xs} low is = grind arith

rest-bytes : {x : ℕ} {xs : List ℕ} → IsBytes (x ∷ xs) → IsBytes xs
rest-bytes is = record { below = λ i. is.below (suc i) }

zip2-bytes : (f : ℕ → ℕ → ℕ) (xs ys : List ℕ) → ((a b : ℕ) → a < 256 → b < 256 → f a b < 256)
    → IsBytes xs → IsBytes ys → IsBytes (zip2 f xs ys)
zip2-bytes f [] ys low is also = none-bytes
zip2-bytes f (x ∷ xs) [] low is also = none-bytes
zip2-bytes f (x ∷ xs) (y ∷ ys) low is also =
    more-bytes (low x y (is.below 0) (also.below 0)) (zip2-bytes f xs ys low (rest-bytes is) (rest-bytes also))

xor-bytes : {xs ys : List ℕ} → IsBytes xs → IsBytes ys → IsBytes (xor xs ys)
xor-bytes {xs} {ys} is also = zip2-bytes bit_xor xs ys (xor_lt 8) is also

and-bytes : {xs ys : List ℕ} → IsBytes xs → IsBytes ys → IsBytes (and xs ys)
and-bytes {xs} {ys} is also = zip2-bytes bit_and xs ys (and_lt 8) is also

take-bytes : (n : ℕ) (xs : List ℕ) → IsBytes xs → IsBytes (take n xs)
take-bytes zero xs is = none-bytes
take-bytes (suc n) [] is = none-bytes
take-bytes (suc n) (x ∷ xs) is = more-bytes (is.below 0) (take-bytes n xs (rest-bytes is))

drop-bytes : (n : ℕ) (xs : List ℕ) → IsBytes xs → IsBytes (drop n xs)
drop-bytes zero xs is = is
drop-bytes (suc n) [] is = none-bytes
drop-bytes (suc n) (x ∷ xs) is = drop-bytes n xs (rest-bytes is)

pub append-bytes : (xs ys : List ℕ) → IsBytes xs → IsBytes ys → IsBytes (xs ++ ys)
append-bytes [] ys is also = also
append-bytes (x ∷ xs) ys is also = more-bytes (is.below 0) (append-bytes xs ys (rest-bytes is) also)

bytes_at-bytes : (xs : List ℕ) (i n : ℕ) → IsBytes xs → IsBytes (bytes_at xs i n)
unfolding bytes_at
bytes_at-bytes xs i zero is = none-bytes
bytes_at-bytes xs i (suc n) is = more-bytes (is.below i) (bytes_at-bytes xs (i + 1) n is)

-- a test of a list that is written out
are_bytes : List ℕ → Bool
are_bytes [] = true
are_bytes (x ∷ xs) = nat_lt x 256 && are_bytes xs

tested-bytes : (xs : List ℕ) → are_bytes xs ≡ true → IsBytes xs
unfolding are_bytes
tested-bytes [] e = none-bytes
tested-bytes (x ∷ xs) e =
    let both = and_parts (nat_lt x 256) (are_bytes xs) e in
    more-bytes (ltb-true x 256 both.0) (tested-bytes xs both.1)

c0-bytes : IsBytes c0
unfolding are_bytes
c0-bytes = tested-bytes c0 refl

c1-bytes : IsBytes c1
unfolding are_bytes
c1-bytes = tested-bytes c1 refl

zeros-bytes : IsBytes (0 ∷ 0 ∷ 0 ∷ 0 ∷ 0 ∷ 0 ∷ 0 ∷ 0 ∷ 0 ∷ 0 ∷ 0 ∷ 0 ∷ 0 ∷ 0 ∷ [])
unfolding are_bytes
zeros-bytes = tested-bytes _ refl

context-bytes : (j d : ℕ) → IsLaneCount d → j < d → IsBytes (context_block j d)
context-bytes j d (inl e) low = more-bytes (omega arith) (more-bytes (omega arith) zeros-bytes)
context-bytes j d (inr (inl e)) low = more-bytes (omega arith) (more-bytes (omega arith) zeros-bytes)
context-bytes j d (inr (inr e)) low = more-bytes (omega arith) (more-bytes (omega arith) zeros-bytes)

-- ---- lists of blocks of bytes

-- each row of a lane, or block of a list, is a list of bytes
pub record AreRows (s : List (List ℕ)) : Type 0 where
  pub at : (i : ℕ) → IsBytes (block_in s i)

no-rows : AreRows []
no-rows = record { at = λ i. none-bytes }

more-rows : {b : List ℕ} {s : List (List ℕ)} → IsBytes b → AreRows s → AreRows (b ∷ s)
more-rows {b} {s} is rows = grind arith

ruleset row_laws = (no-rows, more-rows, xor-bytes, and-bytes, round-bytes, take-bytes, drop-bytes, c0-bytes, c1-bytes)

update-rows : (family : Family) (s m : List (List ℕ)) → AreRows s → AreRows m → AreRows (update family s m)
update-rows Family128 s m rows input = search (row_laws, rows.at, input.at) depth 12
update-rows Family256 s m rows input = search (row_laws, rows.at, input.at) depth 12

add_context-rows : (family : Family) (c : List ℕ) (s : List (List ℕ)) → IsBytes c → AreRows s → AreRows (add_context family c s)
add_context-rows Family128 c s is rows = search (row_laws, rows.at) depth 12
add_context-rows Family256 c s is rows = search (row_laws, rows.at) depth 12

times-rows : (n : ℕ) (f : List (List ℕ) → List (List ℕ)) (s : List (List ℕ))
    → ((r : List (List ℕ)) → AreRows r → AreRows (f r)) → AreRows s → AreRows (times n f s)
times-rows zero f s kept rows = rows
times-rows (suc n) f s kept rows = kept (times n f s) (times-rows n f s kept rows)

first_blocks-rows : (family : Family) (key nonce : List ℕ) → IsBytes key → IsBytes nonce → AreRows (first_blocks family key nonce)
first_blocks-rows Family128 key nonce k n = search row_laws depth 12
first_blocks-rows Family256 key nonce k n = search row_laws depth 12

-- an update of initialization in the family 256
turned-rows : (c b : List ℕ) (s : List (List ℕ)) → IsBytes c → IsBytes b → AreRows s
    → AreRows (update Family256 (add_context Family256 c s) (b ∷ []))
turned-rows c b s is input rows =
    update-rows Family256 (add_context Family256 c s) (b ∷ []) (add_context-rows Family256 c s is rows) (more-rows input no-rows)

init_turn-rows : (family : Family) (key nonce c : List ℕ) (s : List (List ℕ)) → IsBytes key → IsBytes nonce → IsBytes c
    → AreRows s → AreRows (init_turn family key nonce c s)
init_turn-rows Family128 key nonce c s k n is rows =
    update-rows Family128 (add_context Family128 c s) (nonce ∷ key ∷ []) (add_context-rows Family128 c s is rows)
    (more-rows n (more-rows k no-rows))
init_turn-rows Family256 key nonce c s k n is rows =
    let low = take-bytes 16 key k in
    let high = drop-bytes 16 key k in
    turned-rows c (xor (high_half key) (high_half nonce)) _ is (xor-bytes high (drop-bytes 16 nonce n))
    (turned-rows c (xor (low_half key) (low_half nonce)) _ is (xor-bytes low (take-bytes 16 nonce n))
    (turned-rows c (high_half key) _ is high
    (turned-rows c (low_half key) s is low rows)))

init-rows : (variant : Variant) (key nonce : List ℕ) (j : ℕ) → IsLaneCount variant.lanes → j < variant.lanes → IsBytes key → IsBytes nonce
    → AreRows (init variant key nonce j)
unfolding init
init-rows variant key nonce j count inside k n =
    times-rows (init_turns variant.family) (init_turn variant.family key nonce (context_block j variant.lanes)) (first_blocks variant.family key nonce)
    (λ s rows. init_turn-rows variant.family key nonce (context_block j variant.lanes) s k n (context-bytes j variant.lanes count inside) rows)
    (first_blocks-rows variant.family key nonce k n)

blocks_at-rows : (family : Family) (d j : ℕ) (x : List ℕ) (i : ℕ) → IsBytes x → AreRows (blocks_at family d j x i)
blocks_at-rows Family128 d j x i is =
    more-rows (bytes_at-bytes x (i + 16 * j) 16 is) (more-rows (bytes_at-bytes x (i + 16 * (d + j)) 16 is) no-rows)
blocks_at-rows Family256 d j x i is = more-rows (bytes_at-bytes x (i + 16 * j) 16 is) no-rows

after-rows : (variant : Variant) (s : List (List ℕ)) (j : ℕ) (x : List ℕ) (n : ℕ) → AreRows s → IsBytes x
    → AreRows (lane_after variant s j x n)
unfolding lane_after
after-rows variant s j x zero rows is = rows
after-rows variant s j x (suc n) rows is =
    update-rows variant.family (lane_after variant s j x n) (share_at variant j x (n * rate variant)) (after-rows variant s j x n rows is)
    (blocks_at-rows variant.family variant.lanes j x (n * rate variant) is)

pub lane_before-rows : (variant : Variant) (key nonce ad : List ℕ) (j : ℕ) → IsLaneCount variant.lanes → j < variant.lanes
    → IsBytes key → IsBytes nonce → IsBytes ad → AreRows (lane_before variant key nonce ad j)
lane_before-rows variant key nonce ad j count inside k n is =
    after-rows variant (init variant key nonce j) j ad _ (init-rows variant key nonce j count inside k n) is

keystream_blocks-rows : (family : Family) (s : List (List ℕ)) → AreRows s → AreRows (keystream_blocks family s)
keystream_blocks-rows Family128 s rows = search (row_laws, rows.at) depth 12
keystream_blocks-rows Family256 s rows = search (row_laws, rows.at) depth 12

-- the keystream along bytes, from lanes of bytes, is bytes
pub keystream_byte_along-below : (variant : Variant) (lanes : ℕ → List (List ℕ)) (m : List ℕ) (i : ℕ) → IsLaneCount variant.lanes
    → ((j : ℕ) → j < variant.lanes → AreRows (lanes j)) → IsBytes m → keystream_byte_along variant lanes m i < 256
keystream_byte_along-below variant lanes m i count rows is =
    let j : ℕ = lane_of variant.lanes i in
    let n : ℕ = i / rate variant in
    let keystream : AreRows (keystream_blocks variant.family (lane_after variant (lanes j) j m n)) =
    keystream_blocks-rows variant.family (lane_after variant (lanes j) j m n)
    (after-rows variant (lanes j) j m n (rows j (lane_of-within variant.lanes i count)) is) in
    let block : IsBytes (block_in (keystream_blocks variant.family (lane_after variant (lanes j) j m n)) (i % rate variant / 16 / variant.lanes)) =
    keystream.at (i % rate variant / 16 / variant.lanes) in
    block.below (i % 16)
