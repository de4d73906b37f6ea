-- Messages that agree in some bytes, places in a rate block, and blocks of keystream byte by byte.
use Rattle.std.proofs.Common.{◌≡◌, ◌∙◌, sym, ap, refl, ℕ, zero, suc, ◌+◌, ◌-◌, ◌*◌, ◌/◌, ◌%◌, ◌<◌, ◌≤◌, List, [], ◌∷◌, length, bit_xor, slice_index, arith, add-one, inl, inr}
use Rattle.std.proofs.Math.Nat.{div-eq_of_lt, div-mul-le_self, le-mul_of_pos_right, lt-div-mul-add}
use Rattle.std.proofs.lemmas.Nat.{div-mul-add, div_below}
use Rattle.aegis_aes.specs.Block.{block_at, xor}
use Rattle.aegis_aes.specs.Lanes.{IsLaneCount}
use Rattle.aegis_base.specs.Variant.{Family, Family128, Family256, Variant, rate, width}
use Rattle.aegis_base.specs.Lane.{keystream_blocks, block_in, init, update}
use Rattle.aegis_base.specs.Message.{lane_after, block_count, blocks_at, keystream_byte, lane_before, lane_of, share, share_at}
use Rattle.aegis_aes.proofs.Places.{get_or-bytes_at, length-bytes_at}
use Rattle.aegis_base.proofs.LaneFacts.{bytes_at-same}

-- ---- messages that agree

blocks_at-same : (family : Family) (d j : ℕ) (x y : List ℕ) (a b : ℕ) → j < d
    → ((k : ℕ) → k < 16 * (width family * d) → slice_index x (a + k) ≡ slice_index y (b + k))
    → blocks_at family d j x a ≡ blocks_at family d j y b
blocks_at-same Family128 d j x y a b inside same =
    let block : (q : ℕ) → q < 2 * d → block_at x (a + 16 * q) ≡ block_at y (b + 16 * q) =
    λ q low. bytes_at-same x y (a + 16 * q) (b + 16 * q) 16 (λ p h.
    let e = same (16 * q + p) (omega arith) in
    let f : a + 16 * q + p ≡ a + (16 * q + p) = omega arith in
    let g : b + 16 * q + p ≡ b + (16 * q + p) = omega arith in
    rw (f, g) e) in
    rw (block j (omega arith), block (d + j) (omega arith)) refl
blocks_at-same Family256 d j x y a b inside same =
    let first : block_at x (a + 16 * j) ≡ block_at y (b + 16 * j) =
    bytes_at-same x y (a + 16 * j) (b + 16 * j) 16 (λ p h.
    let e = same (16 * j + p) (omega arith) in
    let f : a + 16 * j + p ≡ a + (16 * j + p) = omega arith in
    let g : b + 16 * j + p ≡ b + (16 * j + p) = omega arith in
    rw (f, g) e) in
    rw first refl

pub share_at-same : (variant : Variant) (j : ℕ) (x y : List ℕ) (a b : ℕ) → j < variant.lanes
    → ((k : ℕ) → k < rate variant → slice_index x (a + k) ≡ slice_index y (b + k))
    → share_at variant j x a ≡ share_at variant j y b
share_at-same variant j x y a b inside same = blocks_at-same variant.family variant.lanes j x y a b inside same

pub after-same : (variant : Variant) (s : List (List ℕ)) (j : ℕ) (x y : List ℕ) (n : ℕ) → j < variant.lanes
    → ((k : ℕ) → k < n * rate variant → slice_index x k ≡ slice_index y k)
    → lane_after variant s j x n ≡ lane_after variant s j y n
unfolding lane_after
after-same variant s j x y zero inside same = refl
after-same variant s j x y (suc n) inside same =
    let before = after-same variant s j x y n inside (λ k h. same k (omega arith)) in
    let taken = share_at-same variant j x y (n * rate variant) (n * rate variant) inside
    (λ k h. same (n * rate variant + k) (omega arith)) in
    rw (before, taken) refl

pub after-none : (variant : Variant) (s : List (List ℕ)) (j : ℕ) (x : List ℕ) → lane_after variant s j x 0 ≡ s
unfolding lane_after
after-none variant s j x = refl

pub after-more : (variant : Variant) (s : List (List ℕ)) (j : ℕ) (x : List ℕ) (n : ℕ)
    → lane_after variant s j x (n + 1) ≡ update variant.family (lane_after variant s j x n) (share variant j n x)
unfolding lane_after
after-more variant s j x n = rw add-one refl

-- ---- places

-- the variant of a family and a number of lanes
abbrev pub variant_of : Family → ℕ → Variant
variant_of family d = record { family = family; lanes = d }

pub lane_of-within : (d i : ℕ) → IsLaneCount d → lane_of d i < d
lane_of-within d i (inl e) = rw e (omega arith)
lane_of-within d i (inr (inl e)) = rw e (omega arith)
lane_of-within d i (inr (inr e)) = rw e (omega arith)

rate_of-positive : (family : Family) (d : ℕ) → IsLaneCount d → 0 < rate (variant_of family d)
rate_of-positive Family128 d (inl e) = rw e (omega arith)
rate_of-positive Family128 d (inr (inl e)) = rw e (omega arith)
rate_of-positive Family128 d (inr (inr e)) = rw e (omega arith)
rate_of-positive Family256 d (inl e) = rw e (omega arith)
rate_of-positive Family256 d (inr (inl e)) = rw e (omega arith)
rate_of-positive Family256 d (inr (inr e)) = rw e (omega arith)

pub rate-positive : (variant : Variant) → IsLaneCount variant.lanes → 0 < rate variant
rate-positive variant count = rate_of-positive variant.family variant.lanes count

-- without associated data the lanes before the message are those after initialization
pub before-none : (variant : Variant) (key nonce : List ℕ) (j : ℕ) → IsLaneCount variant.lanes
    → lane_before variant key nonce [] j ≡ init variant key nonce j
before-none variant key nonce j count = grind (arith, div-eq_of_lt, rate-positive, after-none)

-- place i of a message and the same place of another rate block
record IsSamePlace (variant : Variant) (i k : ℕ) : Type 0 where
  lane : lane_of variant.lanes i ≡ lane_of variant.lanes k
  within : i % rate variant ≡ k % rate variant
  byte : i % 16 ≡ k % 16

places-periodic : (family : Family) (d n k : ℕ) → IsLaneCount d
    → IsSamePlace (variant_of family d) (n * rate (variant_of family d) + k) k
places-periodic Family128 d n k (inl e) = rw e record { lane = omega arith; within = omega arith; byte = omega arith }
places-periodic Family128 d n k (inr (inl e)) = rw e record { lane = omega arith; within = omega arith; byte = omega arith }
places-periodic Family128 d n k (inr (inr e)) = rw e record { lane = omega arith; within = omega arith; byte = omega arith }
places-periodic Family256 d n k (inl e) = rw e record { lane = omega arith; within = omega arith; byte = omega arith }
places-periodic Family256 d n k (inr (inl e)) = rw e record { lane = omega arith; within = omega arith; byte = omega arith }
places-periodic Family256 d n k (inr (inr e)) = rw e record { lane = omega arith; within = omega arith; byte = omega arith }

pub keystream_byte-same : (variant : Variant) (f g : ℕ → List (List ℕ)) (i : ℕ) → IsLaneCount variant.lanes
    → ((j : ℕ) → j < variant.lanes → f j ≡ g j) → keystream_byte variant f i ≡ keystream_byte variant g i
keystream_byte-same variant f g i count same = rw (same (lane_of variant.lanes i) (lane_of-within variant.lanes i count)) refl

-- the keystream's byte depends only on its place in the rate block
pub keystream_byte-periodic : (variant : Variant) (f : ℕ → List (List ℕ)) (n k : ℕ) → IsLaneCount variant.lanes
    → keystream_byte variant f (n * rate variant + k) ≡ keystream_byte variant f k
keystream_byte-periodic variant f n k count =
    let same = places-periodic variant.family variant.lanes n k count in
    rw (same.lane, same.within, same.byte) refl

-- ---- blocks byte by byte

-- the bytes of an xor
xor-reads : (xs ys : List ℕ) (p : ℕ) → p < length (xor xs ys) → slice_index (xor xs ys) p ≡ bit_xor (slice_index xs p) (slice_index ys p)
xor-reads [] ys p h = absurd (omega arith)
xor-reads (x ∷ xs) [] p h = absurd (omega arith)
xor-reads (x ∷ xs) (y ∷ ys) zero h = refl
xor-reads (x ∷ xs) (y ∷ ys) (suc p) h = xor-reads xs ys p (omega arith)

-- a block that is the xor of a block and a block of keystream, byte by byte
xored-reads : (new old z : List ℕ) (a p : ℕ) → p < 16 → block_at new a ≡ xor (block_at old a) z
    → slice_index new (a + p) ≡ bit_xor (slice_index old (a + p)) (slice_index z p)
xored-reads new old z a p low e =
    let long : p < length (xor (block_at old a) z) = rw (← e, length-bytes_at new a 16) low in
    sym (get_or-bytes_at new a 16 p 0 low) ∙ ap (λ (xs : List ℕ). slice_index xs p) e ∙ xor-reads (block_at old a) z p long
    ∙ ap (λ (b : ℕ). bit_xor b (slice_index z p)) (get_or-bytes_at old a 16 p 0 low)

-- the place of byte k of a rate block among its blocks
record IsPlace (variant : Variant) (k : ℕ) : Type 0 where
  place : 16 * (k % rate variant / 16 / variant.lanes * variant.lanes + lane_of variant.lanes k) + k % 16 ≡ k
  block : k % rate variant / 16 / variant.lanes < width variant.family

places-within : (family : Family) (d k : ℕ) → IsLaneCount d → k < rate (variant_of family d) → IsPlace (variant_of family d) k
places-within Family128 d k (inl e) = rw e (λ h. record { place = omega arith; block = omega arith })
places-within Family128 d k (inr (inl e)) = rw e (λ h. record { place = omega arith; block = omega arith })
places-within Family128 d k (inr (inr e)) = rw e (λ h. record { place = omega arith; block = omega arith })
places-within Family256 d k (inl e) = rw e (λ h. record { place = omega arith; block = omega arith })
places-within Family256 d k (inr (inl e)) = rw e (λ h. record { place = omega arith; block = omega arith })
places-within Family256 d k (inr (inr e)) = rw e (λ h. record { place = omega arith; block = omega arith })

-- a rate block whose blocks are xored with the lanes' keystream, byte by byte
pub keystream_blocks-reads : (variant : Variant) (lanes : ℕ → List (List ℕ)) (new old : List ℕ) (a k : ℕ) → IsLaneCount variant.lanes
    → ((j h : ℕ) → j < variant.lanes → h < width variant.family
    → block_at new (a + 16 * (h * variant.lanes + j)) ≡ xor (block_at old (a + 16 * (h * variant.lanes + j))) (block_in (keystream_blocks variant.family (lanes j)) h))
    → k < rate variant
    → slice_index new (a + k) ≡ bit_xor (slice_index old (a + k)) (keystream_byte variant lanes k)
keystream_blocks-reads variant lanes new old a k count blocks low =
    let is = places-within variant.family variant.lanes k count low in
    let j = lane_of variant.lanes k in
    let h = k % rate variant / 16 / variant.lanes in
    let byte = xored-reads new old (block_in (keystream_blocks variant.family (lanes j)) h) (a + 16 * (h * variant.lanes + j)) (k % 16) (omega arith)
    (blocks j h (lane_of-within variant.lanes k count) is.block) in
    let place : a + 16 * (h * variant.lanes + j) + k % 16 ≡ a + k = (let at = is.place in omega arith) in
    rw place at byte

-- ---- how many rate blocks there are

pub block_count-part : (variant : Variant) (n r : ℕ) → r ≡ rate variant → 0 < r → n / r * r < n → block_count variant n ≡ n / r + 1
block_count-part variant n r e positive part =
    let below : n < n / r * r + r = lt-div-mul-add positive in
    let place : n + (r - 1) ≡ (n / r + 1) * r + (n - n / r * r - 1) = omega arith in
    rw (← e, place) (div-mul-add (n / r + 1) r (n - n / r * r - 1) (omega arith))

pub block_count-whole : (variant : Variant) (n r : ℕ) → r ≡ rate variant → 0 < r → n ≤ n / r * r → block_count variant n ≡ n / r
block_count-whole variant n r e positive whole =
    let floor = div-mul-le_self n r in
    let place : n + (r - 1) ≡ n / r * r + (r - 1) = omega arith in
    rw (← e, place) (div-mul-add (n / r) r (r - 1) (omega arith))

-- there are no more rate blocks than bytes
pub block_count-below : (variant : Variant) (n : ℕ) → IsLaneCount variant.lanes → block_count variant n ≤ n
block_count-below variant n count = grind (arith, rate-positive, le-mul_of_pos_right, div_below)
