-- The bytes of a ciphertext at the places of one lane depend only on that lane before the message and on the bytes of
-- the message at these places.
use Rattle.std.proofs.Common.{◌≡◌, ◌∙◌, sym, ap, subst, refl, ℕ, zero, suc, ◌+◌, ◌*◌, ◌/◌, ◌<◌, List, length, bit_xor, slice_index, arith, inl, inr}
use Rattle.std.proofs.lemmas.Bool.{cases_lt}
use Rattle.std.proofs.lemmas.List.{get_or_past}
use Rattle.aegis_aes.specs.Block.{block_at}
use Rattle.aegis_aes.specs.Lanes.{IsLaneCount}
use Rattle.aegis_base.specs.Variant.{Family, Family128, Family256, Variant, rate}
use Rattle.aegis_base.specs.Laws.{AgreeInLane, AreLanesIndependent}
use Rattle.aegis_base.specs.Message.{lane_after, after_all, ciphertext_from, lane_of, share, keystream_byte_along}
use Rattle.aegis_base.proofs.Bijection.{ciphertext-reads, length-ciphertext}
use Rattle.aegis_base.proofs.LaneFacts.{bytes_at-same}
use Rattle.aegis_base.proofs.MessageFacts.{lane_of-within, variant_of}

-- ---- which lane the bytes of a block belong to

lane_of-first : (family : Family) (d j n p : ℕ) → IsLaneCount d → j < d → p < 16
    → lane_of d (n * rate (variant_of family d) + 16 * j + p) ≡ j
lane_of-first Family128 d j n p (inl e) = rw e (λ inside low. omega arith)
lane_of-first Family128 d j n p (inr (inl e)) = rw e (λ inside low. omega arith)
lane_of-first Family128 d j n p (inr (inr e)) = rw e (λ inside low. omega arith)
lane_of-first Family256 d j n p (inl e) = rw e (λ inside low. omega arith)
lane_of-first Family256 d j n p (inr (inl e)) = rw e (λ inside low. omega arith)
lane_of-first Family256 d j n p (inr (inr e)) = rw e (λ inside low. omega arith)

lane_of-second : (d j n p : ℕ) → IsLaneCount d → j < d → p < 16
    → lane_of d (n * rate (variant_of Family128 d) + 16 * (d + j) + p) ≡ j
lane_of-second d j n p (inl e) = rw e (λ inside low. omega arith)
lane_of-second d j n p (inr (inl e)) = rw e (λ inside low. omega arith)
lane_of-second d j n p (inr (inr e)) = rw e (λ inside low. omega arith)

-- ---- one lane over inputs that agree at its places

share-in_lane : (family : Family) (d j n : ℕ) (x y : List ℕ) → IsLaneCount d → j < d → AgreeInLane d j x y
    → share (variant_of family d) j n x ≡ share (variant_of family d) j n y
share-in_lane Family128 d j n x y count inside agree =
    let at = n * rate (variant_of Family128 d) in
    let first : block_at x (at + 16 * j) ≡ block_at y (at + 16 * j) =
    bytes_at-same x y (at + 16 * j) (at + 16 * j) 16
    (λ p low. agree (at + 16 * j + p) (lane_of-first Family128 d j n p count inside low)) in
    let second : block_at x (at + 16 * (d + j)) ≡ block_at y (at + 16 * (d + j)) =
    bytes_at-same x y (at + 16 * (d + j)) (at + 16 * (d + j)) 16
    (λ p low. agree (at + 16 * (d + j) + p) (lane_of-second d j n p count inside low)) in
    rw (first, second) refl
share-in_lane Family256 d j n x y count inside agree =
    let at = n * rate (variant_of Family256 d) in
    let first : block_at x (at + 16 * j) ≡ block_at y (at + 16 * j) =
    bytes_at-same x y (at + 16 * j) (at + 16 * j) 16
    (λ p low. agree (at + 16 * j + p) (lane_of-first Family256 d j n p count inside low)) in
    rw first refl

after-in_lane : (variant : Variant) (s : List (List ℕ)) (j : ℕ) (x y : List ℕ) (n : ℕ) → IsLaneCount variant.lanes → j < variant.lanes
    → AgreeInLane variant.lanes j x y → lane_after variant s j x n ≡ lane_after variant s j y n
unfolding lane_after
after-in_lane variant s j x y zero count inside agree = refl
after-in_lane variant s j x y (suc n) count inside agree =
    let before = after-in_lane variant s j x y n count inside agree in
    let taken = share-in_lane variant.family variant.lanes j n x y count inside agree in
    rw (before, taken) refl

pub after_all-in_lane : (variant : Variant) (s : List (List ℕ)) (j : ℕ) (x y : List ℕ) → IsLaneCount variant.lanes → j < variant.lanes
    → length x ≡ length y → AgreeInLane variant.lanes j x y → after_all variant s j x ≡ after_all variant s j y
after_all-in_lane variant s j x y count inside long agree =
    rw long (after-in_lane variant s j x y _ count inside agree)

-- ---- the ciphertext at the places of one lane

keystream_byte_along-in_lane : (variant : Variant) (f g : ℕ → List (List ℕ)) (x y : List ℕ) (i j : ℕ) → IsLaneCount variant.lanes
    → lane_of variant.lanes i ≡ j → f j ≡ g j → AgreeInLane variant.lanes j x y → keystream_byte_along variant f x i ≡ keystream_byte_along variant g y i
keystream_byte_along-in_lane variant f g x y i j count here same agree =
    let n = i / rate variant in
    let inside : j < variant.lanes = subst (λ (q : ℕ). q < variant.lanes) here (lane_of-within variant.lanes i count) in
    let lane : lane_after variant (f j) j x n ≡ lane_after variant (g j) j y n =
    after-in_lane variant (f j) j x y n count inside agree
    ∙ ap (λ (s : List (List ℕ)). lane_after variant s j y n) same in
    rw (here, lane) refl

ciphertext_from-in_lane : (variant : Variant) (f g : ℕ → List (List ℕ)) (m n : List ℕ) (j : ℕ) → IsLaneCount variant.lanes
    → f j ≡ g j → length m ≡ length n → AgreeInLane variant.lanes j m n
    → AgreeInLane variant.lanes j (ciphertext_from variant f m) (ciphertext_from variant g n)
ciphertext_from-in_lane variant f g m n j count same long agree i here = elim (cases_lt i (length m)) [
  | inl h ↦
      ciphertext-reads variant f m i h
      ∙ ap (λ (x : ℕ). bit_xor x (keystream_byte_along variant f m i)) (agree i here)
      ∙ ap (bit_xor (slice_index n i)) (keystream_byte_along-in_lane variant f g m n i j count here same agree)
      ∙ sym (ciphertext-reads variant g n i (omega arith))
  | inr h ↦
      get_or_past (ciphertext_from variant f m) i 0 (omega (arith, length-ciphertext variant f m))
      ∙ sym (get_or_past (ciphertext_from variant g n) i 0 (omega (arith, length-ciphertext variant g n)))
]

pub lanes_independent : (variant : Variant) → IsLaneCount variant.lanes → AreLanesIndependent variant
lanes_independent variant count key nonce ad₁ ad₂ m n j ad_long ad_agree long agree i here =
    grind (arith, lane_of-within, ciphertext_from-in_lane, after_all-in_lane)
