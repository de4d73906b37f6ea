-- How runs continue: along one more rate block, along a part of one, and along more of the same bytes.
use Rattle.std.proofs.Common.{◌≡◌, ◌∙◌, sym, ap, refl, ℕ, ◌+◌, ◌-◌, ◌*◌, ◌/◌, ◌%◌, ◌<◌, ◌≤◌, ⊎_elim, List, length, slice_index, arith}
use Rattle.std.proofs.lemmas.Bool.{cases_lt}
use Rattle.std.proofs.lemmas.List.{get_or_past}
use Rattle.std.proofs.lemmas.Nat.{div-add-mod', div-mul-add, mod-mul-add}
use Rattle.aegis_aes.specs.Lanes.{IsLaneCount}
use Rattle.aegis_base.specs.Variant.{Variant, rate}
use Rattle.aegis_base.specs.Lane.{update}
use Rattle.aegis_base.specs.Message.{lane_after, after_all, keystream_byte, share_at, keystream_byte_along}
use Rattle.aegis_base.specs.Private.{HasFrom}
use Rattle.aegis_base.specs.Context.{IsAlong}
use Rattle.aegis_base.proofs.MessageFacts.{after-more, after-same, block_count-part, block_count-whole, keystream_byte-periodic, keystream_byte-same, rate-positive, share_at-same}

-- ---- one rate block

module _ (variant : Variant) (lanes here : ℕ → List (List ℕ)) (x : List ℕ) (n : ℕ)
    (before : (j : ℕ) → j < variant.lanes → here j ≡ lane_after variant (lanes j) j x n) where
  -- rate block n of x is taken in from place a of other bytes
  pub block-lane : (bytes : List ℕ) (a j : ℕ) → j < variant.lanes → ((k : ℕ) → k < rate variant → slice_index bytes (a + k) ≡ slice_index x (n * rate variant + k))
      → update variant.family (here j) (share_at variant j bytes a) ≡ lane_after variant (lanes j) j x (n + 1)
  block-lane bytes a j inside same =
      rw (after-more, ← before j inside) (ap (update variant.family (here j)) (share_at-same variant j bytes x a (n * rate variant) inside same))

  -- the keystream of that rate block is that of the lanes before it
  pub block-byte : (k : ℕ) → IsLaneCount variant.lanes → k < rate variant → keystream_byte_along variant lanes x (n * rate variant + k) ≡ keystream_byte variant here k
  block-byte k count low =
      let rows = λ (j : ℕ). lane_after variant (lanes j) j x n in
      let block : (n * rate variant + k) / rate variant ≡ n = div-mul-add n (rate variant) k low in
      rw block (keystream_byte-periodic variant rows n k count ∙ sym (keystream_byte-same variant here rows k count before))

-- ---- a part of a rate block

-- a run along a list is one along each list with the same first bytes
pub along-same : (variant : Variant) (lanes here : ℕ → List (List ℕ)) (block x y : List ℕ) (t : ℕ)
    → ((k : ℕ) → k < t → slice_index x k ≡ slice_index y k) → IsAlong variant lanes here block x t → IsAlong variant lanes here block y t
along-same variant lanes here block x y t same on = grind (arith, div-add-mod', after-same)

-- n more bytes end in the rate block of r bytes that is open, or at its end
pub open-end : (t n r : ℕ) → t % r + n < r → ((t + n) / r ≡ t / r) × ((t + n) % r ≡ t % r + n)
open-end t n r low =
    let whole : t / r * r + t % r ≡ t = div-add-mod' t r in
    let place : t + n ≡ t / r * r + (t % r + n) = omega arith in
    (ap (λ (m : ℕ). m / r) place ∙ div-mul-add (t / r) r (t % r + n) low, ap (λ (m : ℕ). m % r) place ∙ mod-mul-add (t / r) r (t % r + n) low)

pub full-end : (t n r : ℕ) → 0 < r → t % r + n ≡ r → ((t + n) / r ≡ t / r + 1) × ((t + n) % r ≡ 0)
full-end t n r positive full =
    let whole : t / r * r + t % r ≡ t = div-add-mod' t r in
    let place : t + n ≡ (t / r + 1) * r + 0 = omega arith in
    (ap (λ (m : ℕ). m / r) place ∙ div-mul-add (t / r + 1) r 0 positive, ap (λ (m : ℕ). m % r) place ∙ mod-mul-add (t / r + 1) r 0 positive)

-- the bytes p are kept in the open block after t bytes, with rate blocks of r bytes: it changes from `block` to `next`
pub record IsKept (r : ℕ) (block next p : List ℕ) (t : ℕ) : Type 0 where
  pub kept : (k : ℕ) → k < t % r → slice_index next k ≡ slice_index block k
  pub taken : (k : ℕ) → k < length p → slice_index next (t % r + k) ≡ slice_index p k

module _ (variant : Variant) (lanes here : ℕ → List (List ℕ)) (block next x p : List ℕ) (t : ℕ)
    (on : IsAlong variant lanes here block x t) (has : HasFrom x t p) (keeps : IsKept (rate variant) block next p t) where
  kept-reads : (k : ℕ) → k < t % rate variant + length p → slice_index next k ≡ slice_index x (t / rate variant * rate variant + k)
  kept-reads k low =
      let whole : t / rate variant * rate variant + t % rate variant ≡ t = div-add-mod' t (rate variant) in
      ⊎_elim
      (λ beginning. keeps.kept k beginning ∙ on.open_block k beginning)
      (λ back.
      let place : t % rate variant + (k - t % rate variant) ≡ k = omega arith in
      let there : t + (k - t % rate variant) ≡ t / rate variant * rate variant + k = omega arith in
      ap (slice_index next) (sym place) ∙ keeps.taken (k - t % rate variant) (omega arith) ∙ sym (has (k - t % rate variant) (omega arith)) ∙ ap (slice_index x) there)
      (cases_lt k (t % rate variant))

  -- they leave the rate block open
  pub along-open : t % rate variant + length p < rate variant → IsAlong variant lanes here next x (t + length p)
  along-open low =
      let end = open-end t (length p) (rate variant) low in
      let rest = end.1 in
      record { whole = λ j inside. rw end.0 (on.whole j inside); open_block = λ k h. rw end.0 (kept-reads k (omega arith)) }

  -- they fill the rate block, which is taken in: the lanes become `there`
  pub along-full : (there : ℕ → List (List ℕ)) (last : List ℕ) → IsLaneCount variant.lanes → t % rate variant + length p ≡ rate variant
      → ((j : ℕ) → j < variant.lanes → there j ≡ update variant.family (here j) (share_at variant j next 0))
      → IsAlong variant lanes there last x (t + length p)
  along-full there last count full stepped =
      let end = full-end t (length p) (rate variant) (rate-positive variant count) full in
      let rest = end.1 in
      record {
        whole = λ j inside.
            rw end.0 (stepped j inside
            ∙ block-lane variant lanes here x (t / rate variant) on.whole next 0 j inside
            (λ k h. let e : 0 + k ≡ k = omega arith in rw e (kept-reads k (omega arith))));
        open_block = λ k h. absurd (omega arith);
      }

-- the keystream of the open rate block is that of the lanes
pub along-byte : (variant : Variant) (lanes here : ℕ → List (List ℕ)) (block x : List ℕ) (t k : ℕ) → IsLaneCount variant.lanes
    → IsAlong variant lanes here block x t → t % rate variant + k < rate variant
    → keystream_byte_along variant lanes x (t + k) ≡ keystream_byte variant here (t % rate variant + k)
along-byte variant lanes here block x t k count on low =
    let whole : t / rate variant * rate variant + t % rate variant ≡ t = div-add-mod' t (rate variant) in
    let place : t + k ≡ t / rate variant * rate variant + (t % rate variant + k) = omega arith in
    rw place (block-byte variant lanes here x (t / rate variant) on.whole (t % rate variant + k) count low)

-- ---- a whole rate block

-- while none is open, the lanes take in the one that begins at place a of other bytes
pub along-block : (variant : Variant) (lanes here there : ℕ → List (List ℕ)) (block last x bytes : List ℕ) (t a : ℕ) → IsLaneCount variant.lanes
    → t % rate variant ≡ 0 → IsAlong variant lanes here block x t
    → ((j : ℕ) → j < variant.lanes → there j ≡ update variant.family (here j) (share_at variant j bytes a))
    → ((k : ℕ) → k < rate variant → slice_index bytes (a + k) ≡ slice_index x (t + k))
    → IsAlong variant lanes there last x (t + rate variant)
along-block variant lanes here there block last x bytes t a count none on stepped same =
    let whole : t / rate variant * rate variant + t % rate variant ≡ t = div-add-mod' t (rate variant) in
    let end = full-end t (rate variant) (rate variant) (rate-positive variant count) (omega arith) in
    let rest = end.1 in
    record {
      whole = λ j inside.
          rw end.0 (stepped j inside ∙ block-lane variant lanes here x (t / rate variant) on.whole bytes a j inside
          (λ k low. same k low ∙ ap (slice_index x) (omega arith)));
      open_block = λ k h. absurd (omega arith);
    }

-- ---- the end of a run

-- the open block is taken in, padded with zeros
pub padded-update : (variant : Variant) (lanes here : ℕ → List (List ℕ)) (block last x : List ℕ) → IsLaneCount variant.lanes
    → IsAlong variant lanes here block x (length x) → 0 < length x % rate variant
    → ((k : ℕ) → k < length x % rate variant → slice_index last k ≡ slice_index block k)
    → ((k : ℕ) → length x % rate variant ≤ k → slice_index last k ≡ 0)
    → (j : ℕ) → j < variant.lanes → update variant.family (here j) (share_at variant j last 0) ≡ after_all variant (lanes j) j x
padded-update variant lanes here block last x count on some kept zeros j inside =
    let r : ℕ = rate variant in
    let positive : 0 < r = rate-positive variant count in
    let whole : length x / r * r + length x % r ≡ length x = div-add-mod' (length x) r in
    rw (block_count-part variant (length x) r refl positive (omega arith))
    (block-lane variant lanes here x (length x / r) on.whole last 0 j inside
    (λ k low.
    let place : 0 + k ≡ k = omega arith in
    rw place
    (⊎_elim
    (λ (beginning : k < length x % r). kept k beginning ∙ on.open_block k beginning)
    (λ (back : length x % r ≤ k). zeros k back ∙ sym (get_or_past x (length x / r * r + k) 0 (omega arith)))
    (cases_lt k (length x % r)))))

-- without an open block, there is nothing to take in
pub unpadded : (variant : Variant) (lanes here : ℕ → List (List ℕ)) (block x : List ℕ) → IsLaneCount variant.lanes
    → IsAlong variant lanes here block x (length x) → length x % rate variant ≡ 0
    → (j : ℕ) → j < variant.lanes → here j ≡ after_all variant (lanes j) j x
unpadded variant lanes here block x count on none j inside =
    grind (arith, div-add-mod', block_count-whole, rate-positive)
