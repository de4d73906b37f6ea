-- What the values that seal or open a message stand for, as the message continues and at its end.
use Rattle.std.proofs.Common.{◌≡◌, ◌∙◌, sym, ap, ℕ, ◌+◌, ◌/◌, ◌%◌, ◌<◌, ◌≤◌, List, [], ◌++◌, length, bit_xor, slice_index, arith}
use Rattle.std.proofs.Math.Nat.{zero-div}
use Rattle.std.proofs.lemmas.List.{length-append}
use Rattle.std.proofs.lemmas.List.FromFn.{get_or-map-range_with_len}
use Rattle.aegis_aes.specs.Lanes.{IsLaneCount}
use Rattle.aegis_base.specs.Variant.{Variant, rate}
use Rattle.aegis_base.specs.Lane.{update}
use Rattle.aegis_base.specs.Message.{block_count, ciphertext, lane_before, keystream_byte, share_at}
use Rattle.aegis_base.specs.Private.{HasFrom}
use Rattle.aegis_base.specs.Context.{IsAlong, Stands, held_by, lane_in, lanes_of}
use Rattle.aegis_base.proofs.ContextFacts.{IsKept, along-block, along-byte, along-full, along-open, full-end, open-end}
use Rattle.aegis_base.proofs.MessageFacts.{rate-positive}
use Rattle.aegis_base.proofs.AppendFacts.{along-longer, along-none, ciphertext-append, has-after}

-- ---- the lanes that are held

lane_in-of : (n : ℕ) (lane : ℕ → List (List ℕ)) (j : ℕ) → j < n → lane_in (lanes_of n lane) j ≡ lane j
unfolding lanes_of
lane_in-of n lane j inside = get_or-map-range_with_len lane 0 n j j [] inside (omega arith)

pub along-held : (variant : Variant) (lanes lane : ℕ → List (List ℕ)) (block x : List ℕ) (t : ℕ)
    → IsAlong variant lanes lane block x t → IsAlong variant lanes (lane_in (lanes_of variant.lanes lane)) block x t
along-held variant lanes lane block x t on =
    record { whole = λ j inside. lane_in-of variant.lanes lane j inside ∙ on.whole j inside; open_block = on.open_block }

pub held-along : (variant : Variant) (lanes lane : ℕ → List (List ℕ)) (block x : List ℕ) (t : ℕ)
    → IsAlong variant lanes (lane_in (lanes_of variant.lanes lane)) block x t → IsAlong variant lanes lane block x t
held-along variant lanes lane block x t on =
    record { whole = λ j inside. sym (lane_in-of variant.lanes lane j inside) ∙ on.whole j inside; open_block = on.open_block }

-- ---- more of a message

module _ (variant : Variant) (lane : ℕ → List (List ℕ)) (updates : ℕ) (block : List ℕ) (ad_bytes message_bytes : ℕ)
    (key nonce ad m p : List ℕ) (is : Stands variant (held_by variant lane updates block ad_bytes message_bytes) key nonce ad m) where
  begun : IsAlong variant (lane_before variant key nonce ad) lane block (m ++ p) message_bytes
  unfolding Stands
  begun = rw is.1 (along-longer variant _ lane block m p (held-along variant _ lane block m _ is.3))

  follows : HasFrom (m ++ p) message_bytes p
  unfolding Stands
  follows = rw is.1 (has-after m p)

  -- the run continues along the bytes p
  stands-on : (next : ℕ → List (List ℕ)) (count : ℕ) (last : List ℕ)
      → ((lanes : ℕ → List (List ℕ)) (x : List ℕ) → IsAlong variant lanes lane block x message_bytes → HasFrom x message_bytes p
      → IsAlong variant lanes next last x (message_bytes + length p))
      → count + message_bytes / rate variant ≡ updates + (message_bytes + length p) / rate variant
      → Stands variant (held_by variant next count last ad_bytes (message_bytes + length p)) key nonce ad (m ++ p)
  unfolding Stands
  stands-on next count last along counted =
      let both = length-append m p in
      let so_far = is.1 in
      let updated = is.2 in
      let place : message_bytes + length p ≡ length (m ++ p) = omega arith in
      let before : message_bytes / rate variant ≡ length m / rate variant = ap (λ (q : ℕ). q / rate variant) so_far in
      let later : (message_bytes + length p) / rate variant ≡ length (m ++ p) / rate variant = ap (λ (q : ℕ). q / rate variant) place in
      (is.0, place, omega arith, along-held variant _ next last (m ++ p) _ (rw place at (along (lane_before variant key nonce ad) (m ++ p) begun follows)))

  -- they leave the rate block open
  pub stands-open : (next : List ℕ) → IsKept (rate variant) block next p message_bytes → message_bytes % rate variant + length p < rate variant
      → Stands variant (held_by variant lane updates next ad_bytes (message_bytes + length p)) key nonce ad (m ++ p)
  stands-open next keeps low =
      let end = (open-end message_bytes (length p) (rate variant) low).0 in
      stands-on lane updates next (λ lanes x on has. along-open variant lanes lane block next x p message_bytes on has keeps low) (omega arith)

  -- they fill the rate block, which is taken in
  pub stands-full : (next last : List ℕ) (there : ℕ → List (List ℕ)) (count : ℕ) → IsLaneCount variant.lanes → IsKept (rate variant) block next p message_bytes
      → message_bytes % rate variant + length p ≡ rate variant → count ≡ updates + 1
      → ((j : ℕ) → j < variant.lanes → there j ≡ update variant.family (lane j) (share_at variant j next 0))
      → Stands variant (held_by variant there count last ad_bytes (message_bytes + length p)) key nonce ad (m ++ p)
  stands-full next last there count lanes keeps full more stepped =
      let end = (full-end message_bytes (length p) (rate variant) (rate-positive variant lanes) full).0 in
      stands-on there count last (λ begin x on has. along-full variant begin lane block next x p message_bytes on has keeps there last lanes full stepped) (omega arith)

  -- they are one rate block, which is taken in from place a of other bytes
  pub stands-block : (bytes last : List ℕ) (a : ℕ) (there : ℕ → List (List ℕ)) (count : ℕ) → IsLaneCount variant.lanes → length p ≡ rate variant
      → message_bytes % rate variant ≡ 0 → count ≡ updates + 1
      → ((j : ℕ) → j < variant.lanes → there j ≡ update variant.family (lane j) (share_at variant j bytes a))
      → ((k : ℕ) → k < rate variant → slice_index bytes (a + k) ≡ slice_index p k)
      → Stands variant (held_by variant there count last ad_bytes (message_bytes + length p)) key nonce ad (m ++ p)
  stands-block bytes last a there count lanes long none more stepped same =
      let end = (full-end message_bytes (length p) (rate variant) (rate-positive variant lanes) (omega arith)).0 in
      stands-on there count last (λ begin x on has.
      rw long (along-block variant begin lane there block last x bytes message_bytes a lanes none on stepped (λ k low. same k low ∙ sym (has k (omega arith))))) (omega arith)

  -- within one rate block, the bytes p xored with the keystream continue the ciphertext
  pub ciphertext-on : (c : List ℕ) → IsLaneCount variant.lanes → length c ≡ length p → message_bytes % rate variant + length p ≤ rate variant
      → ((i : ℕ) → i < length p → slice_index c i ≡ bit_xor (slice_index p i) (keystream_byte variant lane (message_bytes % rate variant + i)))
      → ciphertext variant key nonce ad (m ++ p) ≡ ciphertext variant key nonce ad m ++ c
  unfolding Stands
  ciphertext-on c count long within xored =
      ciphertext-append variant (lane_before variant key nonce ad) m p c count long
      (λ i low. rw (← is.1, along-byte variant (lane_before variant key nonce ad) lane block (m ++ p) message_bytes i count begun (omega arith)) (xored i low))

-- ---- a message of no bytes so far, and a run without associated data

pub stands-begun : (variant : Variant) (lane : ℕ → List (List ℕ)) (updates : ℕ) (block : List ℕ) (ad_bytes : ℕ) (key nonce ad : List ℕ)
    → ad_bytes ≡ length ad → updates ≡ block_count variant (length ad)
    → ((j : ℕ) → j < variant.lanes → lane j ≡ lane_before variant key nonce ad j)
    → Stands variant (held_by variant lane updates block ad_bytes 0) key nonce ad []
unfolding Stands
stands-begun variant lane updates block ad_bytes key nonce ad long counted begun =
    grind (arith, zero-div, along-held, along-none)
