-- What the fold of the lanes' tags depends on, and the MAC from lanes that have taken in its input.
use Rattle.std.proofs.Common.{◌≡◌, ◌∙◌, sym, ap, refl, ℕ, zero, suc, ◌+◌, ◌-◌, ◌*◌, ◌<◌, ◌≤◌, ◌⊎◌, List, [], ◌∷◌, length, map, replicate, slice_index, arith, inl, inr}
use Rattle.std.specs.List.{concat, range_with_len}
use Rattle.std.proofs.lemmas.List.{get_or-replicate, length-replicate}
use Rattle.std.proofs.lemmas.Nat.{div-mul-add}
use Rattle.aegis_aes.specs.Lanes.{IsLaneCount, xor_lanes}
use Rattle.aegis_aes.specs.Block.{bytes_at}
use Rattle.aegis_aes.proofs.Places.{get_or-bytes_at, length-bytes_at}
use Rattle.aegis_base.specs.Variant.{Variant, rate}
use Rattle.aegis_base.specs.Lane.{IsTagLength, finalize, lane_tag, init, update}
use Rattle.aegis_base.specs.Laws.{AgreeInLane}
use Rattle.aegis_base.specs.Mac.{alone, first_folded, fold, mac, mac_input, mac_lane, mac_tag, tags_from}
use Rattle.aegis_base.specs.Message.{lane_after, after_all, block_count, share_at}
use Rattle.aegis_base.proofs.LaneFacts.{bytes_at-append, count_positive}
use Rattle.aegis_base.proofs.Lengths.{IsUpdated, IsWhole, after-updated, finalize-updated, finalize-whole, length-lane_tag, init-updated}
use Rattle.aegis_base.proofs.LaneIndependence.{after_all-in_lane}
use Rattle.aegis_base.proofs.MessageFacts.{rate-positive, share_at-same}

-- ---- the lanes' tags, one after the other

-- the tags from number a on, if each of n bytes lies in `bytes`
tags-are : (t : ℕ → List ℕ) (bytes : List ℕ) (n a m : ℕ) → ((j : ℕ) → a ≤ j → j < a + m → bytes_at bytes (n * j) n ≡ t j)
    → concat (map t (range_with_len a m)) ≡ bytes_at bytes (n * a) (m * n)
unfolding bytes_at
tags-are t bytes n a zero each = let none : 0 * n ≡ 0 = omega arith in rw none refl
tags-are t bytes n a (suc m) each =
    let rest = tags-are t bytes n (a + 1) m (λ j low high. each j (omega arith) (omega arith)) in
    let next : n * (a + 1) ≡ n * a + n = omega arith in
    let all : suc m * n ≡ n + m * n = omega arith in
    rw (← each a (omega arith) (omega arith), rest, next, all) (bytes_at-append bytes (n * a) n (m * n))

-- they depend only on the tags of the variant's own lanes
tags-same : (f g : ℕ → List ℕ) (a n : ℕ) → ((j : ℕ) → a ≤ j → j < a + n → f j ≡ g j)
    → concat (map f (range_with_len a n)) ≡ concat (map g (range_with_len a n))
tags-same f g a zero same = refl
tags-same f g a (suc n) same =
    let rest = tags-same f g (a + 1) n (λ j low high. same j (omega arith) (omega arith)) in
    rw (same a (omega arith) (omega arith), rest) refl

-- lanes with the same lane 0 and the same tags have the same MAC
pub mac_tag-by_tags : (variant : Variant) (n : ℕ) (f g : ℕ → List (List ℕ)) → f 0 ≡ g 0
    → ((j : ℕ) → j < variant.lanes → lane_tag variant.family n (f j) ≡ lane_tag variant.family n (g j))
    → mac_tag variant n f ≡ mac_tag variant n g
unfolding mac_tag tags_from
mac_tag-by_tags variant n f g first same =
    let k = first_folded variant.family n in
    let tags = tags-same (λ j. lane_tag variant.family n (f j)) (λ j. lane_tag variant.family n (g j)) k (variant.lanes - k) (λ j low high. same j (omega arith)) in
    rw (first, tags) refl

-- the same lanes have the same MAC
pub mac_tag-same : (variant : Variant) (n : ℕ) (f g : ℕ → List (List ℕ)) → IsLaneCount variant.lanes
    → ((j : ℕ) → j < variant.lanes → f j ≡ g j) → mac_tag variant n f ≡ mac_tag variant n g
mac_tag-same variant n f g count same =
    mac_tag-by_tags variant n f g (same 0 (count_positive variant.lanes count)) (λ j h. ap (lane_tag variant.family n) (same j h))

-- ---- the MAC of given lanes

pub mac_tag_one : (variant : Variant) (n : ℕ) (lanes : ℕ → List (List ℕ)) → variant.lanes ≡ 1
    → xor_lanes (λ j. lane_tag variant.family n (lanes j)) variant.lanes ≡ mac_tag variant n lanes
unfolding mac_tag xor_lanes
mac_tag_one variant n lanes e = rw e refl

-- with several lanes, from lane 0 after the fold and its end
pub mac_tag-folded : (variant : Variant) (n : ℕ) (lanes : ℕ → List (List ℕ)) → IsLaneCount variant.lanes → (variant.lanes ≡ 1 → ⊥)
    → lane_tag variant.family n (finalize variant.family (fold variant n lanes) variant.lanes (8 * n)) ≡ mac_tag variant n lanes
unfolding mac_tag
mac_tag-folded variant n lanes (inl one) more = absurd (more one)
mac_tag-folded variant n lanes (inr (inl two)) more = rw two refl
mac_tag-folded variant n lanes (inr (inr four)) more = rw four refl

-- lane 0 after `turns` updates by the tags, which lie in `bytes` one after the other
pub fold-is : (variant : Variant) (n : ℕ) (lanes : ℕ → List (List ℕ)) (bytes : List ℕ) (k turns : ℕ) (s : List (List ℕ))
    → k ≡ first_folded variant.family n → turns * rate (alone variant) ≡ (variant.lanes - k) * n
    → ((j : ℕ) → j < variant.lanes → bytes_at bytes (n * j) n ≡ lane_tag variant.family n (lanes j))
    → ((x : List ℕ) → ((i : ℕ) → i < turns * rate (alone variant) → slice_index x i ≡ slice_index bytes (n * k + i)) → s ≡ lane_after (alone variant) (lanes 0) 0 x turns)
    → s ≡ fold variant n lanes
unfolding tags_from
fold-is variant n lanes bytes k turns s first whole each along =
    let r : ℕ = rate (alone variant) in
    let positive : 0 < r = rate-positive (alone variant) (inl refl) in
    let x : List ℕ = tags_from variant n lanes k in
    let are : x ≡ bytes_at bytes (n * k) ((variant.lanes - k) * n) =
    tags-are (λ j. lane_tag variant.family n (lanes j)) bytes n k (variant.lanes - k) (λ j low high. each j (omega arith)) in
    let long : length x ≡ turns * r = ap length are ∙ length-bytes_at bytes (n * k) ((variant.lanes - k) * n) ∙ sym whole in
    let count : block_count (alone variant) (length x) ≡ turns = rw long (div-mul-add turns r (r - 1) (omega arith)) in
    rw (← first, count) (along x (λ i low. ap (λ (xs : List ℕ). slice_index xs i) are ∙ get_or-bytes_at bytes (n * k) ((variant.lanes - k) * n) i 0 (omega arith)))

-- ---- the MAC of an input

-- an input that is not empty is taken in as it is
pub mac_input-some : (variant : Variant) (x : List ℕ) → 0 < length x → mac_input variant x ≡ x
mac_input-some variant [] some = absurd (omega arith)
mac_input-some variant (byte ∷ rest) some = refl

-- with an empty input, a lane takes in one rate block of zeros, here those of z from place a on
pub mac_input-none : (variant : Variant) (s : List (List ℕ)) (j : ℕ) (z : List ℕ) (a : ℕ) → IsLaneCount variant.lanes → j < variant.lanes
    → ((k : ℕ) → k < rate variant → slice_index z (a + k) ≡ 0)
    → update variant.family s (share_at variant j z a) ≡ after_all variant s j (mac_input variant [])
unfolding lane_after
mac_input-none variant s j z a count inside zeros =
    let r : ℕ = rate variant in
    let positive : 0 < r = rate-positive variant count in
    let zero_at : (k : ℕ) → k < r → slice_index (replicate r 0) (0 * r + k) ≡ 0 =
    λ k h. get_or-replicate r (0 * r + k) 0 0 (omega arith) in
    let taken : share_at variant j z a ≡ share_at variant j (replicate r 0) (0 * r) =
    share_at-same variant j z (replicate r 0) a (0 * r) inside (λ k h. zeros k h ∙ sym (zero_at k h)) in
    let place : r + (r - 1) ≡ 1 * r + (r - 1) = omega arith in
    let one : block_count variant r ≡ 1 = rw place (div-mul-add 1 r (r - 1) (omega arith)) in
    let long : length (replicate r 0) ≡ r = length-replicate {A = ℕ} r 0 in
    rw (long, one, taken) refl

-- the MAC, from the lanes after the input; p and q are the lengths in bits
pub mac-is : (variant : Variant) (n : ℕ) (last ended : ℕ → List (List ℕ)) (key nonce x : List ℕ) (p q : ℕ) → IsLaneCount variant.lanes
    → ((j : ℕ) → j < variant.lanes → last j ≡ after_all variant (init variant key nonce j) j (mac_input variant x))
    → ((j : ℕ) → j < variant.lanes → ended j ≡ finalize variant.family (last j) p q) → p ≡ 8 * length x → q ≡ 8 * n
    → mac_tag variant n ended ≡ mac variant n key nonce x
unfolding mac
mac-is variant n last ended key nonce x p q count absorbed end e f = grind (arith, mac_tag-same)

-- ---- how long a MAC is

several-more : (d : ℕ) → (d ≡ 2) ⊎ (d ≡ 4) → d ≡ 1 → ⊥
several-more d (inl two) one = omega arith
several-more d (inr four) one = omega arith

-- with several lanes
length-folded : (variant : Variant) (n : ℕ) (lanes : ℕ → List (List ℕ)) → IsLaneCount variant.lanes → (variant.lanes ≡ 1 → ⊥)
    → IsTagLength n → IsUpdated variant.family (lanes 0) → length (mac_tag variant n lanes) ≡ n
length-folded variant n lanes count more is stepped =
    rw (← mac_tag-folded variant n lanes count more)
    (length-lane_tag variant.family n _ is (finalize-whole variant.family (fold variant n lanes) variant.lanes (8 * n) (after-updated (alone variant) (lanes 0) 0 _ _ stepped)))

length-mac_tag : (variant : Variant) (n : ℕ) (lanes : ℕ → List (List ℕ)) → IsLaneCount variant.lanes → IsTagLength n
    → IsWhole variant.family (lanes 0) → IsUpdated variant.family (lanes 0) → length (mac_tag variant n lanes) ≡ n
unfolding mac_tag
length-mac_tag variant n lanes (inl one) is whole stepped = rw one (length-lane_tag variant.family n (lanes 0) is whole)
length-mac_tag variant n lanes (inr several) is whole stepped =
    length-folded variant n lanes (inr several) (λ one. several-more variant.lanes several one) is stepped

mac_lane-whole : (variant : Variant) (n : ℕ) (key nonce x : List ℕ) (j : ℕ) → IsWhole variant.family (mac_lane variant n key nonce x j)
mac_lane-whole variant n key nonce x j =
    finalize-whole variant.family _ _ _ (after-updated variant _ j (mac_input variant x) _ (init-updated variant key nonce j))

pub length_mac : (variant : Variant) (n : ℕ) (key nonce x : List ℕ) → IsLaneCount variant.lanes → IsTagLength n
    → length (mac variant n key nonce x) ≡ n
unfolding mac
length_mac variant n key nonce x count is = grind (arith, length-mac_tag, mac_lane-whole, finalize-updated)

-- ---- inputs that agree in lane 0

mac_input-in_lane : (variant : Variant) (j : ℕ) (x y : List ℕ) → length x ≡ length y → AgreeInLane variant.lanes j x y
    → AgreeInLane variant.lanes j (mac_input variant x) (mac_input variant y)
mac_input-in_lane variant j [] [] long agree = λ i h. refl
mac_input-in_lane variant j [] (b ∷ y) long agree = absurd (omega (arith, long))
mac_input-in_lane variant j (a ∷ x) [] long agree = absurd (omega (arith, long))
mac_input-in_lane variant j (a ∷ x) (b ∷ y) long agree = agree

length-mac_input : (variant : Variant) (x y : List ℕ) → length x ≡ length y
    → length (mac_input variant x) ≡ length (mac_input variant y)
length-mac_input variant [] [] long = refl
length-mac_input variant [] (b ∷ y) long = absurd (omega (arith, long))
length-mac_input variant (a ∷ x) [] long = absurd (omega (arith, long))
length-mac_input variant (a ∷ x) (b ∷ y) long = long

mac_lane-same : (variant : Variant) (n : ℕ) (key nonce x y : List ℕ) (j : ℕ) → IsLaneCount variant.lanes → j < variant.lanes → length x ≡ length y
    → AgreeInLane variant.lanes j x y → mac_lane variant n key nonce x j ≡ mac_lane variant n key nonce y j
mac_lane-same variant n key nonce x y j count inside long agree =
    grind (arith, after_all-in_lane, length-mac_input, mac_input-in_lane)

pub mac_of_tags : (variant : Variant) (n : ℕ) (key nonce x y : List ℕ) → IsLaneCount variant.lanes → IsTagLength n → length x ≡ length y
    → AgreeInLane variant.lanes 0 x y
    → ((j : ℕ) → 0 < j → j < variant.lanes → lane_tag variant.family n (mac_lane variant n key nonce x j) ≡ lane_tag variant.family n (mac_lane variant n key nonce y j))
    → mac variant n key nonce x ≡ mac variant n key nonce y
unfolding mac
mac_of_tags variant n key nonce x y count is long agree same =
    let first = mac_lane-same variant n key nonce x y 0 count (count_positive variant.lanes count) long agree in
    mac_tag-by_tags variant n (mac_lane variant n key nonce x) (mac_lane variant n key nonce y) first each
  where
    each : (j : ℕ) → j < variant.lanes → lane_tag variant.family n (mac_lane variant n key nonce x j) ≡ lane_tag variant.family n (mac_lane variant n key nonce y j)
    each zero h = ap (lane_tag variant.family n) (mac_lane-same variant n key nonce x y 0 count h long agree)
    each (suc j) h = same (suc j) (omega arith) h
