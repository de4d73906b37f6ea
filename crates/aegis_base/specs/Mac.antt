-- MACs: each lane alone takes in its share of the input; lane 0 then takes in the lanes' tags. `lanes` has a lane's blocks.
use Rattle.std.specs.Prelude.{ℕ, ◌-◌, ◌*◌, ◌==◌, List, [], ◌∷◌, if◌then◌else◌, length, map, replicate}
use Rattle.std.specs.List.{concat, range_with_len}
use Rattle.aegis_base.specs.Variant.{Family, Family128, Family256, Variant, rate}
use Rattle.aegis_base.specs.Lane.{finalize, lane_tag, init}
use Rattle.aegis_base.specs.Message.{after_all}

-- what the lanes take in: the input x, or a rate block of zeros if it is empty
abbrev pub mac_input : (variant : Variant) (x : List ℕ) → List ℕ
mac_input variant [] = replicate (rate variant) 0
mac_input variant (byte ∷ rest) = byte ∷ rest

-- lane j after the input x and its end, with the lengths in bits of x and of a MAC of n bytes
abbrev pub mac_lane : (variant : Variant) (tag_bytes : ℕ) (key nonce x : List ℕ) (j : ℕ) → List (List ℕ)
mac_lane variant tag_bytes key nonce x j =
    finalize variant.family (after_all variant (init variant key nonce j) j (mac_input variant x)) (8 * length x) (8 * tag_bytes)

-- the first of the lanes whose tags are folded: lane 0, if two tags fill a rate block of one lane, and otherwise lane 1
abbrev pub first_folded : (family : Family) (tag_bytes : ℕ) → ℕ
first_folded Family128 tag_bytes = if tag_bytes == 16 then 0 else 1
first_folded Family256 tag_bytes = 1

-- the tags of n bytes of the lanes from number k on, one after the other
unfoldable pub tags_from : (variant : Variant) (tag_bytes : ℕ) (lanes : ℕ → List (List ℕ)) (k : ℕ) → List ℕ
tags_from variant tag_bytes lanes k = concat (map (λ j. lane_tag variant.family tag_bytes (lanes j)) (range_with_len k (variant.lanes - k)))

-- the variant of one lane alone
abbrev pub alone : Variant → Variant
alone variant = record { family = variant.family; lanes = 1 }

-- lane 0 after the fold of the lanes' tags of n bytes: it takes them in, as one lane alone takes in an input
abbrev pub fold : (variant : Variant) (tag_bytes : ℕ) (lanes : ℕ → List (List ℕ)) → List (List ℕ)
fold variant tag_bytes lanes = after_all (alone variant) (lanes 0) 0 (tags_from variant tag_bytes lanes (first_folded variant.family tag_bytes))

-- the MAC of n bytes, from the lanes after their end: the tag of a single lane, and with more lanes the tag of lane 0
-- after the fold and a second end, with the number of lanes and the MAC's length in bits
unfoldable pub mac_tag : (variant : Variant) (tag_bytes : ℕ) (lanes : ℕ → List (List ℕ)) → List ℕ
mac_tag variant tag_bytes lanes =
    lane_tag variant.family tag_bytes (if variant.lanes == 1 then lanes 0 else finalize variant.family (fold variant tag_bytes lanes) variant.lanes (8 * tag_bytes))

-- the MAC of n bytes of the input x under a key and a nonce
unfoldable pub mac : (variant : Variant) (tag_bytes : ℕ) (key nonce x : List ℕ) → List ℕ
mac variant tag_bytes key nonce x = mac_tag variant tag_bytes (mac_lane variant tag_bytes key nonce x)
