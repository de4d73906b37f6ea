-- Contexts: lanes that take in bytes, which come in pieces of any lengths. A rate block is taken in as soon as it is
-- full; the bytes after the last full one wait in the open block.
use Rattle.std.specs.Prelude.{◌≡◌, ℕ, ◌+◌, ◌*◌, ◌/◌, ◌%◌, ◌<◌, ◌++◌, ◌↔◌, List, [], length, map, slice_index, slice_index_or}
use Rattle.std.specs.List.{range_with_len}
use Rattle.aegis_base.specs.Variant.{Variant, rate}
use Rattle.aegis_base.specs.Message.{Opens, lane_after, block_count, ciphertext, lane_before, tag}

-- after the first t bytes of x, `lanes` have become `here`, and the open block is `block`
pub record IsAlong (variant : Variant) (lanes here : ℕ → List (List ℕ)) (block x : List ℕ) (t : ℕ) : Type 0 where
  pub whole : (j : ℕ) → j < variant.lanes → here j ≡ lane_after variant (lanes j) j x (t / rate variant)
  pub open_block : (k : ℕ) → k < t % rate variant → slice_index block k ≡ slice_index x (t / rate variant * rate variant + k)

-- lanes 0 to n - 1 as a list, and lane j of such a list
unfoldable pub lanes_of : (n : ℕ) (lane : ℕ → List (List ℕ)) → List (List (List ℕ))
lanes_of n lane = map lane (range_with_len 0 n)

abbrev pub lane_in : (lanes : List (List (List ℕ))) (j : ℕ) → List (List ℕ)
lane_in lanes j = slice_index_or lanes j []

-- the values that seal or open a message: the lanes, the number of their updates since initialization, the open block,
-- and the numbers of bytes of associated data and of the message that were taken in
pub record Held : Type 0 where
  pub lanes : List (List (List ℕ))
  pub updates : ℕ
  pub block : List ℕ
  pub ad_bytes : ℕ
  pub message_bytes : ℕ

abbrev pub held_by : (variant : Variant) (lane : ℕ → List (List ℕ)) (updates : ℕ) (block : List ℕ) (ad_bytes message_bytes : ℕ) → Held
held_by variant lane updates block ad_bytes message_bytes =
    record { lanes = lanes_of variant.lanes lane; updates = updates; block = block; ad_bytes = ad_bytes; message_bytes = message_bytes }

-- h stands for this key, nonce, associated data and message so far: the counts are theirs, and the lanes and the open
-- block are those after initialization, the associated data and the message
unfoldable pub Stands : (variant : Variant) (h : Held) (key nonce ad m : List ℕ) → Type 0
Stands variant h key nonce ad m =
    (h.ad_bytes ≡ length ad)
    × (h.message_bytes ≡ length m)
    × (h.updates ≡ block_count variant (length ad) + length m / rate variant)
    × IsAlong variant (lane_before variant key nonce ad) (lane_in h.lanes) h.block m (length m)

-- if `old` stands for some message, `new` stands for it with these bytes appended
abbrev pub Takes : (variant : Variant) (old new : Held) (bytes : List ℕ) → Type 0
Takes variant old new bytes =
    (key nonce ad m : List ℕ) → Stands variant old key nonce ad m → Stands variant new key nonce ad (m ++ bytes)

-- the ciphertext of the message so far continues with `out` if the message continues with these bytes
abbrev pub Encrypts : (variant : Variant) (old : Held) (bytes out : List ℕ) → Type 0
Encrypts variant old bytes out =
    (key nonce ad m : List ℕ) → Stands variant old key nonce ad m
    → ciphertext variant key nonce ad (m ++ bytes) ≡ ciphertext variant key nonce ad m ++ out

-- if `old` stands for the message `before`, `new` stands for the message `after`
abbrev pub Continues : (variant : Variant) (old : Held) (before : List ℕ) (new : Held) (after : List ℕ) → Type 0
Continues variant old before new after =
    (key nonce ad : List ℕ) → Stands variant old key nonce ad before → Stands variant new key nonce ad after

-- if `old` stands for the message `before`, the ciphertext of `after` is that of `before` and then this chunk
abbrev pub Decrypts : (variant : Variant) (old : Held) (before chunk after : List ℕ) → Type 0
Decrypts variant old before chunk after =
    (key nonce ad : List ℕ) → Stands variant old key nonce ad before
    → ciphertext variant key nonce ad after ≡ ciphertext variant key nonce ad before ++ chunk

-- if h stands for the message m, P holds exactly if t is the tag of m
abbrev pub IsTagged : (variant : Variant) (tag_bytes : ℕ) (h : Held) (m t : List ℕ) (P : Type 0) → Type 0
IsTagged variant tag_bytes h m t P =
    (key nonce ad : List ℕ) → Stands variant h key nonce ad m → P ↔ (t ≡ tag variant tag_bytes key nonce ad m)

-- if h stands for the message m, and some message is sealed to the ciphertext of m and the tag t, P holds
abbrev pub IsAccepted : (variant : Variant) (tag_bytes : ℕ) (h : Held) (m t : List ℕ) (P : Type 0) → Type 0
IsAccepted variant tag_bytes h m t P =
    (key nonce ad opened : List ℕ) → Stands variant h key nonce ad m
    → Opens variant tag_bytes key nonce ad (ciphertext variant key nonce ad m) t opened → P

-- the value of a cipher: a key and a nonce
pub record KeyAndNonce : Type 0 where
  pub key : List ℕ
  pub nonce : List ℕ
