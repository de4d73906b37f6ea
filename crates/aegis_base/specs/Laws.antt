-- Laws of sealing, keystreams and MACs.
use Rattle.std.specs.Prelude.{◌≡◌, ℕ, ◌*◌, ◌/◌, ◌<◌, ◌≤◌, List, [], ◌∷◌, bit_xor, length, replicate, slice_index, take}
use Rattle.aegis_aes.specs.Block.{xor}
use Rattle.aegis_base.specs.Variant.{Family, Family128, Family256, Variant, rate}
use Rattle.aegis_base.specs.Lane.{first_blocks, high_half, lane_tag, low_half, init, init_turns, update, times}
use Rattle.aegis_base.specs.Mac.{mac, mac_lane}
use Rattle.aegis_base.specs.Message.{ciphertext, lane_of, seal, keystream, tag, xor_keystream}

-- a ciphertext is as long as its message
abbrev pub IsLengthKept : (variant : Variant) → Type 0
IsLengthKept variant = (key nonce ad m : List ℕ) → length (ciphertext variant key nonce ad m) ≡ length m

-- under one key, nonce and associated data no two messages have the same ciphertext
abbrev pub IsOneToOne : (variant : Variant) → Type 0
IsOneToOne variant =
    (key nonce ad m n : List ℕ) → ciphertext variant key nonce ad m ≡ ciphertext variant key nonce ad n → m ≡ n

-- a list of bytes
abbrev pub AreBytes : List ℕ → Type 0
AreBytes xs = (i : ℕ) → slice_index xs i < 256

-- under each key, nonce and associated data every list is the ciphertext of a message of its length, which is a list of
-- bytes if the key, the nonce, the associated data and the ciphertext are
abbrev pub IsOnto : (variant : Variant) → Type 0
IsOnto variant =
    (key nonce ad c : List ℕ)
    → (m : List ℕ) × (length m ≡ length c) × (ciphertext variant key nonce ad m ≡ c)
    × (AreBytes key → AreBytes nonce → AreBytes ad → AreBytes c → AreBytes m)

-- x and y have the same bytes at the places that belong to lane j of d
abbrev pub AgreeInLane : (d j : ℕ) (x y : List ℕ) → Type 0
AgreeInLane d j x y = (i : ℕ) → lane_of d i ≡ j → slice_index x i ≡ slice_index y i

-- the bytes of a ciphertext at a lane's places depend on no bytes of associated data and message at other lanes' places
abbrev pub AreLanesIndependent : (variant : Variant) → Type 0
AreLanesIndependent variant =
    (key nonce ad₁ ad₂ m n : List ℕ) (j : ℕ)
    → length ad₁ ≡ length ad₂ → AgreeInLane variant.lanes j ad₁ ad₂
    → length m ≡ length n → AgreeInLane variant.lanes j m n
    → AgreeInLane variant.lanes j (ciphertext variant key nonce ad₁ m) (ciphertext variant key nonce ad₂ n)

-- the ciphertext of a message's beginning is the beginning of its ciphertext
abbrev pub IsCiphertextPrefix : (variant : Variant) → Type 0
IsCiphertextPrefix variant =
    (key nonce ad m : List ℕ) (k : ℕ) → ciphertext variant key nonce ad (take k m) ≡ take k (ciphertext variant key nonce ad m)

-- under one key, nonce and associated data, if two messages of one length agree in the first n rate blocks, the next
-- rate block of both is xored with the same keystream: the xor of the ciphertexts there is the xor of the messages
abbrev pub IsKeystreamShared : (variant : Variant) → Type 0
IsKeystreamShared variant =
    (key nonce ad x y : List ℕ) (n i : ℕ)
    → length x ≡ length y → ((k : ℕ) → k < n * rate variant → slice_index x k ≡ slice_index y k) → i / rate variant ≡ n
    → bit_xor (slice_index (ciphertext variant key nonce ad x) i) (slice_index (ciphertext variant key nonce ad y) i)
    ≡ bit_xor (slice_index x i) (slice_index y i)

-- one turn of initialization, without context blocks
abbrev pub plain_turn : (family : Family) (key nonce : List ℕ) (s : List (List ℕ)) → List (List ℕ)
plain_turn Family128 key nonce s = update Family128 s (nonce ∷ key ∷ [])
plain_turn Family256 key nonce s =
    update Family256 (update Family256 (update Family256 (update Family256 s
    (low_half key ∷ []))
    (high_half key ∷ []))
    (xor (low_half key) (low_half nonce) ∷ []))
    (xor (high_half key) (high_half nonce) ∷ [])

-- the initialization of one lane is that without context blocks
abbrev pub IsInitPlain : (variant : Variant) → Type 0
IsInitPlain variant =
    (key nonce : List ℕ) → init variant key nonce 0
    ≡ times (init_turns variant.family) (plain_turn variant.family key nonce) (first_blocks variant.family key nonce)

-- a tag of n bytes has n bytes
abbrev pub HasTagLength : (variant : Variant) (tag_bytes : ℕ) → Type 0
HasTagLength variant tag_bytes = (key nonce ad m : List ℕ) → length (tag variant tag_bytes key nonce ad m) ≡ tag_bytes

-- a MAC of n bytes has n bytes
abbrev pub HasMacLength : (variant : Variant) (tag_bytes : ℕ) → Type 0
HasMacLength variant tag_bytes = (key nonce x : List ℕ) → length (mac variant tag_bytes key nonce x) ≡ tag_bytes

-- under one key and nonce, two inputs of one length that agree at lane 0's places, and for which the other lanes end
-- with the same tags, have the same MAC
abbrev pub IsMacOfTags : (variant : Variant) (tag_bytes : ℕ) → Type 0
IsMacOfTags variant tag_bytes =
    (key nonce x y : List ℕ)
    → length x ≡ length y → AgreeInLane variant.lanes 0 x y
    → ((j : ℕ) → 0 < j → j < variant.lanes
    → lane_tag variant.family tag_bytes (mac_lane variant tag_bytes key nonce x j)
    ≡ lane_tag variant.family tag_bytes (mac_lane variant tag_bytes key nonce y j))
    → mac variant tag_bytes key nonce x ≡ mac variant tag_bytes key nonce y

-- a shorter stream is the beginning of a longer one
abbrev pub IsKeystreamPrefix : (variant : Variant) → Type 0
IsKeystreamPrefix variant =
    (key nonce : List ℕ) (k n : ℕ) → k ≤ n → keystream variant key nonce k ≡ take k (keystream variant key nonce n)

-- xoring with the same stream again gives the message back
abbrev pub IsKeystreamUndone : (variant : Variant) → Type 0
IsKeystreamUndone variant =
    (key nonce m : List ℕ) → xor_keystream variant key nonce (xor_keystream variant key nonce m) ≡ m

-- for any length n of the tag, the stream is the ciphertext of zeros that are sealed without associated data
abbrev pub IsKeystreamSealedZeros : (variant : Variant) → Type 0
IsKeystreamSealedZeros variant =
    (key nonce : List ℕ) (n k : ℕ) → (seal variant n key nonce [] (replicate k 0)).0 ≡ keystream variant key nonce k
