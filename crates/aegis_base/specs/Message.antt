-- Sealing and opening: each lane alone takes in its share of the associated data and the message, and the lanes are
-- combined only in the xor of their tags. Each byte of the ciphertext is defined by itself. `lanes` has a lane's blocks.
use Rattle.std.specs.Prelude.{◌≡◌, ℕ, zero, suc, ◌+◌, ◌-◌, ◌*◌, ◌/◌, ◌%◌, List, [], ◌∷◌, bit_xor, length, map, replicate, slice_index}
use Rattle.std.specs.List.{range_with_len}
use Rattle.aegis_aes.specs.Block.{block_at, xor}
use Rattle.aegis_aes.specs.Lanes.{xor_lanes}
use Rattle.aegis_base.specs.Variant.{Family, Family128, Family256, Variant, rate}
use Rattle.aegis_base.specs.Lane.{finalize, keystream_blocks, lane_tag, block_in, init, update}

-- the blocks that lane j of d takes in of the rate block of x that begins at place i, with x padded with zeros
abbrev pub blocks_at : (family : Family) (d j : ℕ) (x : List ℕ) (i : ℕ) → List (List ℕ)
blocks_at Family128 d j x i = block_at x (i + 16 * j) ∷ block_at x (i + 16 * (d + j)) ∷ []
blocks_at Family256 d j x i = block_at x (i + 16 * j) ∷ []

abbrev pub share_at : (variant : Variant) (j : ℕ) (x : List ℕ) (i : ℕ) → List (List ℕ)
share_at variant j x i = blocks_at variant.family variant.lanes j x i

-- the blocks that lane j takes in of rate block n of x
abbrev pub share : (variant : Variant) (j n : ℕ) (x : List ℕ) → List (List ℕ)
share variant j n x = share_at variant j x (n * rate variant)

-- lane j, which was s, after the first n rate blocks of x
unfoldable pub lane_after : (variant : Variant) (s : List (List ℕ)) (j : ℕ) (x : List ℕ) (n : ℕ) → List (List ℕ)
lane_after variant s j x zero = s
lane_after variant s j x (suc n) = update variant.family (lane_after variant s j x n) (share variant j n x)

-- the number of rate blocks of n bytes, the last one perhaps in part
abbrev pub block_count : (variant : Variant) (n : ℕ) → ℕ
block_count variant n = (n + (rate variant - 1)) / rate variant

-- lane j, which was s, after all of x
abbrev pub after_all : (variant : Variant) (s : List (List ℕ)) (j : ℕ) (x : List ℕ) → List (List ℕ)
after_all variant s j x = lane_after variant s j x (block_count variant (length x))

-- the lane that byte i of a message belongs to
abbrev pub lane_of : (lanes i : ℕ) → ℕ
lane_of lanes i = i / 16 % lanes

-- byte i of the keystream, from the lanes before the rate block that it is in
abbrev pub keystream_byte : (variant : Variant) (lanes : ℕ → List (List ℕ)) (i : ℕ) → ℕ
keystream_byte variant lanes i =
    slice_index (block_in (keystream_blocks variant.family (lanes (lane_of variant.lanes i))) (i % rate variant / 16 / variant.lanes)) (i % 16)

-- byte i of the keystream along the message m, from the lanes before m
abbrev pub keystream_byte_along : (variant : Variant) (lanes : ℕ → List (List ℕ)) (m : List ℕ) (i : ℕ) → ℕ
keystream_byte_along variant lanes m i =
    keystream_byte variant (λ j. lane_after variant (lanes j) j m (i / rate variant)) i

-- byte i of the ciphertext of m, from the lanes before m
abbrev pub ciphertext_byte : (variant : Variant) (lanes : ℕ → List (List ℕ)) (m : List ℕ) (i : ℕ) → ℕ
ciphertext_byte variant lanes m i = bit_xor (slice_index m i) (keystream_byte_along variant lanes m i)

-- the ciphertext of m, from the lanes before m
unfoldable pub ciphertext_from : (variant : Variant) (lanes : ℕ → List (List ℕ)) (m : List ℕ) → List ℕ
ciphertext_from variant lanes m = map (ciphertext_byte variant lanes m) (range_with_len 0 (length m))

-- lane j after initialization and the associated data
abbrev pub lane_before : (variant : Variant) (key nonce ad : List ℕ) (j : ℕ) → List (List ℕ)
lane_before variant key nonce ad j = after_all variant (init variant key nonce j) j ad

-- the ciphertext of m
abbrev pub ciphertext : (variant : Variant) (key nonce ad m : List ℕ) → List ℕ
ciphertext variant key nonce ad m = ciphertext_from variant (lane_before variant key nonce ad) m

-- the first n bytes of the keystream of a key and a nonce: the ciphertext of n zeros, without associated data
abbrev pub keystream : (variant : Variant) (key nonce : List ℕ) (n : ℕ) → List ℕ
keystream variant key nonce n = ciphertext variant key nonce [] (replicate n 0)

-- a message xored with as many bytes of the keystream of a key and a nonce
abbrev pub xor_keystream : (variant : Variant) (key nonce m : List ℕ) → List ℕ
xor_keystream variant key nonce m = xor m (keystream variant key nonce (length m))

-- lane j after the message and its end
abbrev pub lane_end : (variant : Variant) (key nonce ad m : List ℕ) (j : ℕ) → List (List ℕ)
lane_end variant key nonce ad m j =
    finalize variant.family (after_all variant (lane_before variant key nonce ad j) j m) (8 * length ad) (8 * length m)

-- the tag of `tag_bytes` bytes: the xor of the lanes' tags
unfoldable pub tag : (variant : Variant) (tag_bytes : ℕ) (key nonce ad m : List ℕ) → List ℕ
tag variant tag_bytes key nonce ad m = xor_lanes (λ j. lane_tag variant.family tag_bytes (lane_end variant key nonce ad m j)) variant.lanes

-- the ciphertext, and the tag of `tag_bytes` bytes
abbrev pub seal : (variant : Variant) (tag_bytes : ℕ) (key nonce ad m : List ℕ) → List ℕ × List ℕ
seal variant tag_bytes key nonce ad m = (ciphertext variant key nonce ad m, tag variant tag_bytes key nonce ad m)

-- sealing m gives this ciphertext and tag
abbrev pub Opens : (variant : Variant) (tag_bytes : ℕ) (key nonce ad c t m : List ℕ) → Type 0
Opens variant tag_bytes key nonce ad c t m = seal variant tag_bytes key nonce ad m ≡ (c, t)

-- what each byte is after a decryption in place whose tag is wrong: 0xaa (the crate `aegis`)
abbrev pub erased_byte : ℕ
erased_byte = 170
