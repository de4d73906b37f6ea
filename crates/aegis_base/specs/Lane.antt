-- One lane of AEGIS, alone: the list of its blocks, S0 to S7 in the family 128 and S0 to S5 in the family 256.
use Rattle.std.specs.Prelude.{◌≡◌, ℕ, zero, suc, ◌==◌, ◌⊎◌, List, [], ◌∷◌, ◌++◌, take, drop, if◌then◌else◌, slice_index_or}
use Rattle.std.specs.Int.{w64, to_le_bytes}
use Rattle.aegis_aes.specs.Block.{and, xor}
use Rattle.aegis_aes.specs.Lanes.{context_block}
use Rattle.aegis_aes.specs.Round.{round}
use Rattle.aegis_base.specs.Variant.{Family, Family128, Family256, Variant, long_tag_bytes}

-- block Si of a lane, or block i of any list of blocks
abbrev pub block_in : List (List ℕ) → ℕ → List ℕ
block_in s i = slice_index_or s i []

-- the constants C0 and C1 (AEGIS): the first 32 Fibonacci numbers, modulo 256
abbrev pub c0 : List ℕ
c0 = 0x00 ∷ 0x01 ∷ 0x01 ∷ 0x02 ∷ 0x03 ∷ 0x05 ∷ 0x08 ∷ 0x0d ∷ 0x15 ∷ 0x22 ∷ 0x37 ∷ 0x59 ∷ 0x90 ∷ 0xe9 ∷ 0x79 ∷ 0x62 ∷ []

abbrev pub c1 : List ℕ
c1 = 0xdb ∷ 0x3d ∷ 0x18 ∷ 0x55 ∷ 0x6d ∷ 0xc2 ∷ 0x2f ∷ 0xf1 ∷ 0x20 ∷ 0x11 ∷ 0x31 ∷ 0x42 ∷ 0x73 ∷ 0xb5 ∷ 0x28 ∷ 0xdd ∷ []

-- the lane s after one update by the blocks m (AEGIS, Update)
abbrev pub update : Family → List (List ℕ) → List (List ℕ) → List (List ℕ)
update Family128 s m =
    xor (round (block_in s 7) (block_in s 0)) (block_in m 0)
    ∷ round (block_in s 0) (block_in s 1)
    ∷ round (block_in s 1) (block_in s 2)
    ∷ round (block_in s 2) (block_in s 3)
    ∷ xor (round (block_in s 3) (block_in s 4)) (block_in m 1)
    ∷ round (block_in s 4) (block_in s 5)
    ∷ round (block_in s 5) (block_in s 6)
    ∷ round (block_in s 6) (block_in s 7)
    ∷ []
update Family256 s m =
    xor (round (block_in s 5) (block_in s 0)) (block_in m 0)
    ∷ round (block_in s 0) (block_in s 1)
    ∷ round (block_in s 1) (block_in s 2)
    ∷ round (block_in s 2) (block_in s 3)
    ∷ round (block_in s 3) (block_in s 4)
    ∷ round (block_in s 4) (block_in s 5)
    ∷ []

-- the lane with the context block c xored into two of its blocks, as before each update of initialization
abbrev pub add_context : Family → List ℕ → List (List ℕ) → List (List ℕ)
add_context Family128 c s =
    block_in s 0 ∷ block_in s 1 ∷ block_in s 2 ∷ xor (block_in s 3) c ∷ block_in s 4 ∷ block_in s 5 ∷ block_in s 6 ∷ xor (block_in s 7) c ∷ []
add_context Family256 c s = block_in s 0 ∷ block_in s 1 ∷ block_in s 2 ∷ xor (block_in s 3) c ∷ block_in s 4 ∷ xor (block_in s 5) c ∷ []

-- f applied n times
abbrev pub times : ℕ → (List (List ℕ) → List (List ℕ)) → List (List ℕ) → List (List ℕ)
times zero f s = s
times (suc n) f s = f (times n f s)

-- the halves of a key or nonce of 32 bytes
abbrev pub low_half : List ℕ → List ℕ
low_half bytes = take 16 bytes

abbrev pub high_half : List ℕ → List ℕ
high_half bytes = drop 16 bytes

-- the blocks of a lane before the updates of initialization (AEGIS, Init)
abbrev pub first_blocks : Family → List ℕ → List ℕ → List (List ℕ)
first_blocks Family128 key nonce =
    xor key nonce ∷ c1 ∷ c0 ∷ c1 ∷ xor key nonce ∷ xor key c0 ∷ xor key c1 ∷ xor key c0 ∷ []
first_blocks Family256 key nonce =
    xor (low_half key) (low_half nonce) ∷ xor (high_half key) (high_half nonce) ∷ c1 ∷ c0
    ∷ xor (low_half key) c0 ∷ xor (high_half key) c1 ∷ []

-- one turn of initialization with the context block c: in the family 128 an update by the nonce and the key, and in the
-- family 256 four updates, by the two halves of the key and then by their xors with the halves of the nonce
abbrev pub init_turn : Family → List ℕ → List ℕ → List ℕ → List (List ℕ) → List (List ℕ)
init_turn Family128 key nonce c s = update Family128 (add_context Family128 c s) (nonce ∷ key ∷ [])
init_turn Family256 key nonce c s =
    update Family256 (add_context Family256 c
    (update Family256 (add_context Family256 c
    (update Family256 (add_context Family256 c
    (update Family256 (add_context Family256 c s)
    (low_half key ∷ [])))
    (high_half key ∷ [])))
    (xor (low_half key) (low_half nonce) ∷ [])))
    (xor (high_half key) (high_half nonce) ∷ [])

-- how many turns initialization has
abbrev pub init_turns : Family → ℕ
init_turns Family128 = 10
init_turns Family256 = 4

-- lane j after initialization with a key and a nonce (AEGIS, Init)
unfoldable pub init : (variant : Variant) (key nonce : List ℕ) (j : ℕ) → List (List ℕ)
init variant key nonce j =
    times (init_turns variant.family) (init_turn variant.family key nonce (context_block j variant.lanes))
    (first_blocks variant.family key nonce)

-- the blocks of keystream of a lane (AEGIS, Enc)
abbrev pub keystream_blocks : Family → List (List ℕ) → List (List ℕ)
keystream_blocks Family128 s =
    xor (xor (block_in s 6) (block_in s 1)) (and (block_in s 2) (block_in s 3))
    ∷ xor (xor (block_in s 2) (block_in s 5)) (and (block_in s 6) (block_in s 7))
    ∷ []
keystream_blocks Family256 s = xor (xor (block_in s 1) (block_in s 4)) (xor (block_in s 5) (and (block_in s 2) (block_in s 3))) ∷ []

-- two numbers of bits in a block, each in eight bytes, least first
abbrev pub bit_lengths : ℕ → ℕ → List ℕ
bit_lengths p q = to_le_bytes w64 p ++ to_le_bytes w64 q

-- the input of a lane's last updates: one of its blocks, xored with two numbers of bits
abbrev pub last_block : Family → List (List ℕ) → ℕ → ℕ → List ℕ
last_block Family128 s p q = xor (block_in s 2) (bit_lengths p q)
last_block Family256 s p q = xor (block_in s 3) (bit_lengths p q)

-- that block as each block of an update's input
abbrev pub last_input : Family → List ℕ → List (List ℕ)
last_input Family128 block = block ∷ block ∷ []
last_input Family256 block = block ∷ []

-- the lane s after its end: seven updates by that block (AEGIS, Finalize)
unfoldable pub finalize : Family → List (List ℕ) → ℕ → ℕ → List (List ℕ)
finalize family s p q = times 7 (λ r. update family r (last_input family (last_block family s p q))) s

-- the tag of a lane in 16 bytes, and the halves of its tag in 32 bytes (AEGIS, Finalize)
abbrev pub short_tag : Family → List (List ℕ) → List ℕ
short_tag Family128 s =
    xor (xor (xor (block_in s 0) (block_in s 1)) (xor (block_in s 2) (block_in s 3))) (xor (xor (block_in s 4) (block_in s 5)) (block_in s 6))
short_tag Family256 s = xor (xor (xor (block_in s 0) (block_in s 1)) (block_in s 2)) (xor (xor (block_in s 3) (block_in s 4)) (block_in s 5))

abbrev pub low_tag : Family → List (List ℕ) → List ℕ
low_tag Family128 s = xor (xor (block_in s 0) (block_in s 1)) (xor (block_in s 2) (block_in s 3))
low_tag Family256 s = xor (xor (block_in s 0) (block_in s 1)) (block_in s 2)

abbrev pub high_tag : Family → List (List ℕ) → List ℕ
high_tag Family128 s = xor (xor (block_in s 4) (block_in s 5)) (xor (block_in s 6) (block_in s 7))
high_tag Family256 s = xor (xor (block_in s 3) (block_in s 4)) (block_in s 5)

-- the tag of a lane, in n bytes
abbrev pub lane_tag : Family → ℕ → List (List ℕ) → List ℕ
lane_tag family n s = if n == 16 then short_tag family s else low_tag family s ++ high_tag family s

-- the lengths of tags, in bytes
abbrev pub IsTagLength : ℕ → Type 0
IsTagLength n = (n ≡ 16) ⊎ (n ≡ long_tag_bytes)
