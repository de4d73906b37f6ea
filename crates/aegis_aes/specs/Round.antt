-- One round of AES on a block, the key added last (FIPS 197, 5.1.1 to 5.1.4). Byte 4c + r of a block is row r of column c.
use Rattle.std.specs.Prelude.{ℕ, ◌+◌, ◌-◌, ◌*◌, ◌/◌, ◌%◌, ◌^◌, List, [], ◌∷◌, bit_xor, map, slice_index, sum}
use Rattle.std.specs.List.{range_with_len}
use Rattle.aegis_aes.specs.Field.{inverse, mul}

-- bit i of a byte, i modulo 8
abbrev pub bit : ℕ → ℕ → ℕ
bit a i = a / 2 ^ (i % 8) % 2

-- bit i of SubBytes, from the inverse b of the byte
abbrev pub affine_bit : ℕ → ℕ → ℕ
affine_bit b i =
    bit_xor (bit b i) (bit_xor (bit b (i + 4)) (bit_xor (bit b (i + 5)) (bit_xor (bit b (i + 6)) (bit_xor (bit b (i + 7)) (bit 0x63 i)))))

-- the affine map of SubBytes
unfoldable pub affine : ℕ → ℕ
affine b = sum (map (λ i. affine_bit b i * 2 ^ i) (range_with_len 0 8))

-- SubBytes of one byte
unfoldable pub substitute : ℕ → ℕ
substitute a = affine (inverse a)

-- entry i of row r of the matrix of MixColumns: row 0 is (2 3 1 1), and each row is the one before, rotated right by one
abbrev pub weight : ℕ → ℕ → ℕ
weight r i = slice_index (2 ∷ 3 ∷ 1 ∷ 1 ∷ []) ((i + 4 - r) % 4)

-- SubBytes of a block
unfoldable pub sub_bytes : List ℕ → List ℕ
sub_bytes b = map substitute b

-- row i of column c after ShiftRows
abbrev pub shifted : List ℕ → ℕ → ℕ → ℕ
shifted b c i = slice_index b (4 * ((c + i) % 4) + i)

-- row r, after MixColumns, of a column whose rows are s0, s1, s2 and s3
abbrev pub mixed : ℕ → ℕ → ℕ → ℕ → ℕ → ℕ
mixed s0 s1 s2 s3 r =
    bit_xor (bit_xor (bit_xor (mul s0 (weight r 0)) (mul s1 (weight r 1))) (mul s2 (weight r 2))) (mul s3 (weight r 3))

-- row r of column c after ShiftRows and MixColumns, with the key added
abbrev pub complete_byte : List ℕ → List ℕ → ℕ → ℕ → ℕ
complete_byte b k c r =
    bit_xor (mixed (shifted b c 0) (shifted b c 1) (shifted b c 2) (shifted b c 3) r) (slice_index k (4 * c + r))

-- a round after SubBytes: ShiftRows, MixColumns and AddRoundKey
unfoldable pub complete_round : List ℕ → List ℕ → List ℕ
complete_round b k = map (λ n. complete_byte b k (n / 4) (n % 4)) (range_with_len 0 16)

-- a round of AES on the block b with the key k
unfoldable pub round : List ℕ → List ℕ → List ℕ
round b k = complete_round (sub_bytes b) k
