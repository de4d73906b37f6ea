-- Blocks: lists of sixteen bytes.
use Rattle.std.specs.Prelude.{ℕ, zero, suc, ◌+◌, List, [], ◌∷◌, bit_and, bit_xor, slice_index}
use Rattle.std.specs.Simd.Lanes.{zip2}

-- the xor of two blocks, byte by byte
abbrev pub xor : List ℕ → List ℕ → List ℕ
xor a b = zip2 bit_xor a b

-- the and of two blocks, byte by byte
abbrev pub and : List ℕ → List ℕ → List ℕ
and a b = zip2 bit_and a b

-- the n bytes of a list from place i on, with zeros past its end
unfoldable pub bytes_at : List ℕ → ℕ → ℕ → List ℕ
bytes_at xs i zero = []
bytes_at xs i (suc n) = slice_index xs i ∷ bytes_at xs (i + 1) n

-- the block from place i on, with zeros past the list's end
abbrev pub block_at : List ℕ → ℕ → List ℕ
block_at xs i = bytes_at xs i 16
