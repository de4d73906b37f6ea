-- Blocks side by side, and moves of bytes within each block.
use Rattle.std.specs.Prelude.{◌≡◌, ◌⊎◌, ℕ, ◌+◌, ◌*◌, ◌/◌, ◌%◌, ◌<◌, List, nat_le, if◌then◌else◌, slice_index}
use Rattle.std.specs.Simd.Lanes.{Each1}
use Rattle.aegis_aes.specs.Round.{mixed}

-- the number of bytes of one block, or of two
abbrev pub IsWidth : ℕ → Type 0
IsWidth n = (n ≡ 16) ⊎ (n ≡ 32)

-- a place in a table of 16 entries, or one of 128 or more, for which a look-up gives 0
abbrev pub IsPlace : ℕ → Type 0
IsPlace j = j % 128 < 16

pub record ArePlaces (at : List ℕ) : Type 0 where
  pub each : Each1 IsPlace at

-- entry j of a table of 16, or 0 if j is 128 or more
abbrev pub table_entry : List ℕ → ℕ → ℕ
table_entry table j = if nat_le 128 j then 0 else slice_index table j

-- the same, with the block that contains byte i as the table
abbrev pub entry_beside : List ℕ → ℕ → ℕ → ℕ
entry_beside from i j = if nat_le 128 j then 0 else slice_index from (16 * (i / 16) + j)

-- row k, after ShiftRows, of the column that contains byte i
abbrev pub shifted_row : List ℕ → ℕ → ℕ → ℕ
shifted_row s i k = slice_index s (16 * (i / 16) + (4 * ((i % 16 / 4 + k) % 4) + k))

-- byte i after ShiftRows and MixColumns
abbrev pub mixed_at : List ℕ → ℕ → ℕ
mixed_at s i = mixed (shifted_row s i 0) (shifted_row s i 1) (shifted_row s i 2) (shifted_row s i 3) (i % 4)
