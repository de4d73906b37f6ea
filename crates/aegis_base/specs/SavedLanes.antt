-- Saved lanes: the rows of a state as bytes.
use Rattle.std.specs.Prelude.{ℕ, ◌+◌, ◌*◌, List, [], ◌∷◌}
use Rattle.aegis_aes.specs.Block.{block_at}
use Rattle.aegis_base.specs.Variant.{Family, Family128, Family256, Variant}
use Rattle.aegis_base.specs.declared.saved.SavedRows.{SavedRows}

-- the block of lane j in row h of a saved pair, the first (0) or the second (1)
abbrev pub saved_block : (lanes : ℕ) (pair : List ℕ) (h j : ℕ) → List ℕ
saved_block lanes pair h j = block_at pair (16 * (h * lanes + j))

abbrev pub saved_blocks : (family : Family) (lanes : ℕ) (rows : SavedRows) (j : ℕ) → List (List ℕ)
saved_blocks Family128 lanes rows j =
    saved_block lanes rows.first_pair 0 j ∷ saved_block lanes rows.second_pair 0 j
    ∷ saved_block lanes rows.third_pair 0 j ∷ saved_block lanes rows.fourth_pair 0 j
    ∷ saved_block lanes rows.first_pair 1 j ∷ saved_block lanes rows.second_pair 1 j
    ∷ saved_block lanes rows.third_pair 1 j ∷ saved_block lanes rows.fourth_pair 1 j ∷ []
saved_blocks Family256 lanes rows j =
    saved_block lanes rows.first_pair 0 j ∷ saved_block lanes rows.second_pair 0 j ∷ saved_block lanes rows.third_pair 0 j
    ∷ saved_block lanes rows.first_pair 1 j ∷ saved_block lanes rows.second_pair 1 j ∷ saved_block lanes rows.third_pair 1 j ∷ []

-- the blocks of lane j in saved rows
abbrev pub saved_lane : (variant : Variant) (rows : SavedRows) (j : ℕ) → List (List ℕ)
saved_lane variant rows j = saved_blocks variant.family variant.lanes rows j
