-- Lanes side by side, numbered from 0.
use Rattle.std.specs.Prelude.{◌≡◌, ℕ, zero, suc, ◌-◌, List, [], ◌∷◌, ◌⊎◌, replicate}
use Rattle.aegis_aes.specs.Block.{xor}

-- the lane counts of AEGIS
abbrev pub IsLaneCount : ℕ → Type 0
IsLaneCount d = (d ≡ 1) ⊎ ((d ≡ 2) ⊎ (d ≡ 4))

-- the context block of lane j of d (AEGIS specification, Init of AEGIS-128X and -256X): its number, the last one's, and zeros
abbrev pub context_block : ℕ → ℕ → List ℕ
context_block j d = j ∷ (d - 1) ∷ replicate 14 0

-- the xor of f 0 to f (d - 1), the blocks of the first d lanes
unfoldable pub xor_lanes : (ℕ → List ℕ) → ℕ → List ℕ
xor_lanes f zero = []
xor_lanes f (suc zero) = f zero
xor_lanes f (suc (suc d)) = xor (xor_lanes f (suc d)) (f (suc d))
