-- A lane among the rows of a state.
use Rattle.std.specs.Prelude.{ℕ, List, [], ◌∷◌}
use Rattle.aegis_128.specs.declared.State128.{State128}

-- the rows of lane j, where `block` gives the block of a lane in the first or second row of a pair
abbrev pub lane : {P : Type 0} → (P → ℕ → ℕ → List ℕ) → State128 P → ℕ → List (List ℕ)
lane block s j =
    block s.s04 0 j ∷ block s.s15 0 j ∷ block s.s26 0 j ∷ block s.s37 0 j
    ∷ block s.s04 1 j ∷ block s.s15 1 j ∷ block s.s26 1 j ∷ block s.s37 1 j ∷ []
