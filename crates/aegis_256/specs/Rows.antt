-- A lane among the rows of a state.
use Rattle.std.specs.Prelude.{ℕ, List, [], ◌∷◌}
use Rattle.aegis_256.specs.declared.State256.{State256}

-- the rows of lane j, where `block` gives the block of a lane in the first or second row of a pair
abbrev pub lane : {P : Type 0} → (P → ℕ → ℕ → List ℕ) → State256 P → ℕ → List (List ℕ)
lane block s j =
    block s.s03 0 j ∷ block s.s14 0 j ∷ block s.s25 0 j ∷ block s.s03 1 j ∷ block s.s14 1 j ∷ block s.s25 1 j ∷ []
