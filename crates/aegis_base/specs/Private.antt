-- What the bodies and their proofs use, and no public contract.
use Rattle.std.specs.Prelude.{◌≡◌, ℕ, ◌+◌, ◌%◌, ◌<◌, List, length, slice_index}

-- if there are more blocks, no rate block of r bytes is open after t bytes
abbrev pub IsUnopened : ℕ → ℕ → ℕ → Type 0
IsUnopened t more r = 0 < more → t % r ≡ 0

-- x has the bytes xs from place t on
abbrev pub HasFrom : List ℕ → ℕ → List ℕ → Type 0
HasFrom x t xs = (i : ℕ) → i < length xs → slice_index x (t + i) ≡ slice_index xs i
