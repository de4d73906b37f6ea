-- A counter that is kept in a random-access file.
use Rattle.std.specs.Prelude.{ℕ, List}
use Rattle.std.specs.Int.{to_le_bytes, w64}

-- a number in 8 bytes, the lowest first
unfoldable pub counter_contents : ℕ → List ℕ
counter_contents n = to_le_bytes w64 n
