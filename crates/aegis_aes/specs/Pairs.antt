-- Two rows in one value.
use Rattle.std.specs.Prelude.{ℕ, zero, suc}
use Rattle.aegis_aes.specs.declared.pair.Rows2.{Rows2}

-- row h of two: the first if h is 0, and otherwise the second
abbrev pub row_of_two : {R : Type 0} → Rows2 R → ℕ → R
row_of_two p zero = p.first
row_of_two p (suc _) = p.second
