-- Two or four blocks side by side.
use Rattle.std.specs.Prelude.{ℕ, zero, suc, List}

-- block j of two: the first if j is 0, and otherwise the second
abbrev pub block_of_two : List ℕ × List ℕ → ℕ → List ℕ
block_of_two b zero = b.0
block_of_two b (suc _) = b.1

-- block j of four: the fourth if j is 3 or more
abbrev pub block_of_four : List ℕ × List ℕ × List ℕ × List ℕ → ℕ → List ℕ
block_of_four b zero = b.0
block_of_four b (suc zero) = b.1
block_of_four b (suc (suc zero)) = b.2
block_of_four b (suc (suc (suc _))) = b.3

-- f of the first blocks, and f of the second blocks
abbrev pub each_of_two : (List ℕ → List ℕ → List ℕ) → List ℕ × List ℕ → List ℕ × List ℕ → List ℕ × List ℕ
each_of_two f a b = (f a.0 b.0, f a.1 b.1)

-- the same for four blocks
abbrev pub each_of_four :
    (List ℕ → List ℕ → List ℕ) →
    List ℕ × List ℕ × List ℕ × List ℕ → List ℕ × List ℕ × List ℕ × List ℕ → List ℕ × List ℕ × List ℕ × List ℕ
each_of_four f a b = (f a.0 b.0, f a.1 b.1, f a.2 b.2, f a.3 b.3)
