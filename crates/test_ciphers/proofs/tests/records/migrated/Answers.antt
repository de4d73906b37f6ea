-- The prefixes differ in their first byte.
use Rattle.std.proofs.Common.{◌≡◌, ℕ, List, ap, arith, get_or, refl}
use Rattle.test_ciphers.proofs.tests.records.migrated.Goals as goal

differ : (n : ℕ) → n ≡ 0 → n ≡ 1 → ⊥
differ n a b = absurd (omega arith)

pub migrate-requires-clause-prefixes : goal.migrate-requires-clause-prefixes
migrate-requires-clause-prefixes g c = λ e. differ 0 refl (ap (λ (l : List ℕ). get_or l 0 0) e)
