-- By computing all products of two bytes, with the power 254 for the inverse.
use Rattle.std.proofs.Common.{◌≡◌, ℕ, ◌<◌, ◌==◌, nat_lt, Bool, true, ◌&&◌, refl, sym, ◌∙◌}
use Rattle.std.proofs.lemmas.Bool.{agree_below, agree_below_at, and_from, and_parts, eq-eqb, eqb-true, lt-ltb}
use Rattle.aegis_aes.specs.Field.{inverse, mul, mul_bits}
use Rattle.aegis_aes.proofs.Powers.{inverse_lt, p254, power_is_inverse}
use Rattle.aegis_aes.proofs.field.inverse_is_unique.Goals as goal

-- the product of a and b is 1 exactly if a is not 0 and b is i
abbrev is_the_inverse : ℕ → ℕ → Bool
is_the_inverse a i = agree_below (λ b. mul a b == 1) (λ b. nat_lt 0 a && b == i) 256

all_products : agree_below (λ a. is_the_inverse a (p254 a)) (λ _. true) 256 ≡ true
unfolding mul mul_bits
all_products = refl

product_is_one : (a b : ℕ) → a < 256 → b < 256 → (mul a b == 1) ≡ (nat_lt 0 a && b == inverse a)
product_is_one a b h k =
    rw (← power_is_inverse a h)
    (agree_below_at (λ b. mul a b == 1) (λ b. nat_lt 0 a && b == p254 a) 256 b (agree_below_at (λ a. is_the_inverse a (p254 a)) (λ _. true) 256 a all_products h) k)

pub returns : goal.returns
unfolding inverse mul mul_bits
returns c = record {
  byte = inverse_lt;
  product = λ a h positive.
      eqb-true _ _ (product_is_one a (inverse a) h (inverse_lt a h) ∙ and_from _ _ (lt-ltb 0 a positive) (eq-eqb (inverse a) (inverse a) refl));
  unique = λ a b h k e.
      eqb-true _ _ (and_parts _ _ (sym (product_is_one a b h k) ∙ eq-eqb (mul a b) 1 e)).1;
  zero = refl;
}
