-- The field of bytes (FIPS 197, section 4): bit i of a byte is the coefficient of x^i of a polynomial
-- over GF(2), and products are taken modulo x^8 + x^4 + x^3 + x + 1.
use Rattle.std.specs.Prelude.{ℕ, zero, suc, ◌*◌, ◌/◌, ◌%◌, ◌==◌, nat_lt, bit_xor, if◌then◌else◌, unwrap_or}
use Rattle.std.specs.List.{position, range_with_len}

-- the product with x
abbrev pub xtime : ℕ → ℕ
xtime a = if nat_lt a 128 then 2 * a else bit_xor (2 * a % 256) 0x1b

-- the sum (by xor) of the products of a with x^i, for each i below n such that bit i of b is set
unfoldable pub mul_bits : ℕ → ℕ → ℕ → ℕ
mul_bits zero a b = 0
mul_bits (suc n) a b = bit_xor (if b % 2 == 1 then a else 0) (mul_bits n (xtime a) (b / 2))

-- the product of two bytes
unfoldable pub mul : ℕ → ℕ → ℕ
mul a b = mul_bits 8 a b

-- the least byte whose product with a is 1, or 0 if there is none. `field::inverse_is_unique` proves that there is
-- exactly one for each byte but 0, so this is the multiplicative inverse.
unfoldable pub inverse : ℕ → ℕ
inverse a = unwrap_or (position (λ b. mul a b == 1) (range_with_len 0 256)) 0
