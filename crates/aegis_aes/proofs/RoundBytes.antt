-- The bytes after a round are below 256, for any block, if the key's are.
use Rattle.std.proofs.Common.{◌≡◌, ℕ, zero, suc, ◌+◌, ◌*◌, ◌/◌, ◌%◌, ◌^◌, ◌<◌, Bool, true, false, ◌==◌, nat_lt, if◌then◌else◌, List, [], ◌∷◌, map, bit_xor, slice_index, refl, arith}
use Rattle.std.specs.List.{range_with_len, sum}
use Rattle.std.proofs.lemmas.Bool.{ltb-true}
use Rattle.std.proofs.lemmas.Nat.{xor_lt}
use Rattle.aegis_aes.specs.Field.{inverse, mul, mul_bits, xtime}
use Rattle.aegis_aes.specs.Round.{affine, affine_bit, bit, complete_byte, complete_round, mixed, round, sub_bytes, substitute, weight}

either-below : (t : Bool) (a b n : ℕ) → a < n → b < n → (if t then a else b) < n
either-below true a b n low rest = low
either-below false a b n low rest = rest

xtime-at : (a : ℕ) (t : Bool) → nat_lt a 128 ≡ t → (if t then 2 * a else bit_xor (2 * a % 256) 0x1b) < 256
xtime-at a true e = let h : a < 128 = ltb-true a 128 e in omega arith
xtime-at a false e = xor_lt 8 (2 * a % 256) 0x1b (omega arith) (omega arith)

xtime-below : (a : ℕ) → xtime a < 256
xtime-below a = xtime-at a (nat_lt a 128) refl

mul_bits-below : (n a b : ℕ) → a < 256 → mul_bits n a b < 256
unfolding mul_bits
mul_bits-below zero a b low = omega arith
mul_bits-below (suc n) a b low =
    xor_lt 8 (if b % 2 == 1 then a else 0) (mul_bits n (xtime a) (b / 2)) (either-below (b % 2 == 1) a 0 256 low (omega arith))
    (mul_bits-below n (xtime a) (b / 2) (xtime-below a))

mul-below : (a b : ℕ) → a < 256 → mul a b < 256
unfolding mul
mul-below a b low = mul_bits-below 8 a b low

bit-below : (a i : ℕ) → bit a i < 2
bit-below a i = omega arith

affine_bit-below : (b i : ℕ) → affine_bit b i < 2
affine_bit-below b i =
    xor_lt 1 _ _ (bit-below b i) (xor_lt 1 _ _ (bit-below b (i + 4)) (xor_lt 1 _ _ (bit-below b (i + 5))
    (xor_lt 1 _ _ (bit-below b (i + 6)) (xor_lt 1 _ _ (bit-below b (i + 7)) (bit-below 0x63 i)))))

-- a sum of eight bits, each times its power of 2
bits-below : (f : ℕ → ℕ) → ((i : ℕ) → f i < 2) → sum (map (λ i. f i * 2 ^ i) (range_with_len 0 8)) < 256
bits-below f low = omega (arith, low 0, low 1, low 2, low 3, low 4, low 5, low 6, low 7)

substitute-below : (a : ℕ) → substitute a < 256
unfolding substitute affine
substitute-below a = bits-below (affine_bit (inverse a)) (affine_bit-below (inverse a))

mixed-below : (s0 s1 s2 s3 r : ℕ) → s0 < 256 → s1 < 256 → s2 < 256 → s3 < 256 → mixed s0 s1 s2 s3 r < 256
mixed-below s0 s1 s2 s3 r h0 h1 h2 h3 =
    xor_lt 8 _ _ (xor_lt 8 _ _ (xor_lt 8 _ _ (mul-below s0 (weight r 0) h0) (mul-below s1 (weight r 1) h1))
    (mul-below s2 (weight r 2) h2)) (mul-below s3 (weight r 3) h3)

-- a list of bytes
pub record IsBytes (xs : List ℕ) : Type 0 where
  pub below : (i : ℕ) → slice_index xs i < 256

map-below : (f : ℕ → ℕ) (a n i : ℕ) → ((j : ℕ) → f j < 256) → slice_index (map f (range_with_len a n)) i < 256
map-below f a zero i low = omega arith
map-below f a (suc n) zero low = low a
map-below f a (suc n) (suc i) low = map-below f (a + 1) n i low

sub_bytes-below : (b : List ℕ) (i : ℕ) → slice_index (map substitute b) i < 256
sub_bytes-below [] i = omega arith
sub_bytes-below (x ∷ b) zero = substitute-below x
sub_bytes-below (x ∷ b) (suc i) = sub_bytes-below b i

pub round-bytes : (b : List ℕ) {k : List ℕ} → IsBytes k → IsBytes (round b k)
unfolding round sub_bytes complete_round
round-bytes b {k} is = record {
  below = λ i. map-below (λ n. complete_byte (map substitute b) k (n / 4) (n % 4)) 0 16 i (λ n.
      xor_lt 8 _ _ (mixed-below _ _ _ _ (n % 4) (sub_bytes-below b _) (sub_bytes-below b _) (sub_bytes-below b _) (sub_bytes-below b _))
      (is.below (4 * (n / 4) + n % 4)));
}
