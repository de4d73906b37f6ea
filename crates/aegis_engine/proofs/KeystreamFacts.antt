-- Bytes that a pass has xored with the keystream of a key and a nonce, from its beginning.
use Rattle.std.proofs.Common.{◌≡◌, ◌∙◌, sym, ap, refl, ℕ, ◌<◌, List, [], ◌∷◌, bit_xor, length, arith}
use Rattle.std.proofs.Math.Nat.{div-eq_of_lt}
use Rattle.std.proofs.lemmas.Nat.{xor_comm}
use Rattle.aegis_aes.specs.Block.{xor}
use Rattle.aegis_aes.specs.Lanes.{IsLaneCount}
use Rattle.aegis_base.specs.Variant.{Variant}
use Rattle.aegis_base.specs.Lane.{init}
use Rattle.aegis_base.specs.Message.{keystream, xor_keystream}
use Rattle.aegis_base.specs.Context.{Stands, held_by}
use Rattle.aegis_base.proofs.Bijection.{bit_xor-twice}
use Rattle.aegis_base.proofs.HeldFacts.{stands-begun}
use Rattle.aegis_base.proofs.MessageFacts.{before-none, rate-positive}

-- the lanes after their initialization stand for the empty message, without associated data
pub stands-started : (variant : Variant) (lane : ℕ → List (List ℕ)) (updates : ℕ) (block key nonce : List ℕ) → IsLaneCount variant.lanes
    → updates ≡ 0 → ((j : ℕ) → j < variant.lanes → lane j ≡ init variant key nonce j)
    → Stands variant (held_by variant lane updates block 0 0) key nonce [] []
stands-started variant lane updates block key nonce count none started =
    grind (arith, rate-positive, div-eq_of_lt, stands-begun, before-none)

-- m xored with the xor of m and c is c
xor-back : (m c : List ℕ) → length c ≡ length m → xor m (xor m c) ≡ c
xor-back [] [] e = refl
xor-back [] (y ∷ c) e = absurd (omega (arith, e))
xor-back (x ∷ m) [] e = absurd (omega (arith, e))
xor-back (x ∷ m) (y ∷ c) e =
    let shorter : length c ≡ length m = omega (arith, e) in
    let byte : bit_xor x (bit_xor x y) ≡ y = xor_comm x (bit_xor x y) ∙ ap (λ (b : ℕ). bit_xor b x) (xor_comm x y) ∙ bit_xor-twice y x in
    rw (byte, xor-back m c shorter) refl

-- if the xor of m and c is the keystream, c is m xored with the keystream
pub xored-by : (variant : Variant) (key nonce m c : List ℕ) → length c ≡ length m → keystream variant key nonce (length m) ≡ xor m c
    → c ≡ xor_keystream variant key nonce m
xored-by variant key nonce m c long is = sym (ap (xor m) is ∙ xor-back m c long)
