-- Keystreams: the ciphertext of a message's beginning is the beginning of its ciphertext, and xoring twice with one
-- list changes nothing.
use Rattle.std.proofs.Common.{◌≡◌, ◌∙◌, sym, ap, refl, ℕ, ◌<◌, ◌≤◌, List, [], ◌∷◌, length, bit_xor, replicate, slice_index, take, arith, inl, inr}
use Rattle.std.specs.Int.Bits.{xor_assoc}
use Rattle.std.proofs.lemmas.Bool.{cases_lt}
use Rattle.std.proofs.lemmas.Nat.{xor_comm}
use Rattle.std.proofs.lemmas.List.{get_or-take, get_or_past, take_all, length-replicate, length-take-le, take-replicate}
use Rattle.std.proofs.lemmas.Simd.{length-zip2}
use Rattle.aegis_aes.specs.Block.{xor}
use Rattle.aegis_aes.specs.Lanes.{IsLaneCount}
use Rattle.aegis_base.specs.Variant.{Variant}
use Rattle.aegis_base.specs.Laws.{IsKeystreamShared}
use Rattle.aegis_base.specs.Message.{ciphertext_from, lane_before, keystream, keystream_byte_along, xor_keystream}
use Rattle.aegis_base.proofs.Bijection.{bit_xor-twice, ciphertext-is, ciphertext-reads, length-ciphertext, keystream_byte_along-before, keystream_byte_along-same}

pub ciphertext-take : (variant : Variant) (lanes : ℕ → List (List ℕ)) (m : List ℕ) (k : ℕ) → IsLaneCount variant.lanes → k ≤ length m
    → take k (ciphertext_from variant lanes m) ≡ ciphertext_from variant lanes (take k m)
ciphertext-take variant lanes m k count low =
    let c = ciphertext_from variant lanes m in
    let long : length (take k m) ≡ k = length-take-le k m low in
    let taken : length (take k c) ≡ k = length-take-le k c (omega (arith, length-ciphertext variant lanes m)) in
    ciphertext-is variant lanes (take k m) (take k c) (taken ∙ sym long) (λ i h.
    let inside : i < k = omega arith in
    let byte : slice_index m i ≡ slice_index (take k m) i = sym (get_or-take k m i 0 inside) in
    let keystream : keystream_byte_along variant lanes m i ≡ keystream_byte_along variant lanes (take k m) i =
    keystream_byte_along-before variant lanes m (take k m) i count (λ q before. sym (get_or-take k m q 0 (omega arith))) in
    get_or-take k c i 0 inside ∙ ciphertext-reads variant lanes m i (omega arith)
    ∙ ap (λ (x : ℕ). bit_xor x (keystream_byte_along variant lanes m i)) byte
    ∙ ap (bit_xor (slice_index (take k m) i)) keystream)

-- k may pass the end of the message
pub ciphertext_prefix : (variant : Variant) (lanes : ℕ → List (List ℕ)) (m : List ℕ) (k : ℕ) → IsLaneCount variant.lanes
    → ciphertext_from variant lanes (take k m) ≡ take k (ciphertext_from variant lanes m)
ciphertext_prefix variant lanes m k count =
    grind (arith, cases_lt, ciphertext-take, take_all, length-ciphertext)

-- the xor of two bytes that were xored with one byte
xor-shared : (a b k : ℕ) → bit_xor (bit_xor a k) (bit_xor b k) ≡ bit_xor a b
xor-shared a b k =
    xor_assoc a k (bit_xor b k) ∙ ap (bit_xor a) (xor_comm k (bit_xor b k) ∙ bit_xor-twice b k)

pub keystream_shared : (variant : Variant) → IsLaneCount variant.lanes → IsKeystreamShared variant
keystream_shared variant count key nonce ad x y n i long agree here =
    let lanes = lane_before variant key nonce ad in
    elim (cases_lt i (length x)) [
      | inl h ↦
          rw (
            ciphertext-reads variant lanes x i h,
            ciphertext-reads variant lanes y i (omega arith),
            keystream_byte_along-same variant lanes x y i count (rw here agree),
          ) (xor-shared (slice_index x i) (slice_index y i) (keystream_byte_along variant lanes y i))
      | inr h ↦
          rw (
            get_or_past (ciphertext_from variant lanes x) i 0 (omega (arith, length-ciphertext variant lanes x)),
            get_or_past (ciphertext_from variant lanes y) i 0 (omega (arith, length-ciphertext variant lanes y)),
            get_or_past x i 0 h,
            get_or_past y i 0 (omega arith),
          ) refl
    ]

pub keystream_take : (variant : Variant) (key nonce : List ℕ) (k n : ℕ) → IsLaneCount variant.lanes → k ≤ n
    → keystream variant key nonce k ≡ take k (keystream variant key nonce n)
keystream_take variant key nonce k n count low =
    grind (arith, ciphertext-take, length-replicate, take-replicate)

pub length-keystream : (variant : Variant) (key nonce : List ℕ) (n : ℕ) → length (keystream variant key nonce n) ≡ n
length-keystream variant key nonce n =
    length-ciphertext variant (lane_before variant key nonce []) (replicate n 0) ∙ length-replicate {A = ℕ} n 0

pub xor-twice : (m s : List ℕ) → length s ≡ length m → xor (xor m s) s ≡ m
xor-twice [] s e = refl
xor-twice (x ∷ m) [] e = absurd (omega (arith, e))
xor-twice (x ∷ m) (y ∷ s) e =
    let shorter : length s ≡ length m = omega (arith, e) in
    rw (bit_xor-twice x y, xor-twice m s shorter) refl

pub xor_keystream_twice : (variant : Variant) (key nonce m : List ℕ)
    → xor_keystream variant key nonce (xor_keystream variant key nonce m) ≡ m
xor_keystream_twice variant key nonce m = grind (arith, length-keystream, length-zip2, xor-twice)
