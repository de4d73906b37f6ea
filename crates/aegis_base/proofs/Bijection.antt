-- From given lanes, sealing is one-to-one and onto on the messages of each length, since a byte of the keystream
-- depends only on the bytes of the message before it.
use Rattle.std.proofs.Common.{◌≡◌, ◌∙◌, sym, ap, refl, ℕ, zero, suc, ◌*◌, ◌/◌, ◌<◌, ◌≤◌, List, [], ◌∷◌, ◌++◌, length, bit_xor, slice_index, arith, below_more}
use Rattle.std.specs.Int.Bits.{xor_assoc, xor_self, xor_zero_r}
use Rattle.std.proofs.Math.Nat.{div-mul-le_self}
use Rattle.std.proofs.Math.Seq.{get_or-append_seam}
use Rattle.std.proofs.lemmas.List.{ext_get_or, get_or_append_left, length-append}
use Rattle.std.proofs.lemmas.Nat.{xor_lt}
use Rattle.std.proofs.lemmas.List.FromFn.{fill_by_all, get_or-map-range_with_len, length-map-range_with_len}
use Rattle.aegis_aes.specs.Lanes.{IsLaneCount}
use Rattle.aegis_base.specs.Variant.{Variant, rate}
use Rattle.aegis_base.specs.Message.{ciphertext_byte, ciphertext_from, keystream_byte_along, lane_before}
use Rattle.aegis_base.specs.Laws.{IsOnto}
use Rattle.aegis_aes.proofs.RoundBytes.{IsBytes}
use Rattle.aegis_base.proofs.Bytes.{AreRows, append-bytes, lane_before-rows, more-bytes, none-bytes, keystream_byte_along-below}
use Rattle.aegis_base.proofs.MessageFacts.{after-same, keystream_byte-same}

-- ---- the ciphertext byte by byte

pub length-ciphertext : (variant : Variant) (lanes : ℕ → List (List ℕ)) (m : List ℕ)
    → length (ciphertext_from variant lanes m) ≡ length m
unfolding ciphertext_from
length-ciphertext variant lanes m = length-map-range_with_len (ciphertext_byte variant lanes m) 0 (length m)

pub ciphertext-reads : (variant : Variant) (lanes : ℕ → List (List ℕ)) (m : List ℕ) (i : ℕ) → i < length m
    → slice_index (ciphertext_from variant lanes m) i ≡ ciphertext_byte variant lanes m i
unfolding ciphertext_from
ciphertext-reads variant lanes m i h =
    get_or-map-range_with_len (ciphertext_byte variant lanes m) 0 (length m) i i 0 h (omega arith)

pub ciphertext-is : (variant : Variant) (lanes : ℕ → List (List ℕ)) (m c : List ℕ) → length c ≡ length m
    → ((i : ℕ) → i < length m → slice_index c i ≡ ciphertext_byte variant lanes m i)
    → c ≡ ciphertext_from variant lanes m
unfolding ciphertext_from
ciphertext-is variant lanes m c long reads = fill_by_all (ciphertext_byte variant lanes m) c (length m) 0 long reads

-- ---- what a byte of the keystream depends on

pub keystream_byte_along-same : (variant : Variant) (lanes : ℕ → List (List ℕ)) (x y : List ℕ) (i : ℕ) → IsLaneCount variant.lanes
    → ((k : ℕ) → k < i / rate variant * rate variant → slice_index x k ≡ slice_index y k)
    → keystream_byte_along variant lanes x i ≡ keystream_byte_along variant lanes y i
keystream_byte_along-same variant lanes x y i count same = grind (arith, keystream_byte-same, after-same)

-- it depends only on the bytes before it
pub keystream_byte_along-before : (variant : Variant) (lanes : ℕ → List (List ℕ)) (x y : List ℕ) (i : ℕ) → IsLaneCount variant.lanes
    → ((k : ℕ) → k < i → slice_index x k ≡ slice_index y k)
    → keystream_byte_along variant lanes x i ≡ keystream_byte_along variant lanes y i
keystream_byte_along-before variant lanes x y i count same =
    keystream_byte_along-same variant lanes x y i count (λ k h. let floor = div-mul-le_self i (rate variant) in same k (omega arith))

-- ---- one-to-one

-- xoring twice with one number changes nothing
pub bit_xor-twice : (a k : ℕ) → bit_xor (bit_xor a k) k ≡ a
bit_xor-twice a k = xor_assoc a k k ∙ ap (bit_xor a) (xor_self k) ∙ xor_zero_r a

pub bit_xor-cancel : (a b k : ℕ) → bit_xor a k ≡ bit_xor b k → a ≡ b
bit_xor-cancel a b k e = sym (bit_xor-twice a k) ∙ ap (λ (x : ℕ). bit_xor x k) e ∙ bit_xor-twice b k

-- messages with one ciphertext have the same bytes, one after another
ciphertext-determines : (variant : Variant) (lanes : ℕ → List (List ℕ)) (x y : List ℕ) (n : ℕ) → IsLaneCount variant.lanes
    → length x ≡ length y → ciphertext_from variant lanes x ≡ ciphertext_from variant lanes y → n ≤ length x
    → (k : ℕ) → k < n → slice_index x k ≡ slice_index y k
ciphertext-determines variant lanes x y zero count long e low k h = absurd (omega arith)
ciphertext-determines variant lanes x y (suc n) count long e low k h =
    let before : (q : ℕ) → q < n → slice_index x q ≡ slice_index y q =
    ciphertext-determines variant lanes x y n count long e (omega arith) in
    let sealed : ciphertext_byte variant lanes x n ≡ ciphertext_byte variant lanes y n =
    sym (ciphertext-reads variant lanes x n (omega arith)) ∙ ap (λ (c : List ℕ). slice_index c n) e
    ∙ ciphertext-reads variant lanes y n (omega arith) in
    let keystream : keystream_byte_along variant lanes x n ≡ keystream_byte_along variant lanes y n =
    keystream_byte_along-before variant lanes x y n count before in
    let here : slice_index x n ≡ slice_index y n =
    bit_xor-cancel (slice_index x n) (slice_index y n) (keystream_byte_along variant lanes y n)
    (ap (bit_xor (slice_index x n)) (sym keystream) ∙ sealed) in
    below_more (λ q. slice_index x q ≡ slice_index y q) n before here k (omega arith)

pub ciphertext-injective : (variant : Variant) (lanes : ℕ → List (List ℕ)) (m n : List ℕ) → IsLaneCount variant.lanes
    → ciphertext_from variant lanes m ≡ ciphertext_from variant lanes n → m ≡ n
ciphertext-injective variant lanes m n count e =
    let long : length m ≡ length n =
    sym (length-ciphertext variant lanes m) ∙ ap length e ∙ length-ciphertext variant lanes n in
    ext_get_or 0 m n long (ciphertext-determines variant lanes m n (length m) count long e (omega arith))

-- ---- onto

-- a message of n bytes that is sealed to the first n bytes of c
record IsOpened (variant : Variant) (lanes : ℕ → List (List ℕ)) (c : List ℕ) (n : ℕ) (m : List ℕ) : Type 0 where
  long : length m ≡ n
  opens : (i : ℕ) → i < n → ciphertext_byte variant lanes m i ≡ slice_index c i

-- the message that is sealed to the first n bytes of c: each byte of c, xored with the keystream along the bytes before
-- it
opened : Variant → (ℕ → List (List ℕ)) → List ℕ → ℕ → List ℕ
opened variant lanes c zero = []
opened variant lanes c (suc n) =
    opened variant lanes c n ++ (bit_xor (slice_index c n) (keystream_byte_along variant lanes (opened variant lanes c n) n) ∷ [])

-- one more byte of a message opened so far
opened-more : (variant : Variant) (lanes : ℕ → List (List ℕ)) (c : List ℕ) (n : ℕ) (m : List ℕ) → IsLaneCount variant.lanes
    → IsOpened variant lanes c n m
    → IsOpened variant lanes c (suc n) (m ++ (bit_xor (slice_index c n) (keystream_byte_along variant lanes m n) ∷ []))
opened-more variant lanes c n m count is =
    let byte : ℕ = bit_xor (slice_index c n) (keystream_byte_along variant lanes m n) in
    let longer : List ℕ = m ++ (byte ∷ []) in
    let long : length m ≡ n = is.long in
    let beginning : (k : ℕ) → k < n → slice_index longer k ≡ slice_index m k =
    λ k h. get_or_append_left m (byte ∷ []) 0 k (omega arith) in
    let keystream : (i : ℕ) → i ≤ n → keystream_byte_along variant lanes longer i ≡ keystream_byte_along variant lanes m i =
    λ i h. keystream_byte_along-before variant lanes longer m i count (λ k low. beginning k (omega arith)) in
    let before : (i : ℕ) → i < n → ciphertext_byte variant lanes longer i ≡ slice_index c i =
    λ i h. ap (λ (x : ℕ). bit_xor x (keystream_byte_along variant lanes longer i)) (beginning i h)
    ∙ ap (bit_xor (slice_index m i)) (keystream i (omega arith)) ∙ is.opens i h in
    let last : slice_index longer n ≡ byte =
    ap (slice_index longer) (sym long) ∙ get_or-append_seam m byte [] 0 in
    let here : ciphertext_byte variant lanes longer n ≡ slice_index c n =
    ap (λ (x : ℕ). bit_xor x (keystream_byte_along variant lanes longer n)) last
    ∙ ap (bit_xor byte) (keystream n (omega arith))
    ∙ bit_xor-twice (slice_index c n) (keystream_byte_along variant lanes m n) in
    record {
      long = omega (arith, length-append m (byte ∷ []));
      opens = λ i h. below_more (λ k. ciphertext_byte variant lanes longer k ≡ slice_index c k) n before here i (omega arith);
    }

opened-opens : (variant : Variant) (lanes : ℕ → List (List ℕ)) (c : List ℕ) (n : ℕ) → IsLaneCount variant.lanes
    → IsOpened variant lanes c n (opened variant lanes c n)
unfolding opened
opened-opens variant lanes c zero count = record { long = refl; opens = λ i h. absurd (omega arith) }
opened-opens variant lanes c (suc n) count =
    opened-more variant lanes c n (opened variant lanes c n) count (opened-opens variant lanes c n count)

-- from lanes of bytes, bytes are opened to bytes
opened-bytes : (variant : Variant) (lanes : ℕ → List (List ℕ)) (c : List ℕ) (n : ℕ) → IsLaneCount variant.lanes
    → ((j : ℕ) → j < variant.lanes → AreRows (lanes j)) → IsBytes c → IsBytes (opened variant lanes c n)
unfolding opened
opened-bytes variant lanes c zero count rows is = none-bytes
opened-bytes variant lanes c (suc n) count rows is =
    let m = opened variant lanes c n in
    let before : IsBytes m = opened-bytes variant lanes c n count rows is in
    let byte = xor_lt 8 (slice_index c n) (keystream_byte_along variant lanes m n) (is.below n)
    (keystream_byte_along-below variant lanes m n count rows before) in
    append-bytes m (bit_xor (slice_index c n) (keystream_byte_along variant lanes m n) ∷ []) before (more-bytes byte none-bytes)

pub ciphertext_onto : (variant : Variant) → IsLaneCount variant.lanes → IsOnto variant
ciphertext_onto variant count key nonce ad c =
    let lanes = lane_before variant key nonce ad in
    let m = opened variant lanes c (length c) in
    let is : IsOpened variant lanes c (length c) m = opened-opens variant lanes c (length c) count in
    let long : length m ≡ length c = is.long in (
      m,
      long,
      sym (ciphertext-is variant lanes m c (sym long) (λ i h. sym (is.opens i (omega arith)))),
      λ k n a s.
          let rows = λ (j : ℕ) (inside : j < variant.lanes).
          lane_before-rows variant key nonce ad j count inside (record { below = k }) (record { below = n })
          (record { below = a }) in
          let bytes = opened-bytes variant lanes c (length c) count rows (record { below = s }) in
          bytes.below,
    )

-- what the law of the bijection uses
pub ruleset bijection_laws = (length-ciphertext, ciphertext-injective, ciphertext_onto)
