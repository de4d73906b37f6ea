-- What a pass takes in, and its ciphertext, byte by byte and in pieces; and how a piece is cut into the part that fills
-- the open block, whole rate blocks and a rest.
use Rattle.std.proofs.Common.{◌≡◌, ◌∙◌, sym, ap, subst, refl, ℕ, zero, suc, ◌+◌, ◌-◌, ◌*◌, ◌/◌, ◌%◌, ◌<◌, ◌≤◌, List, ◌++◌, length, bit_xor, replicate, slice_index, arith}
use Rattle.std.specs.Borrow.{Bor}
use Rattle.std.specs.Prelude.{IfSome, None, Option, Some}
use Rattle.std.proofs.Math.Nat.{div-mul-le_self, zero-div}
use Rattle.std.proofs.lemmas.Bool.{cases_lt}
use Rattle.std.proofs.lemmas.List.{length-append, length-replicate, replicate-append-replicate}
use Rattle.std.proofs.lemmas.Nat.{div-add-mod', mod-mul-add, xor_comm}
use Rattle.std.proofs.lemmas.Simd.{get_or-zip2, length-zip2}
use Rattle.std.specs.Int.Bits.{xor_zero_l}
use Rattle.aegis_aes.specs.Block.{bytes_at}
use Rattle.aegis_aes.specs.Lanes.{IsLaneCount}
use Rattle.aegis_aes.proofs.Places.{bytes_at-is, get_or-bytes_at, length-bytes_at}
use Rattle.aegis_base.specs.Context.{Encrypts, Held, Takes, held_by}
use Rattle.aegis_base.specs.Private.{IsUnopened}
use Rattle.aegis_base.specs.Lane.{update}
use Rattle.aegis_base.specs.Message.{keystream_byte, share_at}
use Rattle.aegis_base.specs.Variant.{Variant, rate}
use Rattle.aegis_base.proofs.Bijection.{bit_xor-twice}
use Rattle.aegis_base.proofs.HeldFacts.{ciphertext-on, stands-block}
use Rattle.aegis_base.proofs.LaneFacts.{xor-append}
use Rattle.aegis_engine.specs.Pass.{IsPassed, absorbed, given, ciphertext_in}
use Rattle.aegis_engine.specs.declared.pass.Pass.{Pass}
use Rattle.aegis_engine.specs.declared.pass.Pass.TheVariants.{Seal, Open, Keystream}

-- each byte of a list of zeros is 0
pub zeros-read : (n i : ℕ) → slice_index (replicate n 0) i ≡ 0
zeros-read zero i = refl
zeros-read (suc n) zero = refl
zeros-read (suc n) (suc i) = zeros-read n i

-- a byte that a buffer kept is given as before, and a source is as long as the buffer
pub given-same : (source : Option (Bor (List ℕ))) (now old : List ℕ) (i : ℕ) → slice_index now i ≡ slice_index old i
    → slice_index (given source now) i ≡ slice_index (given source old) i
given-same None now old i e = e
given-same (Some s) now old i e = refl

pub length-given : (source : Option (Bor (List ℕ))) (buffer : List ℕ) → IfSome source (λ s. length s.now ≡ length buffer)
    → length (given source buffer) ≡ length buffer
length-given None buffer e = refl
length-given (Some s) buffer e = e

-- what a pass takes in of n bytes from place a on
pub absorbed-at : (pass : Pass) (old new : List ℕ) (a n k : ℕ) → k < n
    → slice_index (absorbed pass old new) (a + k) ≡ slice_index (absorbed pass (bytes_at old a n) (bytes_at new a n)) k
absorbed-at Seal old new a n k low = sym (get_or-bytes_at old a n k 0 low)
absorbed-at Open old new a n k low = sym (get_or-bytes_at new a n k 0 low)
absorbed-at Keystream old new a n k low = zeros-read (length old) (a + k) ∙ sym (zeros-read (length (bytes_at old a n)) k)

-- what a pass takes in from place a on of some bytes, and from place b on of the same ones
pub absorbed-same : (pass : Pass) (old new x y : List ℕ) (a b n : ℕ)
    → ((k : ℕ) → k < n → slice_index old (a + k) ≡ slice_index x (b + k))
    → ((k : ℕ) → k < n → slice_index new (a + k) ≡ slice_index y (b + k))
    → (k : ℕ) → k < n → slice_index (absorbed pass old new) (a + k) ≡ slice_index (absorbed pass x y) (b + k)
absorbed-same Seal old new x y a b n e f k low = e k low
absorbed-same Open old new x y a b n e f k low = f k low
absorbed-same Keystream old new x y a b n e f k low = zeros-read (length old) (a + k) ∙ sym (zeros-read (length x) (b + k))

pub length-absorbed : (pass : Pass) (old new : List ℕ) → length new ≡ length old → length (absorbed pass old new) ≡ length old
length-absorbed Seal old new e = refl
length-absorbed Open old new e = e
length-absorbed Keystream old new e = length-replicate (length old) 0

pub length-sealed : (pass : Pass) (old new : List ℕ) → length new ≡ length old → length (ciphertext_in pass old new) ≡ length (absorbed pass old new)
length-sealed Seal old new e = e
length-sealed Open old new e = sym e
length-sealed Keystream old new e = length-zip2 bit_xor old new (sym e) ∙ sym (length-replicate (length old) 0)

-- if a pass has xored a byte with k, the ciphertext there is what it took in, xored with k
pub sealed-byte : (pass : Pass) (old new : List ℕ) (i k : ℕ) → length new ≡ length old → i < length old
    → slice_index new i ≡ bit_xor (slice_index old i) k → slice_index (ciphertext_in pass old new) i ≡ bit_xor (slice_index (absorbed pass old new) i) k
sealed-byte Seal old new i k long low e = e
sealed-byte Open old new i k long low e = sym (ap (λ (b : ℕ). bit_xor b k) e ∙ bit_xor-twice (slice_index old i) k)
sealed-byte Keystream old new i k long low e =
    get_or-zip2 bit_xor old new i 0 0 0 low (omega arith) ∙ ap (bit_xor (slice_index old i)) (e ∙ xor_comm (slice_index old i) k)
    ∙ xor_comm (slice_index old i) (bit_xor k (slice_index old i)) ∙ bit_xor-twice k (slice_index old i)
    ∙ sym (ap (λ (b : ℕ). bit_xor b k) (zeros-read (length old) i) ∙ xor_zero_l k)

-- one more piece
pub absorbed-append : (pass : Pass) (a b c d : List ℕ) → absorbed pass (a ++ b) (c ++ d) ≡ absorbed pass a c ++ absorbed pass b d
absorbed-append Seal a b c d = refl
absorbed-append Open a b c d = refl
absorbed-append Keystream a b c d = rw length-append (sym (replicate-append-replicate (length a) (length b) 0))

pub sealed-append : (pass : Pass) (a b c d : List ℕ) → length c ≡ length a → ciphertext_in pass (a ++ b) (c ++ d) ≡ ciphertext_in pass a c ++ ciphertext_in pass b d
sealed-append Seal a b c d e = refl
sealed-append Open a b c d e = refl
sealed-append Keystream a b c d e = xor-append a c b d (sym e)

-- after the part that fills the open block, whole rate blocks follow only if none is open
pub unopened-after : (t first len r q : ℕ) → (first < len → (t + first) % q ≡ 0) → IsUnopened (t + first) ((len - first) / r) q
unopened-after t first len r q fills some = grind (arith, zero-div, cases_lt)

-- a piece with no byte before or after its whole rate blocks; r and v are the rate q
pub only-blocks : (t first len r v q : ℕ) → r ≡ q → v ≡ q → first + (len - (first + (len - first) / r * v)) ≡ 0 → (first < len → (t + first) % q ≡ 0)
    → ((len - first) / r * q ≡ len) × IsUnopened t ((len - first) / r) q
only-blocks t first len r v q read again none fills = grind (arith, div-mul-le_self, unopened-after)

-- no rate block of r bytes is open after whole ones
pub block-start : (t i r : ℕ) → 0 < r → t % r ≡ 0 → (t + i * r) % r ≡ 0
block-start t i r positive none =
    let whole : t / r * r + t % r ≡ t = div-add-mod' t r in
    let place : t + i * r ≡ (t / r + i) * r + 0 = omega arith in
    ap (λ (m : ℕ). m % r) place ∙ mod-mul-add (t / r + i) r 0 positive

-- ---- n bytes of one rate block

module _ (variant : Variant) (lane : ℕ → List (List ℕ)) (updates : ℕ) (block : List ℕ) (ad_bytes t : ℕ) (pass : Pass) (old new : List ℕ) (a n : ℕ)
    (count : IsLaneCount variant.lanes) (within : t % rate variant + n ≤ rate variant)
    (xored : (k : ℕ) → k < n → slice_index new (a + k) ≡ bit_xor (slice_index old (a + k)) (keystream_byte variant lane (t % rate variant + k))) where
  encrypts-at : Encrypts variant (held_by variant lane updates block ad_bytes t) (absorbed pass (bytes_at old a n) (bytes_at new a n))
      (ciphertext_in pass (bytes_at old a n) (bytes_at new a n))
  encrypts-at key nonce ad m is =
      let source : List ℕ = bytes_at old a n in
      let out : List ℕ = bytes_at new a n in
      let size : length source ≡ n = length-bytes_at old a n in
      let same : length out ≡ length source = length-bytes_at new a n ∙ sym size in
      let long : length (absorbed pass source out) ≡ n = length-absorbed pass source out same ∙ size in
      ciphertext-on variant lane updates block ad_bytes t key nonce ad m (absorbed pass source out) is (ciphertext_in pass source out) count
      (length-sealed pass source out same) (rw long within)
      (λ i low.
      let under : i < n = rw long at low in
      sealed-byte pass source out i (keystream_byte variant lane (t % rate variant + i)) same (rw size under)
      (get_or-bytes_at new a n i 0 under ∙ xored i under
      ∙ ap (λ (b : ℕ). bit_xor b (keystream_byte variant lane (t % rate variant + i))) (sym (get_or-bytes_at old a n i 0 under))))

  -- they are taken in from place b of other bytes
  pub part-passed : (next : Held) (bytes : List ℕ) (b : ℕ)
      → ((k : ℕ) → k < n → slice_index bytes (b + k) ≡ slice_index (absorbed pass old new) (a + k))
      → Takes variant (held_by variant lane updates block ad_bytes t) next (bytes_at bytes b n)
      → IsPassed variant (held_by variant lane updates block ad_bytes t) next pass (bytes_at old a n) (bytes_at new a n)
  part-passed next bytes b same taken =
      let size : length (bytes_at new a n) ≡ length (bytes_at old a n) = length-bytes_at new a n ∙ sym (length-bytes_at old a n) in
      let are : bytes_at bytes b n ≡ absorbed pass (bytes_at old a n) (bytes_at new a n) =
      bytes_at-is bytes b n _ (length-absorbed pass (bytes_at old a n) (bytes_at new a n) size ∙ length-bytes_at old a n)
      (λ k low. same k low ∙ absorbed-at pass old new a n k low) in
      record {
        takes = subst (Takes variant (held_by variant lane updates block ad_bytes t) next) are taken;
        encrypts = encrypts-at;
      }

-- a whole rate block
pub block-passed : (variant : Variant) (lane there : ℕ → List (List ℕ)) (updates count : ℕ) (block : List ℕ) (ad_bytes t : ℕ) (pass : Pass) (old new : List ℕ) (a r : ℕ)
    → IsLaneCount variant.lanes → r ≡ rate variant → t % r ≡ 0 → count ≡ updates + 1
    → ((k : ℕ) → k < r → slice_index new (a + k) ≡ bit_xor (slice_index old (a + k)) (keystream_byte variant lane k))
    → ((j : ℕ) → j < variant.lanes → there j ≡ update variant.family (lane j) (share_at variant j (absorbed pass old new) a))
    → IsPassed variant (held_by variant lane updates block ad_bytes t) (held_by variant there count block ad_bytes (t + r)) pass (bytes_at old a r) (bytes_at new a r)
block-passed variant lane there updates count block ad_bytes t pass old new a r lanes is none more xored stepped =
    let empty : t % rate variant ≡ 0 = rw is at none in
    part-passed variant lane updates block ad_bytes t pass old new a r lanes (omega arith)
    (λ k low. let place : t % rate variant + k ≡ k = omega arith in rw place (xored k low))
    (held_by variant there count block ad_bytes (t + r)) (absorbed pass old new) a (λ k low. refl)
    (λ key nonce ad m stands.
    let p : List ℕ = bytes_at (absorbed pass old new) a r in
    let long : length p ≡ r = length-bytes_at (absorbed pass old new) a r in
    rw long at (stands-block variant lane updates block ad_bytes t key nonce ad m p stands (absorbed pass old new) block a there count lanes (long ∙ is) empty more stepped
    (λ k low. sym (get_or-bytes_at (absorbed pass old new) a r k 0 (omega arith)))))
