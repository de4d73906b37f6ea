-- A message that continues: its ciphertext and its run.
use Rattle.std.proofs.Common.{◌≡◌, ◌∙◌, sym, ap, refl, ℕ, ◌+◌, ◌-◌, ◌<◌, ⊎_elim, List, [], ◌++◌, length, bit_xor, slice_index, arith}
use Rattle.std.proofs.Math.Nat.{zero-div, zero-mod}
use Rattle.std.proofs.lemmas.Bool.{cases_lt}
use Rattle.std.proofs.lemmas.List.{get_or_append_left, get_or-append_right, length-append}
use Rattle.aegis_aes.specs.Lanes.{IsLaneCount}
use Rattle.aegis_base.specs.Variant.{Variant}
use Rattle.aegis_base.specs.Message.{ciphertext_from, keystream_byte_along}
use Rattle.aegis_base.specs.Private.{HasFrom}
use Rattle.aegis_base.specs.Context.{IsAlong}
use Rattle.aegis_base.proofs.Bijection.{ciphertext-is, ciphertext-reads, length-ciphertext, keystream_byte_along-before}
use Rattle.aegis_base.proofs.MessageFacts.{after-none}
use Rattle.aegis_base.proofs.ContextFacts.{along-same}

-- the ciphertext of a message that continues is that of its beginning, and then the rest xored with the keystream
pub ciphertext-append : (variant : Variant) (lanes : ℕ → List (List ℕ)) (m p c : List ℕ) → IsLaneCount variant.lanes → length c ≡ length p
    → ((i : ℕ) → i < length p → slice_index c i ≡ bit_xor (slice_index p i) (keystream_byte_along variant lanes (m ++ p) (length m + i)))
    → ciphertext_from variant lanes (m ++ p) ≡ ciphertext_from variant lanes m ++ c
ciphertext-append variant lanes m p c count long xored =
    let beginning = ciphertext_from variant lanes m in
    let kept : length beginning ≡ length m = length-ciphertext variant lanes m in
    let both : length (m ++ p) ≡ length m + length p = length-append m p in
    let all : length (beginning ++ c) ≡ length beginning + length c = length-append beginning c in
    sym (ciphertext-is variant lanes (m ++ p) (beginning ++ c) (omega (arith, kept, both, all, long)) (λ i h.
    ⊎_elim
    (λ low. get_or_append_left beginning c 0 i (omega (arith, kept, low))
    ∙ ciphertext-reads variant lanes m i low
    ∙ ap (λ (x : ℕ). bit_xor x (keystream_byte_along variant lanes m i)) (sym (get_or_append_left m p 0 i low))
    ∙ ap (bit_xor (slice_index (m ++ p) i)) (keystream_byte_along-before variant lanes m (m ++ p) i count (λ k under. sym (get_or_append_left m p 0 k (omega (arith, under, low))))))
    (λ high. let k = i - length m in
    let back : length m + k ≡ i = omega (arith, high) in
    get_or-append_right beginning c (length m) i 0 kept high
    ∙ xored k (omega (arith, h, both, high))
    ∙ ap (λ (x : ℕ). bit_xor x (keystream_byte_along variant lanes (m ++ p) (length m + k))) (sym (get_or-append_right m p (length m) i 0 refl high))
    ∙ ap (λ (q : ℕ). bit_xor (slice_index (m ++ p) i) (keystream_byte_along variant lanes (m ++ p) q)) back)
    (cases_lt i (length m))))

-- the ciphertext of no bytes is none
pub ciphertext-none : (variant : Variant) (lanes : ℕ → List (List ℕ)) → ciphertext_from variant lanes [] ≡ []
ciphertext-none variant lanes = sym (ciphertext-is variant lanes [] [] refl (λ i h. absurd (omega arith)))

-- ---- runs

-- the beginning of a run
pub along-none : (variant : Variant) (lanes here : ℕ → List (List ℕ)) (block x : List ℕ)
    → ((j : ℕ) → j < variant.lanes → here j ≡ lanes j) → IsAlong variant lanes here block x 0
along-none variant lanes here block x same = grind (arith, zero-div, zero-mod, after-none)

-- a run along a message is one along each longer message
pub along-longer : (variant : Variant) (lanes here : ℕ → List (List ℕ)) (block m p : List ℕ)
    → IsAlong variant lanes here block m (length m) → IsAlong variant lanes here block (m ++ p) (length m)
along-longer variant lanes here block m p on =
    along-same variant lanes here block m (m ++ p) (length m) (λ k h. sym (get_or_append_left m p 0 k h)) on

pub has-after : (m p : List ℕ) → HasFrom (m ++ p) (length m) p
has-after m p i low = get_or-append_right m p (length m) (length m + i) 0 refl (omega arith) ∙ ap (slice_index p) (omega arith)
