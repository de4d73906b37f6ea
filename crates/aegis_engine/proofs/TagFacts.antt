-- Whether bytes differ, by the xor and the or of their bits.
use Rattle.std.proofs.Common.{◌≡◌, ◌⊎◌, ℕ, ◌-◌, ◌*◌, ◌/◌, ◌<◌, ◌≤◌, List, ◌++◌, length, bit_or, bit_xor, refl, arith, inl, inr}
use Rattle.std.proofs.lemmas.List.{places, same_lists}
use borrow.Rule.Slice.PartMut.{put_mid}
use Rattle.std.proofs.lemmas.Nat.{and_le_l, and_le_r}
use lib.Bits.{or_add_and, xor_add_and}
use Rattle.aegis_base.specs.Lane.{IsTagLength}
use Rattle.aegis_base.specs.Mac.{first_folded}
use Rattle.aegis_base.specs.Variant.{Family, Family128, Family256, rate}
use Rattle.aegis_base.proofs.MessageFacts.{variant_of}

-- both numbers are zero if their or is
pub or-left : (a b : ℕ) → bit_or a b ≡ 0 → a ≡ 0
or-left a b e =
    let sum = or_add_and a b in let left = and_le_l a b in let right = and_le_r a b in omega arith

pub or-right : (a b : ℕ) → bit_or a b ≡ 0 → b ≡ 0
or-right a b e =
    let sum = or_add_and a b in let left = and_le_l a b in let right = and_le_r a b in omega arith

-- two numbers are equal if their xor is zero
pub xor-zero : (a b : ℕ) → bit_xor a b ≡ 0 → a ≡ b
xor-zero a b e =
    let sum = xor_add_and a b in let left = and_le_l a b in let right = and_le_r a b in omega arith

-- two lists of n elements that are written into twice as many, one after the other
pub halves-joined : (n k : ℕ) (l z h a b : List ℕ) → k ≡ n → l ≡ a → h ≡ b → length a ≡ n → length b ≡ n → length z ≡ n → put_mid n k (l ++ z) h ≡ a ++ b
halves-joined n k l z h a b same e f long wide rest =
    rw (same, e, f) (same_lists _ _ (grind (arith, places)) (λ k d lt. grind (arith, places)))

-- ---- the fold of the lanes' tags

-- with tags shorter than a rate block of one lane, the tags of all lanes are folded, and otherwise those of the others
pub folds_all : (family : Family) (n : ℕ) → IsTagLength n → n < rate (variant_of family 1) → 0 ≡ first_folded family n
folds_all Family128 n (inl e) low = rw e refl
folds_all Family128 n (inr e) low = absurd (omega arith)
folds_all Family256 n (inl e) low = absurd (omega arith)
folds_all Family256 n (inr e) low = absurd (omega arith)

pub folds_others : (family : Family) (n : ℕ) → IsTagLength n → rate (variant_of family 1) ≤ n → 1 ≡ first_folded family n
folds_others Family128 n (inl e) high = absurd (omega arith)
folds_others Family128 n (inr e) high = rw e refl
folds_others Family256 n is high = refl

-- so many turns take in the tags of n bytes of the lanes k to d - 1
pub folds-whole : (family : Family) (n d k r : ℕ) → IsTagLength n → (d ≡ 2) ⊎ (d ≡ 4) → k ≡ first_folded family n → r ≡ rate (variant_of family 1)
    → (d - k) * n / r * r ≡ (d - k) * n
folds-whole Family128 n d k r (inl e) (inl two) is rate = rw (rate, is, e, two) refl
folds-whole Family128 n d k r (inl e) (inr four) is rate = rw (rate, is, e, four) refl
folds-whole Family128 n d k r (inr e) (inl two) is rate = rw (rate, is, e, two) refl
folds-whole Family128 n d k r (inr e) (inr four) is rate = rw (rate, is, e, four) refl
folds-whole Family256 n d k r (inl e) (inl two) is rate = rw (rate, is, e, two) refl
folds-whole Family256 n d k r (inl e) (inr four) is rate = rw (rate, is, e, four) refl
folds-whole Family256 n d k r (inr e) (inl two) is rate = rw (rate, is, e, two) refl
folds-whole Family256 n d k r (inr e) (inr four) is rate = rw (rate, is, e, four) refl
