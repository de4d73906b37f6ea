-- What the calls of the cipher say of a record, and that the cipher is a sealing.
use borrow.Rule.Slice.PartMut.{put_mid}
use Rattle.std.proofs.Common.{◌≡◌, ℕ, zero, suc, ◌+◌, ◌-◌, ◌≤◌, List, [], ◌∷◌, ◌++◌, length, take, drop, refl, sym, ap, ◌∙◌, arith, inl, inr}
use Rattle.std.proofs.lemmas.List.{append-nil, drop_at, length-append, take_at, take-append-drop}
use Rattle.aegis_base.specs.Variant.{Aegis256}
use Rattle.aegis_base.specs.Message.{Opens, ciphertext, lane_before, seal, tag}
use Rattle.aegis_base.proofs.Bijection.{ciphertext-injective, length-ciphertext}
use Rattle.aegis_base.proofs.Lengths.{length_tag}
use Rattle.aegis.specs.declared.record.position.RecordPosition.{RecordPosition}
use Rattle.aegis.specs.RecordStream.{record_associated_data, nonce, sealed}
use Rattle.aegis.specs.Private.{IsSealing}

pub drop-past : (k : ℕ) (xs : List ℕ) → length xs ≤ k → drop k xs ≡ []
drop-past zero [] h = refl
drop-past (suc k) [] h = refl
drop-past zero (x ∷ xs) h = absurd (omega arith)
drop-past (suc k) (x ∷ xs) h = drop-past k xs (omega arith)

-- a nonce that is written in two parts
pub nonce_filled : (a z b p le : List ℕ) → a ≡ p → length p ≡ 24 → length z ≡ 8 → b ≡ le → put_mid 24 8 (a ++ z) b ≡ p ++ le
nonce_filled a z b p le ae long size be =
    ap (λ (l : List ℕ). put_mid 24 8 (l ++ z) b) ae ∙ ap (put_mid 24 8 (p ++ z)) be ∙ spelled
  where
    spelled : put_mid 24 8 (p ++ z) le ≡ p ++ le
    spelled = rw (take_at p z 24 long, drop_at p z 24 long, drop-past 8 z (omega arith), append-nil le) refl

tag_long : (key nonce ad m : List ℕ) → length (tag Aegis256 32 key nonce ad m) ≡ 32
tag_long key nonce ad m = length_tag Aegis256 32 key nonce ad m (inl refl) (inr refl)

-- a ciphertext and the tag after it are what the message is sealed to
pub joined : (key prefix context : List ℕ) (at : RecordPosition) (flag : ℕ) (m c t : List ℕ)
    → (c, t) ≡ seal Aegis256 32 key (nonce prefix at.number) (record_associated_data at flag context) m → c ++ t ≡ sealed key prefix context at flag m
unfolding sealed
joined key prefix context at flag m c t is = ap (λ (p : List ℕ × List ℕ). p.0 ++ p.1) is

-- bytes whose beginning opens with the tag after it are what the message is sealed to
pub opened : (key prefix context : List ℕ) (at : RecordPosition) (flag : ℕ) (m bytes c t : List ℕ)
    → Opens Aegis256 32 key (nonce prefix at.number) (record_associated_data at flag context) c t m
    → c ≡ take (length bytes - 32) bytes → t ≡ drop (length bytes - 32) bytes → sealed key prefix context at flag m ≡ bytes
unfolding sealed
opened key prefix context at flag m bytes c t opens ce te = grind (arith, opens, take-append-drop)

-- and the other way round
pub opens : (key prefix context : List ℕ) (at : RecordPosition) (flag : ℕ) (m bytes c t : List ℕ) → sealed key prefix context at flag m ≡ bytes
    → c ≡ take (length bytes - 32) bytes → t ≡ drop (length bytes - 32) bytes
    → Opens Aegis256 32 key (nonce prefix at.number) (record_associated_data at flag context) c t m
unfolding sealed
opens key prefix context at flag m bytes c t e ce te = grind (arith, length-append, tag_long, take_at, drop_at)

pub sealed-is : (key prefix context : List ℕ) → IsSealing (sealed key prefix context)
unfolding sealed
sealed-is key prefix context = record { long = long; one = one }
  where
    long : (at : RecordPosition) (flag : ℕ) (m : List ℕ) → length (sealed key prefix context at flag m) ≡ length m + 32
    long at flag m =
        let n = nonce prefix at.number in
        let ad = record_associated_data at flag context in
        omega (
          arith,
          length-append (ciphertext Aegis256 key n ad m) (tag Aegis256 32 key n ad m),
          tag_long key n ad m,
          length-ciphertext Aegis256 (lane_before Aegis256 key n ad) m,
        )

    one : (at : RecordPosition) (flag : ℕ) (m n : List ℕ) → sealed key prefix context at flag m ≡ sealed key prefix context at flag n → m ≡ n
    one at flag m n e =
        let nc = nonce prefix at.number in
        let ad = record_associated_data at flag context in
        let same : length m ≡ length n = let both = ap length e in omega (arith, long at flag m, long at flag n) in
        let cm = ciphertext Aegis256 key nc ad m in
        let cn = ciphertext Aegis256 key nc ad n in
        let lm : length cm ≡ length m = length-ciphertext Aegis256 (lane_before Aegis256 key nc ad) m in
        let ln : length cn ≡ length m = length-ciphertext Aegis256 (lane_before Aegis256 key nc ad) n ∙ sym same in
        ciphertext-injective Aegis256 (lane_before Aegis256 key nc ad) m n (inl refl)
        (sym (take_at cm (tag Aegis256 32 key nc ad m) (length m) lm) ∙ ap (take (length m)) e ∙ take_at cn (tag Aegis256 32 key nc ad n) (length m) ln)
