-- The messages of a stream that is written record by record, and what is left of them.
use denote.Ref.{Bor}
use Rattle.std.proofs.Common.{◌≡◌, zero, suc, ℕ, ◌<◌, ◌≤◌, List, [], ◌∷◌, ◌++◌, length, drop, take, slice_index_or, refl, sym, ap, ◌+◌, ◌∙◌, arith}
use Rattle.aegis.specs.declared.record.version.Version.{Version}
use Rattle.aegis_base.specs.Chunks.{texts}
use Rattle.aegis.specs.RecordStream.{AreWithin, limit}

pub drop_texts : (ms : List (Bor (List ℕ))) (i : ℕ) (d : Bor (List ℕ)) → i < length ms
    → drop i (texts ms) ≡ (slice_index_or ms i d).now ∷ drop (suc i) (texts ms)
drop_texts [] i d h = absurd (omega arith)
drop_texts (m ∷ ms) zero d h = refl
drop_texts (m ∷ ms) (suc i) d h = drop_texts ms i d (omega arith)

pub take_texts : (ms : List (Bor (List ℕ))) (i : ℕ) (d : Bor (List ℕ)) → i < length ms
    → take (suc i) (texts ms) ≡ take i (texts ms) ++ (slice_index_or ms i d).now ∷ []
take_texts [] i d h = absurd (omega arith)
take_texts (m ∷ ms) zero d h = refl
take_texts (m ∷ ms) (suc i) d h = ap (λ (l : List (List ℕ)). m.now ∷ l) (take_texts ms i d (omega arith))

take_all : (ms : List (Bor (List ℕ))) (n : ℕ) → length ms ≤ n → take n (texts ms) ≡ texts ms
take_all [] zero h = refl
take_all [] (suc n) h = refl
take_all (m ∷ ms) zero h = absurd (omega arith)
take_all (m ∷ ms) (suc n) h = ap (λ (l : List (List ℕ)). m.now ∷ l) (take_all ms n (omega arith))

-- all messages but the last, and the last
pub with_the_last : (ms : List (Bor (List ℕ))) (n : ℕ) (d : Bor (List ℕ)) → n + 1 ≡ length ms
    → take n (texts ms) ++ (slice_index_or ms n d).now ∷ [] ≡ texts ms
with_the_last ms n d is = sym (take_texts ms n d (omega arith)) ∙ take_all ms (suc n) (omega arith)

pub within_at : (v : Version) (ms : List (Bor (List ℕ))) (i : ℕ) (d : Bor (List ℕ)) → i < length ms → AreWithin v (texts ms)
    → length (slice_index_or ms i d).now ≤ limit v
within_at v [] i d h w = absurd (omega arith)
within_at v (m ∷ ms) zero d h w = w.0
within_at v (m ∷ ms) (suc i) d h w = within_at v ms i d (omega arith) w.1
