-- The answer if the cipher refuses the tag.
use Rattle.std.proofs.Common.{◌≡◌, IfOk, List, Ok, Err, Result, inr, sym, true≢false, ℕ}
use Rattle.std.specs.Prelude.{codes}
use Rattle.std.specs.declared.vec.Vec.{Vec}
use Rattle.aegis_lines.specs.Answer.{IsOpeningAnswer}
use Rattle.aegis_lines.proofs.answer.open_chunks.Goals as goal

refused : {A E : Type 0} (r : Result (Vec ℕ A) E) (IsMessage : List ℕ → Type 0) → ((m : List ℕ) → IsMessage m → ⊥)
    → IfOk r (λ text. text.items ≡ codes "invalid tag") → IfOk r (λ text. IsOpeningAnswer IsMessage text.items)
refused (Ok text) IsMessage none is = inr (none, is)
refused (Err error) IsMessage none is = tt

pub returns-in_default : goal.returns-in_default
returns-in_default g c = refused c.from_slice.result _ (λ m sealed. true≢false (sym (c.in_default.ensures.accepted m sealed))) c.from_slice.ensures.items
