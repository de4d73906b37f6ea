-- The lines of a text, and the output of the line program and its exit status.
use Rattle.std.specs.Prelude.{ℕ, Bool, true, ◌==◌, List, [], ◌∷◌, map, if◌then◌else◌, ◌≡◌, ◌++◌, Option, Some, codes, flat_map}
use Rattle.std.specs.Io.BufRead.{strip_last}
use Rattle.std.specs.List.{list_any, starts_with}
use Rattle.std.specs.Io.KnownBytes.{Appends, Consumes, IsAtEnd}
use Rattle.aegis_lines.specs.Answer.{IsAnswer}

-- ---- The lines of a text. The bytes after its last line feed are a line only if the text ends there (`ends`).

-- the pieces with a byte in front of the first one; if there are none, the byte alone, if the text ends
abbrev pub with_byte : Bool → ℕ → List (List ℕ) → List (List ℕ)
with_byte ends byte [] = if ends then (byte ∷ []) ∷ [] else []
with_byte ends byte (piece ∷ pieces) = (byte ∷ piece) ∷ pieces

-- the pieces that a line feed ends, and then the bytes after the last line feed, if there are any and the text ends
abbrev pub pieces : Bool → List ℕ → List (List ℕ)
pieces ends [] = []
pieces ends (byte ∷ text) = if byte == 10 then [] ∷ pieces ends text else with_byte ends byte (pieces ends text)

-- the pieces, each without its carriage return if it ends with one
unfoldable pub lines_of : Bool → List ℕ → List (List ℕ)
lines_of ends text = map (strip_last 13) (pieces ends text)

-- the lines of a text that ends
abbrev pub lines : List ℕ → List (List ℕ)
lines text = lines_of true text

-- ---- the output

-- each text answers its line, in order
abbrev pub AreAnswers : List (List ℕ) → List (List ℕ) → Type 0
AreAnswers [] [] = Unit {0}
AreAnswers [] (text ∷ texts) = ⊥
AreAnswers (line ∷ lines) [] = ⊥
AreAnswers (line ∷ lines) (text ∷ texts) = IsAnswer line text × AreAnswers lines texts

-- the texts, each with a line feed
abbrev pub output_of : List (List ℕ) → List ℕ
output_of texts = flat_map (λ text. text ++ 10 ∷ []) texts

-- whether the text begins with `error `
abbrev pub is_error : List ℕ → Bool
is_error text = starts_with ◌==◌ text (codes "error ")

-- Every line is answered, with a line feed after each answer. The status is 1 if one begins with `error `, and otherwise 0.
pub record AnswersAll (lines : List (List ℕ)) (old new : Option (List ℕ)) (status : ℕ) : Type 0 where
  pub texts : List (List ℕ)
  pub answers : AreAnswers lines texts
  pub written : Appends old new (output_of texts)
  pub status_is : status ≡ (if list_any is_error texts then 1 else 0)

-- From `old` to `new`, a beginning of the answers to the first of the lines was written.
pub record AnswersSome (lines : List (List ℕ)) (old new : Option (List ℕ)) : Type 0 where
  pub first : List (List ℕ)
  pub others : List (List ℕ)
  pub texts : List (List ℕ)
  pub begun : List ℕ
  pub missing : List ℕ
  pub split : lines ≡ first ++ others
  pub answers : AreAnswers first texts
  pub begins : output_of texts ≡ begun ++ missing
  pub written : Appends old new begun

-- All bytes of a reader were read but those that are left. From `old` to `new`, a beginning of the answers to the first
-- of the lines read was written; a line that no line feed ends is one of them only if the reader was at its end.
pub record AnswersRead (bytes : List ℕ) (left old new : Option (List ℕ)) : Type 0 where
  pub read : List ℕ
  pub ends : Bool
  pub split : Consumes (Some bytes) left read
  pub at_end : ends ≡ true → IsAtEnd left
  pub written : AnswersSome (lines_of ends read) old new
