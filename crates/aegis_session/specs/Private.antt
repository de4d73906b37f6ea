-- What the bodies and their proofs use, and no public contract.
use Rattle.std.specs.Prelude.{ℕ, Bool, List, [], ◌∷◌, map, ◌≡◌, ◌||◌, ◌++◌, Option}
use Rattle.std.specs.Io.BufRead.{strip_last}
use Rattle.std.specs.List.{list_any}
use Rattle.std.specs.Io.KnownBytes.{Appends}
use Rattle.aegis_session.specs.Output.{AreAnswers, is_error, output_of, pieces, with_byte}

-- the pieces with these bytes in front of the first one; if there are none, the bytes alone, if the text ends
abbrev pub with_bytes : Bool → List ℕ → List (List ℕ) → List (List ℕ)
with_bytes ends [] pieces = pieces
with_bytes ends (byte ∷ bytes) pieces = with_byte ends byte (with_bytes ends bytes pieces)

-- the lines of a text after the bytes `begun`, in which no line ends
unfoldable pub lines_after : Bool → List ℕ → List ℕ → List (List ℕ)
lines_after ends begun text = map (strip_last 13) (with_bytes ends begun (pieces ends text))

-- All lines of `before` but those of `after` were answered: from `old` to `new`, the answers were written, and `sees`
-- is true if `saw` is or an answer begins with `error `.
pub record Answers (before after : List (List ℕ)) (saw sees : Bool) (old new : Option (List ℕ)) : Type 0 where
  pub answered : List (List ℕ)
  pub texts : List (List ℕ)
  pub split : before ≡ answered ++ after
  pub answers : AreAnswers answered texts
  pub written : Appends old new (output_of texts)
  pub errors : sees ≡ (saw || list_any is_error texts)
