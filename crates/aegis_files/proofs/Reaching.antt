-- Records that are read or written one after the other, from a position on.
use Rattle.std.proofs.Common.{◌≡◌, ℕ, ◌+◌, ◌<◌, ◌≤◌, Bool, true, false, List, [], ◌∷◌, ◌++◌, length, refl, ap, ◌∙◌, arith}
use Rattle.std.proofs.lemmas.List.{length-append}
use Rattle.std.specs.List.{concat}
use Rattle.aegis.specs.declared.record.position.RecordPosition.{RecordPosition}
use Rattle.aegis.specs.declared.record.version.Version.TheVariants.{Second}
use Rattle.aegis.specs.RecordResults.{Progress, progress_after, last_flag, progress_at, record_of, start_of}
use Rattle.aegis.specs.RecordStream.{AreRecords, AreWithin, first_position, frames, frames_length, header, limit, position_after, sealed, start_at}
use Rattle.aegis.proofs.Frames.{frames_push, position_append, version_after, within_append}
use Rattle.aegis.proofs.Lengths.{length-frames, start_after}
use Rattle.aegis.proofs.Sealed.{sealed-is}
use Rattle.aegis_files.specs.Opening.{AreFrom}
use Rattle.aegis_files.proofs.Pieces.{counted_after}

-- The bytes are the records of the messages from the position on, and p is the progress after them.
pub record Reaches (key prefix context : List ℕ) (at : RecordPosition) (p : Progress) (is_last : Bool) (messages : List (List ℕ)) (bytes : List ℕ) : Type 0 where
  pub reached : p ≡ record (progress_at key prefix context (position_after at messages)) { ended = is_last }
  pub some : is_last ≡ true → 0 < length messages
  pub within : AreWithin at.version messages
  pub are : bytes ≡ frames (sealed key prefix context) at (last_flag is_last) messages

pub reaches_none : (key prefix context : List ℕ) (at : RecordPosition) (p : Progress) → p ≡ progress_at key prefix context at → Reaches key prefix context at p false [] []
unfolding frames
reaches_none key prefix context at p is = record { reached = is; some = λ no. absurd cc; within = tt; are = refl }

pub reaches_more : (key prefix context : List ℕ) (at : RecordPosition) (p q : Progress) (is_last : Bool) (messages : List (List ℕ)) (bytes m : List ℕ)
    → Reaches key prefix context at p false messages bytes → q ≡ progress_after p is_last m → length m ≤ limit p.position.version
    → Reaches key prefix context at q is_last (messages ++ m ∷ []) (bytes ++ record_of p (last_flag is_last) m)
reaches_more key prefix context at p q is_last messages bytes m r next low =
    grind (arith, version_after, position_append, length-append, within_append, frames_push)

-- how far it is
pub reaches_size : (key prefix context : List ℕ) (at : RecordPosition) (p : Progress) (is_last : Bool) (messages : List (List ℕ)) (bytes : List ℕ)
    → Reaches key prefix context at p is_last messages bytes → start_of p ≡ start_at at + length bytes
reaches_size key prefix context at p is_last messages bytes r = grind (arith, start_after, length-frames, sealed-is)

pub reaches_start : (key prefix context : List ℕ) (at : RecordPosition) (p : Progress) (is_last : Bool) (messages : List (List ℕ)) (bytes : List ℕ)
    → Reaches key prefix context at p is_last messages bytes → start_of p ≡ start_at at + frames_length messages
reaches_start key prefix context at p is_last messages bytes r = ap (λ (p : Progress). start_of p) r.reached ∙ start_after at messages

pub reaches_counts : (key prefix context : List ℕ) (at : RecordPosition) (p : Progress) (is_last : Bool) (messages : List (List ℕ)) (bytes : List ℕ)
    → Reaches key prefix context at p is_last messages bytes → (p.position.number ≡ at.number + length messages) × (p.position.before ≡ at.before + length (concat messages))
reaches_counts key prefix context at p is_last messages bytes r = grind (arith, counted_after)

pub are_from : (key prefix context : List ℕ) (at : RecordPosition) (p : Progress) (is_last : Bool) (messages : List (List ℕ)) (taken rest f : List ℕ)
    → Reaches key prefix context at p is_last messages taken → f ≡ taken ++ rest → AreFrom key prefix context at (last_flag is_last) messages rest f
are_from key prefix context at p is_last messages taken rest f r is = grind arith

-- a header and these records are a stream
pub reaches_stream : (key prefix context : List ℕ) (p : Progress) (messages : List (List ℕ)) (bytes : List ℕ)
    → Reaches key prefix context (first_position Second) p true messages bytes → AreRecords Second key prefix context messages (header Second ++ bytes)
reaches_stream key prefix context p messages bytes r = grind arith

pub reaches_version : (key prefix context : List ℕ) (at : RecordPosition) (p : Progress) (is_last : Bool) (messages : List (List ℕ)) (bytes : List ℕ)
    → Reaches key prefix context at p is_last messages bytes → p.position.version ≡ at.version
reaches_version key prefix context at p is_last messages bytes r = ap (λ (p : Progress). p.position.version) r.reached ∙ version_after at messages
