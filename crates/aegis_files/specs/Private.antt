-- What the bodies and their proofs use, and no public contract.
use Rattle.std.specs.Prelude.{◌≡◌, ℕ, ◌+◌, ◌<◌, ◌≤◌, ◌⊎◌, List, ◌++◌, Option, length, Bool, false, IfSome, take}
use Rattle.std.specs.Io.KnownBytes.{Consumes, IsAtEnd}
use Rattle.aegis_base.specs.Variant.{max_aead_bytes}
use Rattle.aegis_files.specs.declared.error.FileError.{FileError}
use Rattle.aegis_files.specs.declared.error.FileError.TheVariants.{TooLong, Stream}
use Rattle.aegis.specs.RecordStream.{IsFault, limit}
use Rattle.aegis.specs.declared.record.error.RecordError.{RecordError}
use Rattle.aegis.specs.declared.record.error.RecordError.TheVariants as errors
use Rattle.aegis.specs.RecordResults.{Begun, IsRecordFault, Progress, progress_after, last_flag, record_of, start_of}
use Rattle.aegis_files.specs.Opening.{IsReadError}

-- The bytes `from..end` of a buffer were read: all up to `to`, or all that were left. Those before them are as they were, so if
-- they were read before, one after the other, all up to `end` were.
pub record ReadsPart (old new : List ℕ) (from to end : ℕ) (left left' : Option (List ℕ)) : Type 0 where
  pub within : end ≤ length new
  pub above : from ≤ end
  pub below : end ≤ to
  pub kept : take from new ≡ take from old
  pub read : (first : Option (List ℕ)) → Consumes first left (take from old) → Consumes first left' (take end new)
  pub ended : end < to → IsAtEnd left'

-- The next record was read, and it is that of the message m.
pub record ReadsNext (old new : Progress) (left left' : Option (List ℕ)) (is_last : Bool) (m : List ℕ) : Type 0 where
  pub read : Consumes left left' (record_of old (last_flag is_last) m)
  pub progress : new ≡ progress_after old is_last m
  pub within : length m ≤ limit old.position.version

-- The next record was not opened: a read failed, or memory ran out, or else the error is the first fault of the stream that
-- ends with the bytes that were left, or that stream passes the limit.
pub data FailsNext (p : Progress) (left : Option (List ℕ)) (e : FileError) : Type 0 where
  Unread : IsReadError e → FailsNext p left e
  NoMemory : e ≡ Stream errors.OutOfMemory → FailsNext p left e
  Refused : (why : RecordError) → e ≡ Stream why → IfSome left (λ rest. (ms : List (List ℕ)) (before : List ℕ) → Begun p ms before
      → IsFault p.key p.prefix p.context (before ++ rest) why) → IfSome left (λ rest. p.ended ≡ false → IsRecordFault p rest why) → FailsNext p left e
  Long : e ≡ TooLong → IfSome left (λ rest. max_aead_bytes < start_of p + length rest) → FailsNext p left e

-- a read failed, or some bytes were left
abbrev pub LeavesSome : Option (List ℕ) → FileError → Type 0
LeavesSome left e = IsReadError e ⊎ ((e ≡ Stream errors.Trailing) × IfSome left (λ rest. 0 < length rest))
