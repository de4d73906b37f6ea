-- What the bodies and their proofs use, and no public contract.
use Rattle.std.specs.Prelude.{◌≡◌, ℕ, ◌+◌, List, length, Result, Ok, Err}
use Rattle.aegis.specs.declared.record.error.RecordError.{RecordError}
use Rattle.aegis.specs.declared.record.frame.Frame.{Frame}
use Rattle.aegis.specs.declared.record.position.RecordPosition.{RecordPosition}
use Rattle.aegis.specs.RecordStream.{Parts, Sealing, frame, sealed}
use Rattle.aegis.specs.RecordResults.{Progress, progress_at}

-- the result is these parts of a record, or their fault
abbrev pub HasParts : Result Frame RecordError → Result Parts RecordError → Type 0
HasParts (Ok frame) found = found ≡ Ok (frame.flag, frame.sealed.now, frame.rest.now)
HasParts (Err e) found = found ≡ Err e

-- the progress is one of a stream under this key, prefix and context, of which the last record was not opened
abbrev pub IsUnder : List ℕ → List ℕ → List ℕ → Progress → Type 0
IsUnder key prefix context p = p ≡ progress_at key prefix context p.position

-- sealing adds 32 bytes, and at one position no two messages are sealed to the same bytes
pub record IsSealing (sealing : Sealing) : Type 0 where
  pub long : (position : RecordPosition) (flag : ℕ) (m : List ℕ) → length (sealing position flag m) ≡ length m + 32
  pub one : (position : RecordPosition) (flag : ℕ) (m n : List ℕ) → sealing position flag m ≡ sealing position flag n → m ≡ n
