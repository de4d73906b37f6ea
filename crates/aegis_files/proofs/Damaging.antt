-- A damaged record lies in the bytes that were read.
use Rattle.std.proofs.Common.{◌≡◌, ℕ, ◌+◌, ◌*◌, ◌≤◌, List, Option, ◌++◌, length, ap, arith, inl, inr}
use Rattle.std.proofs.lemmas.List.{length-append}
use Rattle.aegis.proofs.Lengths.{damaged_at, damaged_within, frames_long, length-frames, number_after}
use Rattle.aegis.proofs.Sealed.{sealed-is}
use Rattle.aegis.specs.RecordStream.{IsFaultAt, frames, header, position_after, sealed}
use Rattle.aegis.specs.declared.record.error.RecordError.TheVariants as errors
use Rattle.aegis.specs.declared.record.position.RecordPosition.{RecordPosition}
use Rattle.aegis.specs.declared.record.version.Version.TheVariants.{Second}
use Rattle.aegis_files.specs.Opening.{AreFrom, IsFileFault, RefusesFile, StopsRange}
use Rattle.aegis_files.specs.declared.error.FileError.{FileError}
use Rattle.aegis_files.specs.declared.error.FileError.TheVariants.{Stream}
use Rattle.aegis_files.specs.declared.range.ContentsRange.{ContentsRange}

fault_in_file : (key context file : List ℕ) (k : ℕ) → IsFileFault key context file (errors.Damaged k) → 24 + 4 + 37 * (k + 1) ≤ length file
fault_in_file key context file k (inl (none, is)) = absurd cc
fault_in_file key context file k (inr (prefix, stream, long, is, fault)) =
    omega (arith, damaged_within key prefix context (header Second ++ stream) k fault, long, ap length is, length-append prefix (header Second ++ stream))

fault_in_range : (key prefix context : List ℕ) (position : RecordPosition) (flag k : ℕ) (messages : List (List ℕ)) (rest bytes : List ℕ)
    → AreFrom key prefix context position flag messages rest bytes → IsFaultAt (sealed key prefix context) (position_after position messages) rest (errors.Damaged k)
    → (position.number ≤ k) × (37 * (k + 1) ≤ 37 * position.number + length bytes)
fault_in_range key prefix context position flag k messages rest bytes from fault =
    let here = damaged_at (sealed key prefix context) (position_after position messages) rest k fault in
    let number = number_after position messages in
    let long = length-frames (sealed key prefix context) (sealed-is key prefix context) position flag messages in
    let bytes_long = length-append (frames (sealed key prefix context) position flag messages) rest in (
      omega (arith, here.0, number),
      omega (arith, here.0, here.1, number, long, bytes_long, frames_long messages, ap length from.are),
    )

pub damaged_in_file : (key context file : List ℕ) (e : FileError) (k : ℕ) → RefusesFile key context file e → e ≡ Stream (errors.Damaged k) → 24 + 4 + 37 * (k + 1) ≤ length file
damaged_in_file key context file e k refuses is = elim (refuses.refused (errors.Damaged k) is) [
  | inl none ↦ absurd cc
  | inr fault ↦ fault_in_file key context file k fault
]

pub damaged_in_range : (key prefix context : List ℕ) (range : ContentsRange) (stream : List ℕ) (old new : Option (List ℕ)) (e : FileError) (k : ℕ)
    → StopsRange key prefix context range stream old new e → e ≡ Stream (errors.Damaged k)
    → (range.position.number ≤ k) × (37 * (k + 1) ≤ 37 * range.position.number + length stream)
damaged_in_range key prefix context range stream old new e k stops is = elim (stops.fault (errors.Damaged k) is) [
  | inl none ↦ absurd cc
  | inr fault ↦ fault_in_range key prefix context range.position stops.flag k stops.messages stops.rest stream stops.records fault
]
