-- The length of a stream as a sum over its messages.
use denote.Ref.{Bor}
use Rattle.std.proofs.Common.{◌≡◌, ℕ, zero, suc, ◌+◌, ◌*◌, ◌<◌, ◌≤◌, List, [], ◌∷◌, length, drop, take, slice_index_or, add-one, Result, Ok, Err, refl, ap, ◌∙◌, arith}
use Rattle.std.specs.Int.{w32, to_le_bytes}
use Rattle.std.proofs.lemmas.List.{length-append, length-drop}
use Rattle.aegis.specs.declared.record.position.RecordPosition.{RecordPosition}
use Rattle.aegis.specs.declared.record.version.Version.{Version}
use Rattle.aegis_base.specs.Chunks.{texts}
use Rattle.aegis.specs.RecordResults.{Begun, Progress, start_of}
use Rattle.aegis.specs.declared.record.error.RecordError.{RecordError}
use Rattle.aegis.specs.declared.record.error.RecordError.TheVariants as errors
use Rattle.aegis.specs.RecordStream.{AreRecords, AtEnd, AtHeader, AtRecord, HasFault, IsFault, IsFaultAt, IsFaultOf, Parts, parts, IsRecordStream, Sealing, beginning, first_position, flag_before, frame, frames, frames_length, header, next_position, position_after, records_length, sealed, start_at}
use Rattle.aegis.specs.Private.{IsSealing}
use Rattle.aegis.proofs.Frames.{header_size}
use Rattle.aegis.proofs.Reading.{parts_cut, parts_known}
use Rattle.aegis.proofs.Sealed.{sealed-is}

pub length-frame : (s : Sealing) → IsSealing s → (at : RecordPosition) (flag : ℕ) (m : List ℕ) → length (frame s at flag m) ≡ 37 + length m
unfolding frame
length-frame s is at flag m = omega (arith, is.long at flag m, length-append (to_le_bytes w32 (length m)) (s at flag m))

pub length-frames : (s : Sealing) → IsSealing s → (at : RecordPosition) (last : ℕ) (ms : List (List ℕ)) → length (frames s at last ms) ≡ frames_length ms
unfolding frames
length-frames s is at last [] = refl
length-frames s is at last (m ∷ ms) =
    omega (
      arith,
      length-frames s is (next_position at m) last ms,
      length-frame s is at (flag_before last ms) m,
      length-append (frame s at (flag_before last ms) m) (frames s (next_position at m) last ms),
    )

length-beginning : (s : Sealing) → IsSealing s → (v : Version) (last : ℕ) (ms : List (List ℕ)) → length (beginning s v last ms) ≡ records_length ms
length-beginning s is v last ms =
    omega (arith, header_size v, length-frames s is (first_position v) last ms, length-append (header v) (frames s (first_position v) last ms))

pub length-stream : (s : Sealing) → IsSealing s → (v : Version) (ms : List (List ℕ)) (bytes : List ℕ) → IsRecordStream s v ms bytes
    → length bytes ≡ records_length ms
length-stream s is v ms bytes p = ap length p.are ∙ length-beginning s is v 1 ms

pub stream_length : (v : Version) (key prefix context : List ℕ) (ms : List (List ℕ)) (bytes : List ℕ)
    → AreRecords v key prefix context ms bytes → length bytes ≡ records_length ms
stream_length v key prefix context ms bytes p =
    length-stream (sealed key prefix context) (sealed-is key prefix context) v ms bytes p

pub start_after : (at : RecordPosition) (ms : List (List ℕ)) → start_at (position_after at ms) ≡ start_at at + frames_length ms
start_after at [] = omega arith
start_after at (m ∷ ms) = let rest = start_after (next_position at m) ms in omega arith

pub length-begun : (p : Progress) (ms : List (List ℕ)) (bytes : List ℕ) → Begun p ms bytes → length bytes ≡ start_of p
unfolding Begun
length-begun p ms bytes b = grind (arith, length-beginning, sealed-is, start_after)

pub ruleset begun_laws = (length-begun)

-- ---- a damaged record

pub number_after : (at : RecordPosition) (ms : List (List ℕ)) → (position_after at ms).number ≡ at.number + length ms
number_after at [] = omega arith
number_after at (m ∷ ms) = let rest = number_after (next_position at m) ms in omega arith

pub frames_long : (ms : List (List ℕ)) → 37 * length ms ≤ frames_length ms
frames_long [] = omega arith
frames_long (m ∷ ms) = let rest = frames_long ms in omega arith

-- it is the record at its position, and has what a record has more than its message
pub damaged_at : (s : Sealing) (at : RecordPosition) (bytes : List ℕ) (k : ℕ) → IsFaultAt s at bytes (errors.Damaged k) → (k ≡ at.number) × (37 ≤ length bytes)
damaged_at s at bytes k fault = go (parts at.version bytes) refl fault
  where
    go : (found : Result Parts RecordError) → parts at.version bytes ≡ found → HasFault s at found (errors.Damaged k) → (k ≡ at.number) × (37 ≤ length bytes)
    go (Err e) is none = absurd (parts_known at.version bytes k cc)
    go (Ok p) is wrong =
        let cut = parts_cut at.version bytes p is in
        let named = wrong.1 in
        (cc, omega (arith, cut.five, cut.size, ap length cut.body, length-append p.1 p.2, length-drop 5 bytes))

damaged_in : (s : Sealing) → IsSealing s → (bytes : List ℕ) (k : ℕ) → IsFaultOf s bytes (errors.Damaged k) → 4 + 37 * (k + 1) ≤ length bytes
unfolding IsFaultOf
damaged_in s is bytes k (AtHeader unknown e) = absurd cc
damaged_in s is bytes k (AtEnd v ms stream rest records are some e) = absurd cc
damaged_in s is bytes k (AtRecord v ms rest within are fault) =
    let here = damaged_at s (position_after (first_position v) ms) rest k fault in
    omega (arith, here.0, here.1, number_after (first_position v) ms, frames_long ms, length-beginning s is v 0 ms, ap length are, length-append (beginning s v 0 ms) rest)

pub damaged_within : (key prefix context bytes : List ℕ) (k : ℕ) → IsFault key prefix context bytes (errors.Damaged k) → 4 + 37 * (k + 1) ≤ length bytes
damaged_within key prefix context bytes k fault = damaged_in (sealed key prefix context) (sealed-is key prefix context) bytes k fault

pub ruleset damaged_laws = (damaged_within)

pub begun_start : (p : Progress) (ms : List (List ℕ)) (bytes : List ℕ) → Begun p ms bytes → start_of p ≡ records_length ms
unfolding Begun
begun_start p ms bytes b = ap start_at b.place ∙ start_after (first_position p.position.version) ms

-- one more message
frames_length-next : (slices : List (Bor (List ℕ))) (i : ℕ) (d : Bor (List ℕ)) → i < length slices
    → frames_length (texts (take (suc i) slices)) ≡ frames_length (texts (take i slices)) + (37 + length (slice_index_or slices i d).now)
frames_length-next [] i d low = absurd (omega arith)
frames_length-next (m ∷ ms) zero d low = omega arith
frames_length-next (m ∷ ms) (suc i) d low = let rest = frames_length-next ms i d (omega arith) in omega arith

pub frames_length_more : (slices : List (Bor (List ℕ))) (i : ℕ) (d : Bor (List ℕ)) → i < length slices
    → frames_length (texts (take (i + 1) slices)) ≡ frames_length (texts (take i slices)) + (37 + length (slice_index_or slices i d).now)
frames_length_more slices i d low = rw add-one (frames_length-next slices i d low)

pub frames_length_within : (slices : List (Bor (List ℕ))) (i : ℕ) → frames_length (texts (take i slices)) ≤ frames_length (texts slices)
frames_length_within [] zero = omega arith
frames_length_within [] (suc i) = omega arith
frames_length_within (m ∷ ms) zero = omega arith
frames_length_within (m ∷ ms) (suc i) = let rest = frames_length_within ms i in omega arith
