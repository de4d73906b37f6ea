-- Streams of records, for any sealing: a header, and then records, numbered from 0. Each is a flag, the length of its message in
-- four bytes, least byte first, and the sealed message. Bytes that are no stream have a first fault, read from the beginning.
use Rattle.std.specs.Prelude.{◌≡◌, ℕ, ◌+◌, ◌*◌, ◌<◌, ◌≤◌, List, [], ◌∷◌, ◌++◌, codes, length, ◌≢◌, drop, nat_lt, take, Result, Ok, Err, if◌then◌else◌}
use Rattle.std.specs.Int.{w32, to_le_bytes, from_le_bytes, w64}
use Rattle.std.specs.List.{AllByRecursion}
use Rattle.aegis.specs.declared.record.position.RecordPosition.{RecordPosition}
use Rattle.aegis.specs.declared.record.version.Version.{Version}
use Rattle.aegis.specs.declared.record.version.Version.TheVariants.{First, Second}
use Rattle.aegis.specs.declared.record.error.RecordError.{RecordError}
use Rattle.aegis.specs.declared.record.error.RecordError.TheVariants as errors
use Rattle.aegis_base.specs.Variant.{Aegis256, long_tag_bytes}
use Rattle.aegis_base.specs.Message.{ciphertext, tag}

-- the bytes that a stream begins with
abbrev pub header : Version → List ℕ
header First = codes "AGR1"
header Second = codes "AGR2"

-- how many bytes a record's message may have
abbrev pub limit : Version → ℕ
limit First = 65_536
limit Second = 16_777_216

-- the ciphertext and the tag of a record, from its position, its flag and its message
abbrev pub Sealing : Type 0
Sealing = RecordPosition → ℕ → List ℕ → List ℕ

-- how many bytes a record has more than its message: a flag, a length and a tag
abbrev pub record_overhead : ℕ
record_overhead = 37

-- the record at a position
unfoldable pub frame : Sealing → RecordPosition → ℕ → List ℕ → List ℕ
frame sealing position flag m = flag ∷ (to_le_bytes w32 (length m) ++ sealing position flag m)

-- the position of a stream's first record
abbrev pub first_position : Version → RecordPosition
first_position v = record { version = v; number = 0; before = 0 }

-- the position after a record of this message, and after records of these messages
abbrev pub next_position : RecordPosition → List ℕ → RecordPosition
next_position position m = record { version = position.version; number = position.number + 1; before = position.before + length m }

abbrev pub position_after : RecordPosition → List (List ℕ) → RecordPosition
position_after position [] = position
position_after position (m ∷ ms) = position_after (next_position position m) ms

-- the byte of a stream at which the record at a position starts: how many bytes the stream has up to it
abbrev pub start_at : RecordPosition → ℕ
start_at position = 4 + record_overhead * position.number + position.before

-- the flag of a record before these messages: 0, or `last` if there are none
abbrev pub flag_before : ℕ → List (List ℕ) → ℕ
flag_before last [] = last
flag_before last (m ∷ ms) = 0

-- the records of messages, from a position on; the last has the flag `last`
unfoldable pub frames : Sealing → RecordPosition → ℕ → List (List ℕ) → List ℕ
frames sealing position last [] = []
frames sealing position last (m ∷ ms) =
    frame sealing position (flag_before last ms) m ++ frames sealing (next_position position m) last ms

-- a header and the records of messages: a stream if `last` is 1, and the beginning of one if it is 0
abbrev pub beginning : Sealing → Version → ℕ → List (List ℕ) → List ℕ
beginning sealing v last ms = header v ++ frames sealing (first_position v) last ms

-- no message is longer than a record's may be
abbrev pub AreWithin : Version → List (List ℕ) → Type 0
AreWithin v ms = AllByRecursion (λ m. length m ≤ limit v) ms

-- the bytes are the stream of the messages, of which there is at least one
pub record IsRecordStream (sealing : Sealing) (v : Version) (ms : List (List ℕ)) (bytes : List ℕ) : Type 0 where
  pub some : 0 < length ms
  pub within : AreWithin v ms
  pub are : bytes ≡ beginning sealing v 1 ms

-- each record adds 37 bytes to its message, and the header has four
abbrev pub frames_length : List (List ℕ) → ℕ
frames_length [] = 0
frames_length (m ∷ ms) = (record_overhead + length m) + frames_length ms

-- how long the stream of the messages is
abbrev pub records_length : List (List ℕ) → ℕ
records_length ms = 4 + frames_length ms

-- ---- laws

-- Two streams that the same bytes begin with are one: no bytes are the streams of two lists, and no stream begins another.
abbrev pub IsOneRecordStream : Sealing → Type 0
IsOneRecordStream sealing =
    (v w : Version) (ms ns : List (List ℕ)) (a b x y : List ℕ)
    → IsRecordStream sealing v ms a → IsRecordStream sealing w ns b → a ++ x ≡ b ++ y → (v ≡ w) × (ms ≡ ns) × (x ≡ y)

-- ---- the first fault

-- the number in the first four bytes, least byte first
abbrev pub length_at : List ℕ → ℕ
length_at bytes = from_le_bytes w32 (take 4 bytes)

-- a record's flag, its sealed message, and the bytes after the record
abbrev pub Parts : Type 0
Parts = ℕ × List ℕ × List ℕ

-- the parts of a record with this flag, of which these are the bytes after the flag, or the first fault
abbrev pub parts_after : Version → ℕ → List ℕ → Result Parts RecordError
parts_after v flag bytes =
    if nat_lt 1 flag then Err errors.Flag
    else if nat_lt (length bytes) 4 then Err errors.Truncated
    else if nat_lt (limit v) (length_at bytes) then Err errors.TooLong
    else if nat_lt (length (drop 4 bytes)) (length_at bytes + long_tag_bytes) then Err errors.Truncated
    else Ok (flag, take (length_at bytes + long_tag_bytes) (drop 4 bytes), drop (length_at bytes + long_tag_bytes) (drop 4 bytes))

-- the parts of bytes that begin with a record, sealed or not, or the first fault
unfoldable pub parts : Version → List ℕ → Result Parts RecordError
parts v [] = Err errors.Truncated
parts v (flag ∷ bytes) = parts_after v flag bytes

-- the fault of the record at a position, by the parts of its bytes; a record is damaged if no message is sealed to its bytes
abbrev pub HasFault : Sealing → RecordPosition → Result Parts RecordError → RecordError → Type 0
HasFault sealing position (Err fault) e = e ≡ fault
HasFault sealing position (Ok found) e = ((m : List ℕ) → sealing position found.0 m ≢ found.1) × (e ≡ errors.Damaged position.number)

-- the fault of bytes that do not begin with a record at this position
abbrev pub IsFaultAt : Sealing → RecordPosition → List ℕ → RecordError → Type 0
IsFaultAt sealing position bytes e = HasFault sealing position (parts position.version bytes) e

-- The fault of bytes, by its position: they begin with no header; or after a header and all whole records with the flag 0 the
-- next record has a fault; or bytes follow a stream.
pub data FirstFault (sealing : Sealing) (bytes : List ℕ) (e : RecordError) : Type 0 where
  AtHeader : ((v : Version) → take 4 bytes ≢ header v) → e ≡ errors.Header → FirstFault sealing bytes e
  AtRecord : (v : Version) (ms : List (List ℕ)) (rest : List ℕ) → AreWithin v ms → bytes ≡ beginning sealing v 0 ms ++ rest
      → IsFaultAt sealing (position_after (first_position v) ms) rest e → FirstFault sealing bytes e
  AtEnd : (v : Version) (ms : List (List ℕ)) (stream rest : List ℕ) → IsRecordStream sealing v ms stream → bytes ≡ stream ++ rest
      → 0 < length rest → e ≡ errors.Trailing → FirstFault sealing bytes e

-- the same as one fact, which tactics do not take apart
unfoldable pub IsFaultOf : Sealing → List ℕ → RecordError → Type 0
IsFaultOf sealing bytes e = FirstFault sealing bytes e

-- bytes have at most one fault, and a stream has none
abbrev pub IsOneFault : Sealing → Type 0
IsOneFault sealing =
    ((bytes : List ℕ) (d e : RecordError) → IsFaultOf sealing bytes d → IsFaultOf sealing bytes e → d ≡ e)
    × ((bytes : List ℕ) (v : Version) (ms : List (List ℕ)) (e : RecordError) → IsRecordStream sealing v ms bytes → IsFaultOf sealing bytes e → ⊥)

-- ---- the sealing of record streams: AEGIS-256 with a tag of 32 bytes, under the stream's key

-- how many bytes the context of a stream may have
abbrev pub max_context_bytes : ℕ
max_context_bytes = 65_535

-- the nonce of record k: the stream's prefix, of 24 bytes, and the number, least byte first
abbrev pub prefix_bytes : ℕ
prefix_bytes = 24

abbrev pub nonce : List ℕ → ℕ → List ℕ
nonce prefix k = prefix ++ to_le_bytes w64 k

-- in version 2 a record's associated data has how many bytes the messages before it have
abbrev pub before_bytes : Version → ℕ → List ℕ
before_bytes First before = []
before_bytes Second before = to_le_bytes w64 before

-- the associated data of a record: the header, its number, the bytes before it, its flag, and the stream's context
abbrev pub record_associated_data : RecordPosition → ℕ → List ℕ → List ℕ
record_associated_data position flag context =
    header position.version ++ to_le_bytes w64 position.number ++ before_bytes position.version position.before ++ flag ∷ context

-- a record's ciphertext and tag
unfoldable pub sealed : List ℕ → List ℕ → List ℕ → Sealing
sealed key prefix context position flag m =
    ciphertext Aegis256 key (nonce prefix position.number) (record_associated_data position flag context) m
    ++ tag Aegis256 long_tag_bytes key (nonce prefix position.number) (record_associated_data position flag context) m

-- the bytes are the stream of the messages: there is at least one, and none is longer than the version allows
abbrev pub AreRecords : Version → List ℕ → List ℕ → List ℕ → List (List ℕ) → List ℕ → Type 0
AreRecords v key prefix context ms bytes = IsRecordStream (sealed key prefix context) v ms bytes

-- the fault of bytes that are the stream of no messages
abbrev pub IsFault : List ℕ → List ℕ → List ℕ → List ℕ → RecordError → Type 0
IsFault key prefix context bytes e = IsFaultOf (sealed key prefix context) bytes e
