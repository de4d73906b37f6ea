-- The results of the functions on records, and the progress of a stream.
use Rattle.std.specs.Prelude.{◌≡◌, ℕ, ◌+◌, ◌-◌, Bool, ◌≤◌, ◌⊎◌, List, ◌++◌, drop, length, map, replicate, take, Result, Ok, Err, false, if◌then◌else◌, ◌≢◌, true, [], ◌∷◌}
use Rattle.aegis_base.specs.Message.{erased_byte}
use Rattle.std.specs.declared.vec.Vec.{Vec}
use Rattle.aegis.specs.declared.record.error.RecordError.{RecordError}
use Rattle.aegis.specs.declared.record.error.RecordError.TheVariants as errors
use Rattle.aegis.specs.declared.record.position.RecordPosition.{RecordPosition}
use Rattle.aegis.specs.declared.record.record_cipher.RecordCipher.{RecordCipher}
use Rattle.aegis.specs.declared.record.record_opener.Opened.{Opened}
use Rattle.aegis.specs.declared.record.record_opener.in_place.OpenedInPlace.{OpenedInPlace}
use Rattle.aegis.specs.declared.record.version.Version.TheVariants.{Second}
use Rattle.aegis.specs.RecordStream.{AreRecords, AreWithin, IsFault, IsFaultAt, Sealing, beginning, first_position, frame, length_at, limit, next_position, parts, position_after, sealed, start_at, record_overhead}
use Rattle.std.specs.Bool.{OnFalse, OnTrue}
use Rattle.aegis.specs.declared.record.version.Version.{Version}

-- the bytes of each vector
abbrev pub messages : {A : Type 0} → List (Vec ℕ A) → List (List ℕ)
messages vectors = map (λ vector. vector.items) vectors

-- the result is these messages, unless memory ran out
abbrev pub OpensTo : {A : Type 0} → List (List ℕ) → Result (Vec (Vec ℕ A) A) RecordError → Type 0
OpensTo ms (Ok opened) = messages opened.items ≡ ms
OpensTo ms (Err e) = e ≡ errors.OutOfMemory

-- the result is the stream of these messages in version 2, unless memory ran out
abbrev pub MigratesTo : {A : Type 0} → List ℕ → List ℕ → List ℕ → List (List ℕ) → Result (Vec ℕ A) RecordError → Type 0
MigratesTo key prefix context ms (Ok stream) = AreRecords Second key prefix context ms stream.items
MigratesTo key prefix context ms (Err e) = e ≡ errors.OutOfMemory

-- the result is this error, unless memory ran out
abbrev pub IsRefused : {A : Type 0} → RecordError → Result A RecordError → Type 0
IsRefused fault (Ok value) = ⊥
IsRefused fault (Err e) = (e ≡ fault) ⊎ (e ≡ errors.OutOfMemory)

-- the result is this message, whether it is the last, and the bytes after its record, unless memory ran out
abbrev pub OpensRecordTo : {A : Type 0} → Bool → List ℕ → List ℕ → Result (Opened A) RecordError → Type 0
OpensRecordTo is_last m rest (Ok opened) = (opened.is_last ≡ is_last) × (opened.message.items ≡ m) × (opened.rest.now ≡ rest)
OpensRecordTo is_last m rest (Err e) = e ≡ errors.OutOfMemory

-- ---- a record that is opened or sealed in place, in a buffer that begins with it

-- the message of n bytes in the buffer's first record, and the bytes after that record
abbrev pub message_at : ℕ → List ℕ → List ℕ
message_at n bytes = take n (drop 5 bytes)

abbrev pub rest_at : ℕ → List ℕ → List ℕ
rest_at n bytes = drop (record_overhead + n) bytes

-- the message in a buffer that has one record and no more, or is to have it
abbrev pub message_in : List ℕ → List ℕ
message_in bytes = message_at (length bytes - record_overhead) bytes

-- the message in the buffer once its record is opened, and the bytes after the record
abbrev pub message_of : OpenedInPlace → List ℕ → List ℕ
message_of opened bytes = message_at opened.message_len bytes

abbrev pub rest_of : OpenedInPlace → List ℕ → List ℕ
rest_of opened bytes = rest_at opened.message_len bytes

-- the buffer with these bytes over the ciphertext of its first record
abbrev pub with_message : List ℕ → List ℕ → List ℕ
with_message bytes m = take 5 bytes ++ (m ++ drop (5 + length m) bytes)

-- the buffer with the ciphertext of its first record erased
abbrev pub with_erased : List ℕ → List ℕ
with_erased bytes = with_message bytes (replicate (length_at (drop 1 bytes)) erased_byte)

-- the result is this message, which is in the buffer, whether it is the last, and the bytes after its record
abbrev pub OpensInPlaceTo : Bool → List ℕ → List ℕ → List ℕ → Result OpenedInPlace RecordError → Type 0
OpensInPlaceTo is_last m rest bytes (Ok opened) =
    (opened.is_last ≡ is_last) × (opened.message_len ≡ length m) × (message_of opened bytes ≡ m) × (rest_of opened bytes ≡ rest)
OpensInPlaceTo is_last m rest bytes (Err e) = ⊥

-- what a record's cipher seals messages to
abbrev pub sealing_of : RecordCipher → Sealing
sealing_of cipher = sealed cipher.key.now cipher.prefix.now cipher.context.now

-- the bytes begin with the record at a position: it is message m with this flag, and `rest` follows it
pub record IsRecord (sealing : Sealing) (position : RecordPosition) (flag : ℕ) (m rest bytes : List ℕ) : Type 0 where
  pub known : flag ≤ 1
  pub within : length m ≤ limit position.version
  pub are : bytes ≡ frame sealing position flag m ++ rest

-- ---- a stream that is sealed or opened a record at a time

-- What is known between two records: the key, prefix and context of the stream, the position of the next record, and whether the
-- last record was opened, so that there is no next one.
pub record Progress : Type 0 where
  pub key : List ℕ
  pub prefix : List ℕ
  pub context : List ℕ
  pub position : RecordPosition
  pub ended : Bool

-- what messages are sealed to in the stream
abbrev pub sealing_in : Progress → Sealing
sealing_in p = sealed p.key p.prefix p.context

-- the bytes of the next record, if it has this flag and message
abbrev pub record_of : Progress → ℕ → List ℕ → List ℕ
record_of p flag m = frame (sealing_in p) p.position flag m

-- the byte at which the next record starts
abbrev pub start_of : Progress → ℕ
start_of p = start_at p.position

-- the bytes are a header and the records of these messages, none of them the last, and the progress is the one after them
pub record BegunStream (p : Progress) (ms : List (List ℕ)) (bytes : List ℕ) : Type 0 where
  pub unended : p.ended ≡ false
  pub place : p.position ≡ position_after (first_position p.position.version) ms
  pub within : AreWithin p.position.version ms
  pub are : bytes ≡ beginning (sealing_in p) p.position.version 0 ms

-- the same as one fact, which tactics do not take apart
unfoldable pub Begun : Progress → List (List ℕ) → List ℕ → Type 0
Begun p ms bytes = BegunStream p ms bytes

-- the bytes are the stream of the messages, in some version
abbrev pub AreRecordsOfSomeVersion : List ℕ → List ℕ → List ℕ → List (List ℕ) → List ℕ → Type 0
AreRecordsOfSomeVersion key prefix context ms bytes = (v : Version) × AreRecords v key prefix context ms bytes

-- the progress whose next record has this position
abbrev pub progress_at : List ℕ → List ℕ → List ℕ → RecordPosition → Progress
progress_at key prefix context position = record { key = key; prefix = prefix; context = context; position = position; ended = false }

-- the progress after the next record, if it has this message: the key, prefix and context are the same
abbrev pub progress_after : Progress → Bool → List ℕ → Progress
progress_after p is_last m = record { key = p.key; prefix = p.prefix; context = p.context; position = next_position p.position m; ended = is_last }

-- a record's flag: 1 for the last one
abbrev pub last_flag : Bool → ℕ
last_flag is_last = if is_last then 1 else 0

-- the fault of bytes that do not begin with the next record
abbrev pub IsRecordFault : Progress → List ℕ → RecordError → Type 0
IsRecordFault p bytes e = IsFaultAt (sealing_in p) p.position bytes e

-- ---- calls that open a record: `old` is the progress before the call, `new` the one after it, and `bytes` what the call is given

-- The call opens the record of message m, with which the bytes begin, and `rest` follows it.
pub record OpensNext (old new : Progress) (bytes : List ℕ) (is_last : Bool) (m rest : List ℕ) : Type 0 where
  -- the bytes begin with the record
  pub next : OnFalse is_last (bytes ≡ record_of old 0 m ++ rest)
  pub last : OnTrue is_last (bytes ≡ record_of old 1 m ++ rest)
  -- whatever messages the stream began with, m is the next one, or the last one
  pub begun : OnFalse is_last ((ms : List (List ℕ)) (before : List ℕ) → Begun old ms before
      → Begun new (ms ++ m ∷ []) (before ++ record_of old 0 m))
  pub whole : OnTrue is_last ((ms : List (List ℕ)) (before : List ℕ) → Begun old ms before
      → AreRecordsOfSomeVersion old.key old.prefix old.context (ms ++ m ∷ []) (before ++ record_of old 1 m))
  -- the progress is the one after the record
  pub progress : new ≡ progress_after old is_last m
  pub ended : new.ended ≡ is_last
  pub taken : start_of new + length rest ≡ start_of old + length bytes
  pub within : length m ≤ limit old.position.version

-- The call accepts each record with which the bytes begin, unless the last one was opened before. `Opens` says what the result is,
-- by whether the record is the last one, its message, and the bytes after it.
pub record AcceptsNext (old : Progress) (bytes : List ℕ) (Opens : Bool → List ℕ → List ℕ → Type 0) : Type 0 where
  pub next : old.ended ≡ false → (m rest : List ℕ) → length m ≤ limit old.position.version
      → bytes ≡ record_of old 0 m ++ rest → Opens false m rest
  pub last : old.ended ≡ false → (m rest : List ℕ) → length m ≤ limit old.position.version
      → bytes ≡ record_of old 1 m ++ rest → Opens true m rest

-- Whatever bytes came before, the error is the first fault of these, the given ones and any `more`; none for `Truncated`.
abbrev pub IsFirstFault : Progress → List ℕ → RecordError → Type 0
IsFirstFault old bytes e = (ms : List (List ℕ)) (before more : List ℕ) → Begun old ms before → (e ≡ errors.Truncated → more ≡ [])
    → IsFault old.key old.prefix old.context (before ++ (bytes ++ more)) e

-- The call returns this error, and leaves the progress as it was.
pub record RefusesNext (old new : Progress) (bytes : List ℕ) (e : RecordError) : Type 0 where
  -- it is the fault of the next record, and the first one of the stream, unless memory ran out
  pub fault : old.ended ≡ false → (e ≡ errors.OutOfMemory) ⊎ IsRecordFault old bytes e
  pub first : (e ≡ errors.OutOfMemory) ⊎ IsFirstFault old bytes e
  pub cut : e ≡ errors.Truncated → parts old.position.version bytes ≡ Err errors.Truncated
  pub unchanged : new ≡ old

-- ---- in the buffer that holds the record: it has `bytes` before the call, and `bytes'` after it

-- The call writes the message over its ciphertext, and changes no other byte.
pub record WritesMessage (bytes bytes' : List ℕ) (opened : OpenedInPlace) : Type 0 where
  pub message_len : length (message_of opened bytes') ≡ opened.message_len
  pub written : bytes' ≡ with_message bytes (message_of opened bytes')
  pub size : record_overhead + opened.message_len + length (rest_of opened bytes') ≡ length bytes

-- The call returns this error, and leaves the progress as it was. It erases the ciphertext if it is damaged, or changes no byte.
pub record RefusesInPlace (old new : Progress) (bytes bytes' : List ℕ) (e : RecordError) : Type 0 where
  -- it is the fault of the next record, and the first one of the stream
  pub fault : old.ended ≡ false → IsRecordFault old bytes e
  pub first : IsFirstFault old bytes e
  pub cut : e ≡ errors.Truncated → parts old.position.version bytes ≡ Err errors.Truncated
  pub unchanged : new ≡ old
  pub erased : e ≡ errors.Damaged old.position.number → bytes' ≡ with_erased bytes
  pub kept : e ≢ errors.Damaged old.position.number → bytes' ≡ bytes
