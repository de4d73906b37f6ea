-- Sealed files: a prefix, and then a record stream in version 2 whose messages, one after the other, are the contents.
use Rattle.std.specs.Prelude.{◌≡◌, ℕ, ◌+◌, ◌-◌, ◌*◌, ◌/◌, ◌<◌, ◌≤◌, ◌⊎◌, List, [], ◌∷◌, ◌++◌, Option, length, ◌≢◌, drop, map, take, true, Some, IfSome}
use Rattle.std.specs.Io.KnownBytes.{Appends}
use Rattle.std.specs.List.{concat, range_with_len}
use Rattle.std.specs.declared.io.Error.{Error}
use Rattle.aegis_base.specs.Variant.{max_aead_bytes}
use Rattle.aegis_files.specs.declared.error.FileError.{FileError}
use Rattle.aegis_files.specs.declared.error.FileError.TheVariants.{Read, Write, TooLong, Stream}
use Rattle.aegis.specs.declared.record.version.Version.TheVariants.{Second}
use Rattle.aegis.specs.RecordStream.{AreRecords, AreWithin, IsFault, IsFaultAt, beginning, first_position, frames, header, position_after, sealed, start_at, record_overhead, prefix_bytes}
use Rattle.aegis.specs.declared.record.error.RecordError.{RecordError}
use Rattle.aegis.specs.declared.record.error.RecordError.TheVariants as errors
use Rattle.aegis.specs.RecordResults.{AreRecordsOfSomeVersion, Begun, last_flag, progress_at}
use Rattle.aegis_files.specs.declared.range.OpenedRange.{OpenedRange}
use Rattle.aegis_files.specs.declared.range.ContentsRange.{ContentsRange}
use Rattle.aegis.specs.declared.record.position.RecordPosition.{RecordPosition}

-- the file of this prefix, for these contents
pub record IsFileWithPrefix (key prefix context contents file : List ℕ) : Type 0 where
  pub messages : List (List ℕ)
  pub stream : List ℕ
  pub are : AreRecords Second key prefix context messages stream
  pub contents_is : contents ≡ concat messages
  pub file_is : file ≡ prefix ++ stream

-- the file of some prefix
pub record IsSealedFile (key context contents file : List ℕ) : Type 0 where
  pub prefix : List ℕ
  pub long : length prefix ≡ prefix_bytes
  pub is : IsFileWithPrefix key prefix context contents file

-- ---- the pieces that sealing makes of contents

-- how many bytes a piece has; the last one may have fewer
abbrev pub piece_bytes : ℕ
piece_bytes = 65_536

-- how many pieces contents of n bytes have: n divided by that length, rounded up
abbrev pub pieces_in : ℕ → ℕ
pieces_in n = (n + (piece_bytes - 1)) / piece_bytes

-- piece k, counted from 0: the bytes after k whole pieces, as many as a piece has or as are left
abbrev pub piece : List ℕ → ℕ → List ℕ
piece contents k = take piece_bytes (drop (k * piece_bytes) contents)

-- the pieces of contents, in order
unfoldable pub pieces_of : List ℕ → List (List ℕ)
pieces_of contents = map (piece contents) (range_with_len 0 (pieces_in (length contents)))

-- the messages of the file that sealing writes: the pieces, and an empty message at the end
abbrev pub messages_for : List ℕ → List (List ℕ)
messages_for contents = pieces_of contents ++ [] ∷ []

-- how many bytes the record stream of contents of n bytes has: a header, and a record for each of these messages
abbrev pub stream_length : ℕ → ℕ
stream_length n = 4 + record_overhead * (pieces_in n + 1) + n

-- The file that sealing writes for these contents.
pub record IsFileInPieces (key prefix context contents file : List ℕ) : Type 0 where
  pub is : IsFileWithPrefix key prefix context contents file
  pub pieces : is.messages ≡ messages_for contents
  pub size : length file ≡ prefix_bytes + stream_length (length contents)
  pub fits : stream_length (length contents) ≤ max_aead_bytes

-- ---- why sealing failed

-- a read or a write failed
abbrev pub IsReadError : FileError → Type 0
IsReadError e = (why : Error) × (e ≡ Read why)

abbrev pub IsWriteError : FileError → Type 0
IsWriteError e = (why : Error) × (e ≡ Write why)

-- Sealing failed. A beginning of a prefix, a header and records was written, and their messages begin the contents.
pub record WritesFileBeginning (key prefix context contents : List ℕ) (old new : Option (List ℕ)) (e : FileError) : Type 0 where
  pub begun : List ℕ
  pub written : Appends old new begun
  pub messages : List (List ℕ)
  pub flag : ℕ
  pub of_file : (rest : List ℕ) × (prefix ++ beginning (sealed key prefix context) Second flag messages ≡ begun ++ rest)
  pub of_contents : (rest : List ℕ) × (contents ≡ concat messages ++ rest)
  -- they are the first messages of the file that sealing writes
  pub of_pieces : (rest : List (List ℕ)) × (messages_for contents ≡ messages ++ rest)
  -- No record is the last one, unless the messages are the whole contents, and a write or the flush failed.
  pub ends : (flag ≡ 0) ⊎ ((flag ≡ 1) × (contents ≡ concat messages) × IsWriteError e)
  -- So only then can it be a file that opens.
  pub opens : (other : List ℕ) → IsSealedFile key context other begun → (other ≡ contents) × IsWriteError e
  -- The contents are too long only if their stream would pass the limit.
  pub too_long : e ≡ TooLong → max_aead_bytes < stream_length (length contents)

-- ---- a stream from the record at a position on

-- The bytes begin with the records of these messages, from the position on, sealed with the key, the prefix and the context, and
-- `rest` follows them. The last of the records has the flag `flag`, and the others 0.
pub record AreFrom (key prefix context : List ℕ) (position : RecordPosition) (flag : ℕ) (messages : List (List ℕ)) (rest bytes : List ℕ) : Type 0 where
  pub known : (flag ≡ 0) ⊎ ((flag ≡ 1) × (0 < length messages))
  pub within : AreWithin position.version messages
  pub are : bytes ≡ frames (sealed key prefix context) position flag messages ++ rest

-- The stream goes on one that begins with the records of `messages` before the position. It has the records of `following`,
-- and both together are that of the contents.
pub record AreContentsFrom (key prefix context : List ℕ) (position : RecordPosition) (following : List (List ℕ)) (contents stream : List ℕ) : Type 0 where
  pub messages : List (List ℕ)
  pub before : List ℕ
  pub begun : Begun (progress_at key prefix context position) messages before
  pub are : AreRecordsOfSomeVersion key prefix context (messages ++ following) (before ++ stream)
  pub contents_is : contents ≡ concat (messages ++ following)

-- the first fault of both together, whatever the records before the position are
abbrev pub IsFaultFrom : List ℕ → List ℕ → List ℕ → RecordPosition → List ℕ → RecordError → Type 0
IsFaultFrom key prefix context position stream e =
    (messages : List (List ℕ)) (before : List ℕ) → Begun (progress_at key prefix context position) messages before
    → IsFault key prefix context (before ++ stream) e

-- The stream is refused for its fault, or for want of memory, and a sealed one only for that, or because both pass the limit.
pub record RefusesFrom (key prefix context : List ℕ) (position : RecordPosition) (stream : List ℕ) (e : FileError) : Type 0 where
  pub refused : (why : RecordError) → e ≡ Stream why → (why ≡ errors.OutOfMemory) ⊎ IsFaultFrom key prefix context position stream why
  pub accepted : (following : List (List ℕ)) (contents : List ℕ) → AreContentsFrom key prefix context position following contents stream
      → (why : RecordError) → e ≡ Stream why → why ≡ errors.OutOfMemory
  pub too_long : e ≡ TooLong → max_aead_bytes < start_at position + length stream

-- ---- opening a range

-- the range's part of messages from its record on: `skip` bytes after that record begins, and at most `length` bytes
abbrev pub part_of : ContentsRange → List (List ℕ) → List ℕ
part_of range messages = take range.length (drop range.skip (concat messages))

-- the same bytes of contents
abbrev pub part_of_contents : ContentsRange → List ℕ → List ℕ
part_of_contents range contents = take range.length (drop (range.position.before + range.skip) contents)

-- The range's part was written. The reader has `left` after that.
pub record OpensRange (key prefix context : List ℕ) (range : ContentsRange) (opened : OpenedRange) (stream : List ℕ) (left old new : Option (List ℕ)) : Type 0 where
  pub messages : List (List ℕ)
  pub rest : List ℕ
  pub records : AreFrom key prefix context range.position (last_flag opened.is_last) messages rest stream
  pub some : 0 < length messages
  pub written : Appends old new (part_of range messages)
  pub count : opened.length ≡ length (part_of range messages)
  pub ended : opened.end ≡ position_after range.position messages
  pub fits : start_at opened.end ≤ max_aead_bytes
  -- it ends with the last record, so that the contents end there, or with as many bytes as asked for
  pub whole : (opened.is_last ≡ true) ⊎ ((opened.length ≡ range.length) × (range.skip ≤ length (concat messages)))
  -- no other records were read, and each but the first is needed: without the last of them there are fewer bytes
  pub read : left ≡ Some rest
  pub needed : (ms : List (List ℕ)) (m : List ℕ) → messages ≡ ms ++ m ∷ [] → 0 < length ms
      → (length (part_of range ms) < range.length) ⊎ (length (concat ms) < range.skip)
  -- so it is the part of the contents, if there is one
  pub of_contents : (following : List (List ℕ)) (contents : List ℕ) → AreContentsFrom key prefix context range.position following contents stream
      → part_of range messages ≡ part_of_contents range contents

-- Opening the range failed. The part of the records that were opened was written, or a beginning of it if a write failed.
pub record StopsRange (key prefix context : List ℕ) (range : ContentsRange) (stream : List ℕ) (old new : Option (List ℕ)) (e : FileError) : Type 0 where
  pub messages : List (List ℕ)
  pub flag : ℕ
  pub rest : List ℕ
  pub records : AreFrom key prefix context range.position flag messages rest stream
  pub fits : start_at (position_after range.position messages) ≤ max_aead_bytes
  pub begun : List ℕ
  pub written : Appends old new begun
  pub of_messages : (more : List ℕ) × (part_of range messages ≡ begun ++ more) × ((more ≡ []) ⊎ IsWriteError e)
  -- so it is a beginning of the part of the contents, if there is one
  pub of_contents : (following : List (List ℕ)) (contents : List ℕ) → AreContentsFrom key prefix context range.position following contents stream
      → (more : List ℕ) × (part_of_contents range contents ≡ begun ++ more)
  pub fault : (why : RecordError) → e ≡ Stream why → (why ≡ errors.OutOfMemory) ⊎ IsFaultAt (sealed key prefix context) (position_after range.position messages) rest why
  pub refuses : RefusesFrom key prefix context range.position stream e

-- ---- opening a file, and sealing it anew under another key

-- a file of which this is known begins with no prefix and header
abbrev pub HasNoHead : Option (List ℕ) → Type 0
HasNoHead file = IfSome file (λ f. take 4 (drop prefix_bytes f) ≢ header Second)

-- the fault of a file that is the file of no contents: it has no whole prefix and header, or the bytes after its prefix are no stream
abbrev pub IsFileFault : List ℕ → List ℕ → List ℕ → RecordError → Type 0
IsFileFault key context file e =
    ((take 4 (drop prefix_bytes file) ≢ header Second) × (e ≡ errors.Header))
    ⊎ ((prefix : List ℕ) × (stream : List ℕ) × (length prefix ≡ prefix_bytes) × (file ≡ prefix ++ (header Second ++ stream)) × IsFault key prefix context (header Second ++ stream) e)

-- the file begins with a prefix, a header and the records of these messages, each at its place
pub record AreInFile (key context file : List ℕ) (messages : List (List ℕ)) : Type 0 where
  pub prefix : List ℕ
  pub long : length prefix ≡ prefix_bytes
  pub bytes : List ℕ
  pub file_is : file ≡ prefix ++ (header Second ++ bytes)
  pub flag : ℕ
  pub rest : List ℕ
  pub records : AreFrom key prefix context (first_position Second) flag messages rest bytes

-- The file is refused for its fault, or for want of memory, and a sealed one only for that, or because it passes the limit.
pub record RefusesFile (key context file : List ℕ) (e : FileError) : Type 0 where
  pub refused : (why : RecordError) → e ≡ Stream why → (why ≡ errors.OutOfMemory) ⊎ IsFileFault key context file why
  pub accepted : (contents : List ℕ) → IsSealedFile key context contents file → (why : RecordError) → e ≡ Stream why → why ≡ errors.OutOfMemory
  pub too_long : e ≡ TooLong → prefix_bytes + max_aead_bytes < length file

-- Opening the file failed. What was written are messages of records at its beginning, a beginning of them, or nothing.
pub record FailsWith (key context file : List ℕ) (old new : Option (List ℕ)) (e : FileError) : Type 0 where
  pub begun : List ℕ
  pub written : Appends old new begun
  pub verified : (begun ≡ []) ⊎ ((messages : List (List ℕ)) × AreInFile key context file messages
      × (rest : List ℕ) × (concat messages ≡ begun ++ rest) × ((rest ≡ []) ⊎ IsWriteError e))
  -- so it is a beginning of the contents, if there is one
  pub beginning : (contents : List ℕ) → IsSealedFile key context contents file → (rest : List ℕ) × (contents ≡ begun ++ rest)
  pub refuses : RefusesFile key context file e

-- The new file, under the new key and the new prefix, has the contents of the old one, in the same pieces.
pub record IsRekeyed (key new_key prefix context file new_file : List ℕ) : Type 0 where
  pub contents : List ℕ
  pub old : IsSealedFile key context contents file
  pub new : IsFileWithPrefix new_key prefix context contents new_file
  pub pieces : new.messages ≡ old.is.messages
  pub size : length new_file ≡ length file
  -- the streams are within the limit
  pub fits : length file ≤ prefix_bytes + max_aead_bytes

-- From `old` to `new`, a beginning of the new prefix, a header and records was written, whose messages begin the old file.
pub record RekeysBeginning (key new_key prefix context file : List ℕ) (old new : Option (List ℕ)) (e : FileError) : Type 0 where
  pub begun : List ℕ
  pub written : Appends old new begun
  pub messages : List (List ℕ)
  pub flag : ℕ
  pub of_file : (rest : List ℕ) × (prefix ++ beginning (sealed new_key prefix context) Second flag messages ≡ begun ++ rest)
  pub verified : (messages ≡ []) ⊎ AreInFile key context file messages
  -- No record is the last one, unless the messages are the old file's whole contents, and a write or the flush failed.
  pub ends : (flag ≡ 0) ⊎ ((flag ≡ 1) × IsSealedFile key context (concat messages) file × IsWriteError e)
  -- So only then can it be a file that opens.
  pub opens : (other : List ℕ) → IsSealedFile new_key context other begun → IsSealedFile key context other file × IsWriteError e
  pub refuses : RefusesFile key context file e
