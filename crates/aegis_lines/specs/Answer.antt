-- The answers to lines of test vectors.
use Rattle.std.specs.Prelude.{ℕ, ◌%◌, ◌==◌, ◌&&◌, ◌||◌, nat_le, Bool, List, [], length, map, Option, Some, None, codes, if◌then◌else◌, slice_index_or, ◌≡◌, ◌+◌, ◌∷◌, is_some, leb, ◌⊎◌, ◌++◌, decimal, flat_map}
use Rattle.std.specs.Char.{is_ascii_digit}
use Rattle.std.specs.List.{concat, list_all, slice_split}
use Rattle.std.specs.Option.{unwrap_or}
use Rattle.std.specs.Result.{result_unwrap_or}
use Rattle.std.specs.Str.{bytes_eq}
use Rattle.std.specs.Str.Parse.{digits_value}
use Rattle.hex.specs.Hex.{decode_of, encode_lower, is_hex_digit}
use Rattle.aegis_variants.specs.declared.variant.AnyVariant.{AnyVariant}
use Rattle.aegis_variants.specs.declared.variant.AnyVariant.TheVariants as variants
use Rattle.aegis.specs.RecordStream.{AreRecords, IsFault, beginning, limit, max_context_bytes, records_length, sealed, prefix_bytes}
use Rattle.aegis.specs.declared.record.version.Version.TheVariants.{Second}
use Rattle.aegis_lines.specs.declared.fault.Fault.{Fault}
use Rattle.aegis_lines.specs.declared.fault.Fault.TheVariants as faults
use Rattle.aegis_lines.specs.declared.table.Command.{Command}
use Rattle.aegis_lines.specs.declared.table.Command.TheVariants as commands
use Rattle.aegis_lines.specs.declared.table.Kind.{Kind}
use Rattle.aegis_lines.specs.declared.table.Kind.TheVariants as kinds
use Rattle.aegis_variants.specs.Cipher.{key_length_of, standard_of}
use Rattle.aegis.specs.declared.record.error.RecordError.{RecordError}
use Rattle.aegis.specs.declared.record.error.RecordError.TheVariants as errors
use Rattle.aegis.specs.declared.record.version.Version.{Version}
use Rattle.aegis_aes.specs.Round.{round}
use Rattle.aegis_base.specs.Mac.{mac}
use Rattle.aegis_base.specs.Message.{Opens, keystream, seal, xor_keystream}
use Rattle.aegis_base.specs.Variant as base
use Rattle.aegis_base.specs.Variant.{key_length, long_tag_bytes, max_aead_bytes}

-- ---- the fields of a line, and what they stand for

-- the pieces of a text between single separators; two separators in a row, or one at an end, make an empty piece
abbrev pub cut_at : ℕ → List ℕ → List (List ℕ)
cut_at separator text = slice_split (λ byte. byte == separator) text

-- the fields of a line, which stand between spaces
abbrev pub fields_of : List ℕ → List (List ℕ)
fields_of line = cut_at 0x20 line

-- the pieces of a field, which stand between commas
abbrev pub field_pieces : List ℕ → List (List ℕ)
field_pieces field = cut_at 0x2c field

-- field i of a line; the command is field 0
abbrev pub field_of : List (List ℕ) → ℕ → List ℕ
field_of fields i = slice_index_or fields i []

-- whether a field, or a piece, is of bytes: `-` for none, or pairs of hexadecimal digits in upper or lower case
unfoldable pub is_bytes : List ℕ → Bool
is_bytes field = bytes_eq field (codes "-") || (nat_le 2 (length field) && length field % 2 == 0 && list_all is_hex_digit field)

-- the bytes that it stands for: none if it is `-`, and otherwise one for each pair of digits
unfoldable pub bytes_of : List ℕ → List ℕ
bytes_of field = if bytes_eq field (codes "-") then [] else result_unwrap_or (decode_of field) []

-- the bytes of each piece of a field, and those of all pieces, one after the other
abbrev pub messages_of : List ℕ → List (List ℕ)
messages_of field = map bytes_of (field_pieces field)

abbrev pub joined_of : List ℕ → List ℕ
joined_of field = concat (messages_of field)

-- bytes as they are printed
unfoldable pub shown : List ℕ → List ℕ
shown bytes = if length bytes == 0 then codes "-" else encode_lower bytes

-- whether a field is the length of a keystream: one to five decimal digits, that give at most 65536
unfoldable pub is_count : List ℕ → Bool
is_count field = nat_le 1 (length field) && nat_le (length field) 5 && list_all is_ascii_digit field && nat_le (digits_value 10 field) 65536

-- the variant with this name
unfoldable pub variant_named : List ℕ → Option AnyVariant
variant_named name =
    if bytes_eq name (codes "aegis128l") then Some variants.Aegis128L
    else if bytes_eq name (codes "aegis128x2") then Some variants.Aegis128X2
    else if bytes_eq name (codes "aegis128x4") then Some variants.Aegis128X4
    else if bytes_eq name (codes "aegis256") then Some variants.Aegis256
    else if bytes_eq name (codes "aegis256x2") then Some variants.Aegis256X2
    else if bytes_eq name (codes "aegis256x4") then Some variants.Aegis256X4
    else None

-- the variant of a line that names one, and the length of its tag, if it has one
abbrev pub variant_in : List (List ℕ) → AnyVariant
variant_in fields = unwrap_or (variant_named (field_of fields 1)) variants.Aegis128L

abbrev pub tag_length_in : List (List ℕ) → ℕ
tag_length_in fields = if bytes_eq (field_of fields 2) (codes "16") then 16 else long_tag_bytes

-- ---- commands and faults

-- the command with this name
unfoldable pub command_named : List ℕ → Option Command
command_named field =
    if bytes_eq field (codes "round") then Some commands.Round
    else if bytes_eq field (codes "seal") then Some commands.Seal
    else if bytes_eq field (codes "open") then Some commands.Open
    else if bytes_eq field (codes "stream") then Some commands.Stream
    else if bytes_eq field (codes "xor") then Some commands.Xor
    else if bytes_eq field (codes "mac") then Some commands.Mac
    else if bytes_eq field (codes "sealrec") then Some commands.SealRecords
    else if bytes_eq field (codes "openrec") then Some commands.OpenRecords
    else None

-- the fields after each command
abbrev pub kinds_of : Command → List Kind
kinds_of commands.Round = kinds.Exactly 16 ∷ kinds.Exactly 16 ∷ []
kinds_of commands.Seal = kinds.Variant ∷ kinds.TagLength ∷ kinds.Key ∷ kinds.Key ∷ kinds.AtMost max_aead_bytes ∷ kinds.Pieces ∷ []
kinds_of commands.Open = kinds.Variant ∷ kinds.TagLength ∷ kinds.Key ∷ kinds.Key ∷ kinds.AtMost max_aead_bytes ∷ kinds.Pieces ∷ kinds.Tag ∷ []
kinds_of commands.Stream = kinds.Variant ∷ kinds.Key ∷ kinds.Key ∷ kinds.Count ∷ []
kinds_of commands.Xor = kinds.Variant ∷ kinds.Key ∷ kinds.Key ∷ kinds.Bytes ∷ []
kinds_of commands.Mac = kinds.Variant ∷ kinds.TagLength ∷ kinds.Key ∷ kinds.Key ∷ kinds.Pieces ∷ []
kinds_of commands.SealRecords = kinds.Exactly (key_length base.Family256) ∷ kinds.Exactly prefix_bytes ∷ kinds.AtMost max_context_bytes ∷ kinds.Messages ∷ []
kinds_of commands.OpenRecords = kinds.Exactly (key_length base.Family256) ∷ kinds.Exactly prefix_bytes ∷ kinds.AtMost max_context_bytes ∷ kinds.Bytes ∷ []

-- a fault, unless this holds
abbrev pub unless : Bool → Fault → Option Fault
unless holds fault = if holds then None else Some fault

-- the fault of bytes, if they are not, or if their length is not allowed
abbrev pub bytes_fault : (are_bytes is_allowed : Bool) → Option Fault
bytes_fault are_bytes is_allowed = if are_bytes then unless is_allowed faults.Length else Some faults.Hex

-- whether no message is longer than a record's may be
abbrev pub are_messages : List (List ℕ) → Bool
are_messages ms = list_all (λ m. leb (length m) (limit Second)) ms

-- whether they have a record stream: neither one of them nor the whole is too long
abbrev pub have_records : List (List ℕ) → Bool
have_records ms = are_messages ms && leb (records_length ms) max_aead_bytes

-- the first fault of a field, in a line whose keys have `key` bytes, and whose tag has `tag`
abbrev pub fault_of : (key tag : ℕ) → Kind → List ℕ → Option Fault
fault_of key tag kinds.Variant field = unless (is_some (variant_named field)) faults.Variant
fault_of key tag kinds.TagLength field = unless (bytes_eq field (codes "16") || bytes_eq field (codes "32")) faults.Tag
fault_of key tag kinds.Count field = unless (is_count field) faults.Length
fault_of key tag kinds.Bytes field = unless (is_bytes field) faults.Hex
fault_of key tag (kinds.Exactly size) field = bytes_fault (is_bytes field) (length (bytes_of field) == size)
fault_of key tag kinds.Key field = bytes_fault (is_bytes field) (length (bytes_of field) == key)
fault_of key tag kinds.Tag field = bytes_fault (is_bytes field) (length (bytes_of field) == tag)
fault_of key tag (kinds.AtMost size) field = bytes_fault (is_bytes field) (leb (length (bytes_of field)) size)
fault_of key tag kinds.Pieces field = bytes_fault (list_all is_bytes (field_pieces field)) (leb (length (joined_of field)) max_aead_bytes)
fault_of key tag kinds.Messages field = bytes_fault (list_all is_bytes (field_pieces field)) (have_records (messages_of field))

-- the place of a fault in the order in which they are looked for
abbrev pub order_of : Fault → ℕ
order_of faults.Command = 0
order_of faults.Fields = 1
order_of faults.Variant = 2
order_of faults.Tag = 3
order_of faults.Hex = 4
order_of faults.Length = 5

-- the one of two faults that is looked for first
abbrev pub earlier : Option Fault → Option Fault → Option Fault
earlier None b = b
earlier (Some a) None = Some a
earlier (Some a) (Some b) = if nat_le (order_of a) (order_of b) then Some a else Some b

-- the first fault of the fields from field i on, which are to be of these kinds
abbrev pub first_field_fault : (key tag : ℕ) → List Kind → ℕ → List (List ℕ) → Option Fault
first_field_fault key tag [] i fields = None
first_field_fault key tag (kind ∷ kinds) i fields = earlier (fault_of key tag kind (field_of fields i)) (first_field_fault key tag kinds (i + 1) fields)

-- the first fault of a command's line; each is looked for in all fields before the next one
abbrev pub fault_in : Command → List (List ℕ) → Option Fault
fault_in command fields =
    if length fields == length (kinds_of command) + 1
    then first_field_fault (key_length_of (variant_in fields)) (tag_length_in fields) (kinds_of command) 1 fields
    else Some faults.Fields

-- ---- answers

-- the answer to a line with a fault
abbrev pub text_of_fault : Fault → List ℕ
text_of_fault faults.Command = codes "error command"
text_of_fault faults.Fields = codes "error fields"
text_of_fault faults.Variant = codes "error variant"
text_of_fault faults.Tag = codes "error tag"
text_of_fault faults.Hex = codes "error hex"
text_of_fault faults.Length = codes "error length"

-- a ciphertext and a tag, as they are printed
abbrev pub shown_pair : List ℕ × List ℕ → List ℕ
shown_pair sealed = shown sealed.0 ++ codes " " ++ shown sealed.1

-- messages as they are printed, with commas between them
abbrev pub shown_messages : List (List ℕ) → List ℕ
shown_messages [] = []
shown_messages (m ∷ ms) = shown m ++ flat_map (λ n. 0x2c ∷ shown n) ms

-- the text is the answer to an opening: a message for which `IsMessage` holds, or that there is none
abbrev pub IsOpeningAnswer : (List ℕ → Type 0) → List ℕ → Type 0
IsOpeningAnswer IsMessage text =
    ((m : List ℕ) × IsMessage m × (text ≡ codes "ok " ++ shown m))
    ⊎ (((m : List ℕ) → IsMessage m → ⊥) × (text ≡ codes "invalid tag"))

-- the answer if a record stream is refused
abbrev pub IsRefusal : RecordError → List ℕ → Type 0
IsRefusal errors.Header text = text ≡ codes "refused header"
IsRefusal errors.Truncated text = text ≡ codes "refused truncated"
IsRefusal errors.Flag text = text ≡ codes "refused flag"
IsRefusal errors.TooLong text = text ≡ codes "refused too long"
IsRefusal (errors.Damaged k) text = text ≡ codes "refused damaged " ++ decimal k
IsRefusal errors.Trailing text = text ≡ codes "refused trailing"
IsRefusal errors.OutOfMemory text = ⊥

-- the answer to an opening of a record stream: its messages, or its fault
abbrev pub IsRecordsAnswer : (key prefix context bytes text : List ℕ) → Type 0
IsRecordsAnswer key prefix context bytes text =
    ((v : Version) × (ms : List (List ℕ)) × AreRecords v key prefix context ms bytes × (text ≡ codes "ok " ++ shown_messages ms))
    ⊎ ((e : RecordError) × IsFault key prefix context bytes e × IsRefusal e text)

-- the bytes of field i of a line
abbrev pub field_bytes : List (List ℕ) → ℕ → List ℕ
field_bytes fields i = bytes_of (field_of fields i)

-- the variant of a line, as the definitions have it
abbrev pub standard_in : List (List ℕ) → base.Variant
standard_in fields = standard_of (variant_in fields)

-- this text is the answer to a command's line without a fault
abbrev pub IsReply : Command → List (List ℕ) → List ℕ → Type 0
IsReply commands.Round f text = text ≡ shown (round (field_bytes f 1) (field_bytes f 2))
IsReply commands.Seal f text =
    text ≡ shown_pair (seal (standard_in f) (tag_length_in f) (field_bytes f 3) (field_bytes f 4) (field_bytes f 5) (joined_of (field_of f 6)))
IsReply commands.Open f text =
    IsOpeningAnswer (Opens (standard_in f) (tag_length_in f) (field_bytes f 3) (field_bytes f 4) (field_bytes f 5) (joined_of (field_of f 6)) (field_bytes f 7)) text
IsReply commands.Stream f text = text ≡ shown (keystream (standard_in f) (field_bytes f 2) (field_bytes f 3) (digits_value 10 (field_of f 4)))
IsReply commands.Xor f text = text ≡ shown (xor_keystream (standard_in f) (field_bytes f 2) (field_bytes f 3) (field_bytes f 4))
IsReply commands.Mac f text = text ≡ shown (mac (standard_in f) (tag_length_in f) (field_bytes f 3) (field_bytes f 4) (joined_of (field_of f 5)))
IsReply commands.SealRecords f text = text ≡ shown (beginning (sealed (field_bytes f 1) (field_bytes f 2) (field_bytes f 3)) Second 1 (messages_of (field_of f 4)))
IsReply commands.OpenRecords f text = IsRecordsAnswer (field_bytes f 1) (field_bytes f 2) (field_bytes f 3) (field_bytes f 4) text

-- this text is the answer to a command's line: its first fault, if it has one
abbrev pub IsFaultOrReply : Option Fault → Command → List (List ℕ) → List ℕ → Type 0
IsFaultOrReply (Some fault) command fields text = text ≡ text_of_fault fault
IsFaultOrReply None command fields text = IsReply command fields text

-- the same, if there is such a command
abbrev pub IsCommandAnswer : Option Command → List (List ℕ) → List ℕ → Type 0
IsCommandAnswer None fields text = text ≡ text_of_fault faults.Command
IsCommandAnswer (Some command) fields text = IsFaultOrReply (fault_in command fields) command fields text

-- this text is the answer to this line
abbrev pub IsAnswer : List ℕ → List ℕ → Type 0
IsAnswer line text = IsCommandAnswer (command_named (field_of (fields_of line) 0)) (fields_of line) text
