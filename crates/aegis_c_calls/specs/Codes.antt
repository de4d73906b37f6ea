-- The variants by their numbers in C, the roles of a state, and the codes of C (`hunkravy.h`): the one that a call returns for
-- its variant, for the lengths and for the state that it is given, unless a tag is wrong.
use Rattle.std.specs.Prelude.{ℕ, ◌+◌, ◌-◌, List, ℤ, ◌==◌, leb, drop, get_or, nat_lt, if◌then◌else◌, replicate, pos, neg_ℤ, Option, Some, None, ◌||◌, ◌*◌}
use Rattle.aegis.specs.declared.record.position.RecordPosition.{RecordPosition}
use Rattle.aegis.specs.declared.record.version.Version.TheVariants.{Second}
use Rattle.aegis_c_calls.specs.declared.record.state.RecordState.{RecordState}
use Rattle.aegis.specs.RecordStream.{length_at, limit, max_context_bytes, start_at, record_overhead}
use Rattle.aegis_c_calls.specs.declared.refusal.Refusal.TheVariants.{InvalidTag, MessageTooLong, ContextTooLong, UnknownHeader, WrongRecordLength, WrongState, WrongNonceLength, WrongKeyLength, DataTooLong, WrongTagLength, WrongVariant, WrongPageSize, FileTooLong, WrongMessageLength, WrongJournal, NoWrite}
use Rattle.aegis_base.specs.Variant.{Aegis128L, Aegis128X2, Aegis128X4, Aegis256, Aegis256X2, Aegis256X4, Variant, key_length, long_tag_bytes, max_aead_bytes}
use Rattle.aegis_engine.specs.SavedContexts.{begun_mark}
use Rattle.aegis_engine.specs.declared.saved.SavedContext.{SavedContext}
use Rattle.aegis_c_calls.specs.declared.refusal.Refusal.{Refusal}
use Rattle.aegis_c_calls.specs.declared.state.State.{State}
use Rattle.aegis_pages.specs.Layouts.{max_contents_bytes, max_page_bytes, min_page_bytes}
use Rattle.aegis_storage.specs.Journal.{max_journal_bytes, max_storage_bytes, journal_start_bytes}

-- the variant of a number, if it is one of the six
abbrev pub variant_numbered : ℕ → Option Variant
variant_numbered number =
    if number == 0 then Some Aegis128L
    else if number == 1 then Some Aegis128X2
    else if number == 2 then Some Aegis128X4
    else if number == 3 then Some Aegis256
    else if number == 4 then Some Aegis256X2
    else if number == 5 then Some Aegis256X4
    else None

-- the variant itself; without one any, since the calls then do nothing
abbrev pub the : Option Variant → Variant
the (Some variant) = variant
the None = Aegis128L

-- the length of a variant's keys and of its nonces, in bytes
abbrev pub key_bytes_of : Option Variant → ℕ
key_bytes_of (Some variant) = key_length variant.family
key_bytes_of None = 0

-- ---- states

-- the roles: a message that may be encrypted, decrypted or checked, one that is encrypted, one that is decrypted, a MAC, a
-- journal, a message that is checked and not written
abbrev pub message_role : ℕ
message_role = 1

abbrev pub encrypting_role : ℕ
encrypting_role = 2

abbrev pub decrypting_role : ℕ
decrypting_role = 3

abbrev pub mac_role : ℕ
mac_role = 4

abbrev pub journal_role : ℕ
journal_role = 5

abbrev pub checking_role : ℕ
checking_role = 6

-- a state after its end: zeros
abbrev pub ended_state : State
ended_state =
    record {
      context =
          record {
            mark = 0;
            rows = record { first_pair = replicate 128 0; second_pair = replicate 128 0; third_pair = replicate 128 0; fourth_pair = replicate 128 0 };
            block = replicate 128 0;
            ad_bytes = 0;
            message_bytes = 0;
          };
      variant = 0;
      role = 0;
    }

-- ---- the code of a call

-- of a call that succeeds
abbrev pub success : ℤ
success = pos 0

-- of a refusal
abbrev pub number_of : Refusal → ℤ
number_of InvalidTag = neg_ℤ (pos 1)
number_of WrongNonceLength = neg_ℤ (pos 2)
number_of WrongKeyLength = neg_ℤ (pos 3)
number_of MessageTooLong = neg_ℤ (pos 4)
number_of DataTooLong = neg_ℤ (pos 5)
number_of WrongTagLength = neg_ℤ (pos 6)
number_of WrongState = neg_ℤ (pos 7)
number_of WrongVariant = neg_ℤ (pos 8)
number_of ContextTooLong = neg_ℤ (pos 9)
number_of UnknownHeader = neg_ℤ (pos 10)
number_of WrongRecordLength = neg_ℤ (pos 11)
number_of WrongPageSize = neg_ℤ (pos 12)
number_of FileTooLong = neg_ℤ (pos 13)
number_of WrongMessageLength = neg_ℤ (pos 14)
number_of WrongJournal = neg_ℤ (pos 15)
number_of NoWrite = neg_ℤ (pos 22)

-- for the length of a tag
abbrev pub tag_code : ℕ → ℤ
tag_code tag = if tag == 16 || tag == long_tag_bytes then success else number_of WrongTagLength

-- for the lengths of a message and its associated data; `rest` is the code if both are allowed
abbrev pub message_code : ℕ → ℕ → ℤ → ℤ
message_code message ad rest =
    if leb message max_aead_bytes then (if leb ad max_aead_bytes then rest else number_of DataTooLong) else number_of MessageTooLong

-- for the lengths of a nonce and a key, which should be n bytes; `rest` is the code if both are
abbrev pub key_code : ℕ → ℕ → ℕ → ℤ → ℤ
key_code n key nonce rest =
    if nonce == n then (if key == n then rest else number_of WrongKeyLength) else number_of WrongNonceLength

-- for a variant, if there is one, and the lengths of a nonce and a key
abbrev pub variant_code : Option Variant → ℕ → ℕ → ℤ → ℤ
variant_code (Some variant) key nonce rest = key_code (key_length variant.family) key nonce rest
variant_code None key nonce rest = number_of WrongVariant

-- for a call on a message
abbrev pub lengths_code : Option Variant → ℕ → ℕ → ℕ → ℕ → ℕ → ℤ
lengths_code variant key nonce message ad tag =
    variant_code variant key nonce (message_code message ad (tag_code tag))

-- for a MAC call: its lengths are those of a message without associated data
abbrev pub mac_code : Option Variant → ℕ → ℕ → ℕ → ℕ → ℤ
mac_code variant key nonce input mac = lengths_code variant key nonce input 0 mac

-- for the mark and the two numbers of a context; `rest` is the code if they are allowed
abbrev pub saved_code : SavedContext → ℤ → ℤ
saved_code context rest =
    if context.mark == begun_mark
    then (if leb context.ad_bytes max_aead_bytes then (if leb context.message_bytes max_aead_bytes then rest else number_of WrongState) else number_of WrongState)
    else number_of WrongState

-- for the role of a state, which should be `begun`, as after its init, or `role`, and for its context
abbrev pub role_code : State → ℕ → ℕ → ℤ → ℤ
role_code st begun role rest =
    if st.role == begun || st.role == role then saved_code st.context rest else number_of WrongState

-- the same for a state that should be of a variant
abbrev pub state_code : Option Variant → State → ℕ → ℕ → ℤ → ℤ
state_code (Some variant) st begun role rest = role_code st begun role rest
state_code None st begun role rest = number_of WrongState

-- for a state and the length of the next bytes
abbrev pub more_code : State → ℕ → ℤ
more_code st more = if leb (st.context.message_bytes + more) max_aead_bytes then success else number_of MessageTooLong

abbrev pub chunk_code : Option Variant → State → ℕ → ℕ → ℕ → ℤ
chunk_code variant st begun role more = state_code variant st begun role (more_code st more)

-- the role that a message goes on in until its tag is verified
unfoldable pub reading_role : State → ℕ
reading_role st = if st.role == checking_role then checking_role else decrypting_role

-- for the number of bytes of the message that are given at its end: all or none, and none if it was checked; or else `rest`
unfoldable pub given_code : State → ℕ → ℤ → ℤ
given_code st given rest =
    if given == 0
    then rest
    else (if st.role == checking_role then number_of WrongMessageLength else (if given == st.context.message_bytes then rest else number_of WrongMessageLength))

-- for the state of a message that was decrypted or checked, those bytes, and the length of its tag
abbrev pub opened_code : Option Variant → State → ℕ → ℕ → ℤ
opened_code variant st opened tag = state_code variant st message_role (reading_role st) (given_code st opened (tag_code tag))

-- for a state and the length of its MAC; the state of a MAC has no associated data
abbrev pub mac_final_code : Option Variant → State → ℕ → ℤ
mac_final_code variant st tag =
    if st.context.ad_bytes == 0 then state_code variant st mac_role mac_role (tag_code tag) else number_of WrongState

-- ---- of a call on a record stream

-- the position of the next record
abbrev pub position_of : RecordState → RecordPosition
position_of st = record { version = Second; number = st.number; before = st.before }

-- the marks of a stream that is sealed and of one that is opened: `aegis_rs` and `aegis_ro` in ASCII
abbrev pub sealing_mark : ℕ
sealing_mark = 0x6165_6769_735f_7273

abbrev pub opening_mark : ℕ
opening_mark = 0x6165_6769_735f_726f

-- for the length of a context; `rest` is the code if it is allowed
abbrev pub context_code : ℕ → ℤ → ℤ
context_code context rest = if leb context max_context_bytes then rest else number_of ContextTooLong

-- for a state that should have this mark; `rest` is the code if it has, and its stream is not past the limit
abbrev pub mark_code : RecordState → ℕ → ℤ → ℤ
mark_code st mark rest =
    if st.mark == mark then (if leb (start_at (position_of st)) max_aead_bytes then rest else number_of WrongState) else number_of WrongState

-- for the length of the next record, which should have room for its head and its tag, and be within its limit and the stream's
abbrev pub length_code : RecordState → ℕ → ℤ → ℤ
length_code st bytes rest =
    if leb record_overhead bytes
    then (if leb bytes (record_overhead + limit Second)
    then (if leb (start_at (position_of st) + bytes) max_aead_bytes then rest else number_of MessageTooLong)
    else number_of MessageTooLong)
    else number_of WrongRecordLength

-- for a state that should have this mark, the length of the context, and that of the next record
abbrev pub record_code : RecordState → ℕ → ℕ → ℕ → ℤ
record_code st mark context bytes = mark_code st mark (length_code st bytes (context_code context success))

-- for the head of a record: a flag of 0 or 1, and a length within the limit
abbrev pub head_code : RecordState → List ℕ → ℤ
head_code st head =
    mark_code st opening_mark (if nat_lt 1 (get_or head 0 0) then number_of InvalidTag
    else if leb (length_at (drop 1 head)) (limit Second) then success else number_of MessageTooLong)

-- ---- of a call on a page or a header

-- for a page size of n bytes; `rest` is the code if it is one
abbrev pub size_code : ℕ → ℤ → ℤ
size_code n rest = if leb min_page_bytes n then (if leb n max_page_bytes then rest else number_of WrongPageSize) else number_of WrongPageSize

-- for a place in the contents, or for its length
abbrev pub contents_code : ℕ → ℤ
contents_code n = if leb n max_contents_bytes then success else number_of FileTooLong

-- for the length of a page whose nonce has n bytes, and for its number: it has the nonce and a tag more than its contents
abbrev pub place_code : (n bytes number : ℕ) → ℤ
place_code n bytes number = size_code (bytes - (n + long_tag_bytes)) (contents_code (number * (bytes - (n + long_tag_bytes))))

-- for a page size, and for the number of a page
abbrev pub page_place_code : Option Variant → (page_bytes number : ℕ) → ℤ
page_place_code (Some variant) page_bytes number = size_code page_bytes (contents_code (number * page_bytes))
page_place_code None page_bytes number = number_of WrongVariant

-- for the page size and the length of the contents in a header
abbrev pub header_code : ℕ → ℕ → ℤ
header_code page_bytes len = size_code page_bytes (contents_code len)

-- for a variant, if there is one, and the length of a key; `rest` is the code if it is right
abbrev pub keyed_code : Option Variant → ℕ → ℤ → ℤ
keyed_code (Some variant) key rest = if key == key_length variant.family then rest else number_of WrongKeyLength
keyed_code None key rest = number_of WrongVariant

-- for a call that seals a page
abbrev pub page_seal_code : Option Variant → (key nonce bytes number : ℕ) → ℤ
page_seal_code variant key nonce bytes number = variant_code variant key nonce (place_code (key_bytes_of variant) bytes number)

-- for a call that opens a page
abbrev pub page_open_code : Option Variant → (key bytes number : ℕ) → ℤ
page_open_code variant key bytes number = keyed_code variant key (place_code (key_bytes_of variant) bytes number)

-- for a call that seals a header
abbrev pub header_seal_code : Option Variant → (key nonce page_bytes len : ℕ) → ℤ
header_seal_code variant key nonce page_bytes len = variant_code variant key nonce (header_code page_bytes len)

-- ---- of a call on a journal

-- for a state that should be a journal; `rest` is the code if it is one
abbrev pub journal_code : State → ℤ → ℤ
journal_code st rest = if st.context.ad_bytes == 0 then role_code st journal_role journal_role rest else number_of WrongState

-- for the next write, of so many bytes: it ends within a storage, and the journal within its limit, which has more
-- than its MAC has taken in: what is before the first write, 8 bytes more before this one than the MAC has of its context, and the MAC
abbrev pub entry_code : State → (place bytes : ℕ) → ℤ
entry_code st place bytes =
    journal_code st (if leb (place + bytes) max_storage_bytes
    then (if leb (st.context.message_bytes + (bytes + (journal_start_bytes + 8 + long_tag_bytes))) max_journal_bytes then success else number_of FileTooLong)
    else number_of FileTooLong)
