-- What each call on a page, a header or a journal does: its code and its bytes. If no variant has its number, nothing changes.
use Rattle.std.specs.Prelude.{ℕ, ℤ, ◌+◌, ◌-◌, leb, Option, Some, None, if◌then◌else◌, ◌≡◌, ◌≢◌, List, drop, length, replicate, take, ◌<◌, ◌≤◌, [], ◌∷◌, ◌++◌}
use Rattle.aegis_base.specs.Variant.{Aegis128L, Variant, key_length, long_tag_bytes}
use Rattle.aegis_base.specs.Message.{erased_byte}
use Rattle.aegis_c_calls.specs.Codes.{ended_state, entry_code, header_code, header_seal_code, journal_code, keyed_code, number_of, page_open_code, page_seal_code, success, the, page_place_code}
use Rattle.aegis_c_calls.specs.declared.refusal.Refusal.TheVariants.{InvalidTag, WrongJournal, NoWrite}
use Rattle.aegis_pages.specs.Layouts.{IsHeaderBlock, Layout, OpensAt, journal_beginning, plaintext_header_bytes, header_block_bytes, page_place}
use Rattle.aegis_pages.specs.declared.header.FileHeader.{FileHeader}
use Rattle.aegis_storage.specs.Disk.{Writes, part_at}
use Rattle.aegis_engine.specs.SavedContexts.{IsSaved}
use Rattle.aegis_c_calls.specs.declared.state.State.{State}
use Rattle.aegis_pages.specs.Commits.{IsJournalAccepted, IsOfCommit, head_bytes, journal_key}
use Rattle.aegis_storage.specs.Journal.{AreWithinStorage, IsJournal, authenticated, entries, entry, max_journal_bytes, max_storage_bytes, journal_start_bytes, journal_beginning_bytes}
use Rattle.aegis_storage.specs.Steps.{step_at}
use Rattle.aegis_storage.specs.declared.steps.Step.{Step}
use Rattle.aegis_storage.specs.declared.steps.Step.TheVariants.{Done, EmptyJournal, MakeWrite, ReplaceJournal, SyncJournal, SyncStorage, WriteBeginning, WriteRest}

-- what the sealed pages of a file are sealed under
abbrev pub file_of : (variant : Variant) (key id : List ℕ) (page_bytes : ℕ) → Layout
file_of variant key id page_bytes = record { variant = variant; key = key; page_bytes = page_bytes; id = id }

-- how many bytes a page has more than its contents
abbrev pub added_bytes : Variant → ℕ
added_bytes variant = key_length variant.family + long_tag_bytes

-- the bytes of a page between its nonce and its tag
abbrev pub contents_in : Variant → List ℕ → List ℕ
contents_in variant page = take (length page - added_bytes variant) (drop (key_length variant.family) page)

-- the page of a file, whose page size its length says, opens at this number to the contents m
abbrev pub IsPageOf : (variant : Variant) (key id : List ℕ) (number : ℕ) (page m : List ℕ) → Type 0
IsPageOf variant key id number page m = OpensAt (file_of variant key id (length page - added_bytes variant)) number page m

-- what a header names
abbrev pub header_of : (page_bytes : ℕ) (id : List ℕ) (counter len : ℕ) → FileHeader
header_of page_bytes id counter len = record { page_bytes = page_bytes; id = id; counter = counter; len = len }

-- The call finds the position of a page in every file of this variant and page size; or it changes nothing.
pub record PagePlace (variant : Option Variant) (page_bytes number place place' : ℕ) (code : ℤ) : Type 0 where
  pub answered : code ≡ page_place_code variant page_bytes number
  pub found : code ≡ success → (file : Layout) → file.variant ≡ the variant → file.page_bytes ≡ page_bytes → place' ≡ page_place file number
  pub kept : code ≢ success → place' ≡ place

-- The call seals the contents in `page` where they lie, and the page opens to them at its number; or it changes nothing.
pub record PageSeal (variant : Option Variant) (key id nonce : List ℕ) (number : ℕ) (page page' : List ℕ) (code : ℤ) : Type 0 where
  pub answered : code ≡ page_seal_code variant (length key) (length nonce) (length page) number
  pub sealed : code ≡ success → IsPageOf (the variant) key id number page' (contents_in (the variant) page)
  pub under : code ≡ success → take (key_length (the variant).family) page' ≡ nonce
  pub kept : code ≢ success → page' ≡ page

-- The call opens the page in place, and its contents are written over its ciphertext. If no contents are sealed to the
-- page at this number it erases every byte; and if a length or the number is wrong, it changes nothing.
pub record PageOpen (variant : Option Variant) (key id : List ℕ) (number : ℕ) (page page' : List ℕ) (code : ℤ) : Type 0 where
  pub answered : code ≢ number_of InvalidTag → code ≡ page_open_code variant (length key) (length page) number
  pub lengths : code ≡ number_of InvalidTag → page_open_code variant (length key) (length page) number ≡ success
  -- the page opens to these contents, and to no other
  pub opened : code ≡ success → IsPageOf (the variant) key id number page (contents_in (the variant) page')
  pub one : code ≡ success → (m : List ℕ) → IsPageOf (the variant) key id number page m → contents_in (the variant) page' ≡ m
  pub accepted : (m : List ℕ) → IsPageOf (the variant) key id number page m → code ≢ number_of InvalidTag
  pub erased : code ≡ number_of InvalidTag → page' ≡ replicate (length page) erased_byte
  pub kept : code ≢ success → code ≢ number_of InvalidTag → page' ≡ page

-- The call overwrites `header_block` with the block of a header; or it changes nothing.
pub record PageHeaderSeal (variant : Option Variant) (key id nonce : List ℕ) (page_bytes counter len : ℕ) (header_block header_block' : List ℕ) (code : ℤ) : Type 0 where
  pub answered : code ≡ header_seal_code variant (length key) (length nonce) page_bytes len
  pub sealed : code ≡ success → IsHeaderBlock (file_of (the variant) key id page_bytes) counter len header_block'
  pub under : code ≡ success → part_at header_block' plaintext_header_bytes (key_length (the variant).family) ≡ nonce
  pub padding : code ≡ success → drop (head_bytes (the variant)) header_block' ≡ replicate (header_block_bytes - head_bytes (the variant)) 0
  pub kept : code ≢ success → header_block' ≡ header_block

-- the header block has this header, which was sealed under the key
abbrev pub BlockHasHeader : (variant : Variant) (key header_block : List ℕ) (header : FileHeader) → Type 0
BlockHasHeader variant key header_block header = IsHeaderBlock (file_of variant key header.id header.page_bytes) header.counter header.len header_block

-- The call finds the header in `header_block`, if it was sealed under the key, and writes it over `old`; or it changes nothing.
pub record PageHeaderOpen (variant : Option Variant) (key header_block : List ℕ) (old new : FileHeader) (code : ℤ) : Type 0 where
  pub answered : code ≢ number_of InvalidTag → code ≡ keyed_code variant (length key) success
  pub lengths : code ≡ number_of InvalidTag → keyed_code variant (length key) success ≡ success
  -- the header block has this header, and no other
  pub opened : code ≡ success → BlockHasHeader (the variant) key header_block new
  pub one : code ≡ success → (header : FileHeader) → BlockHasHeader (the variant) key header_block header → header ≡ new
  pub accepted : (header : FileHeader) → BlockHasHeader (the variant) key header_block header → code ≢ number_of InvalidTag
  pub kept : code ≢ success → new ≡ old

-- ---- writing a journal: one of `aegis_storage`, under the key and the beginning that `aegis_pages` has for a file

-- bytes, and the bytes that are written after them
unfoldable pub followed_by : List ℕ → List ℕ → List ℕ
followed_by bytes more = bytes ++ more

-- The state and the bytes that were written are those of a journal under this key, of all writes but the rest, still to come.
pub record IsJournaling (key : List ℕ) (all rest : Writes) (st : State) (bytes : List ℕ) : Type 0 where
  -- what the journal begins with, with its nonce, and the writes so far
  pub start : List ℕ
  pub writes : Writes
  pub start_size : length start ≡ journal_start_bytes
  pub split : all ≡ writes ++ rest
  pub written : bytes ≡ start ++ entries writes
  pub within : AreWithinStorage writes
  pub fits : length (entries writes) + (journal_start_bytes + long_tag_bytes) ≤ max_journal_bytes
  pub saved : IsSaved Aegis128L st.context key (drop journal_beginning_bytes start) [] (authenticated [] (entries writes))

-- The call begins a journal of any writes, and overwrites `start` with what it begins with; or it changes nothing.
pub record JournalBegin (variant : Option Variant) (key id nonce : List ℕ) (page_bytes : ℕ) (old new : State) (start start' : List ℕ) (code : ℤ) : Type 0 where
  pub answered : code ≡ keyed_code variant (length key) (header_code page_bytes 0)
  pub begun : (all : Writes) → code ≡ success → IsJournaling (journal_key (the variant) key) all all new start'
  pub written : code ≡ success → start' ≡ journal_beginning (file_of (the variant) key id page_bytes) ++ nonce
  pub kept : code ≢ success → (new ≡ old) × (start' ≡ start)

-- The call takes in the next write, and overwrites `head` with what it has in front of its bytes; or it changes nothing.
pub record JournalEntry (place : ℕ) (bytes : List ℕ) (old new : State) (head head' : List ℕ) (code : ℤ) : Type 0 where
  pub answered : code ≡ entry_code old place (length bytes)
  pub taken : (key : List ℕ) (all rest : Writes) (before : List ℕ) → code ≡ success → IsJournaling key all ((place, bytes) ∷ rest) old before → IsJournaling key all rest new (followed_by (followed_by before head') bytes)
  pub written : code ≡ success → head' ++ bytes ≡ entry (place, bytes)
  pub kept : code ≢ success → (new ≡ old) × (head' ≡ head)

-- The call writes the MAC that makes what was written a journal of all the writes, and ends the state; or it changes nothing.
pub record JournalFinal (old new : State) (mac mac' : List ℕ) (code : ℤ) : Type 0 where
  pub answered : code ≡ journal_code old success
  pub whole : (key : List ℕ) (all : Writes) (before : List ℕ) → code ≡ success → IsJournaling key all [] old before → IsJournal key [] all (followed_by before mac')
  pub ended : code ≡ success → new ≡ ended_state
  pub kept : code ≢ success → (new ≡ old) × (mac' ≡ mac)

-- ---- reading a journal

-- the bytes are those of the writes, as a journal has them
unfoldable pub HoldsWrites : Writes → List ℕ → Type 0
HoldsWrites writes bytes = AreWithinStorage writes × (bytes ≡ entries writes)

-- the block of the header of a file that begins with these bytes, if they are as many
abbrev pub header_block_of : List ℕ → Option (List ℕ)
header_block_of file = if leb header_block_bytes (length file) then Some (take header_block_bytes file) else None

-- what a file that begins with these bytes has as its header
abbrev pub IsHeaderIn : (variant : Variant) (key file : List ℕ) → Option FileHeader → Type 0
IsHeaderIn variant key file (Some header) = (header_block_bytes ≤ length file) × BlockHasHeader variant key (take header_block_bytes file) header
IsHeaderIn variant key file None = (header : FileHeader) → header_block_bytes ≤ length file → BlockHasHeader variant key (take header_block_bytes file) header → ⊥

-- the writes of a whole journal under the file's key, or none for other bytes
abbrev pub AreJournaled : (variant : Variant) (key journal : List ℕ) → Option Writes → Type 0
AreJournaled variant key journal (Some writes) = IsJournal (journal_key variant key) [] writes journal
AreJournaled variant key journal None = (writes : Writes) → IsJournal (journal_key variant key) [] writes journal → ⊥

-- the journal may be made again, or emptied
abbrev pub MayBeMadeAgainOrEmptied : (variant : Variant) (key file journal : List ℕ) → Type 0
MayBeMadeAgainOrEmptied variant key file journal =
    (header : Option FileHeader) × (writes : Option Writes) × IsHeaderIn variant key file header × AreJournaled variant key journal writes
    × IsJournalAccepted variant key (header_block_of file) header writes journal

-- The call returns `success` exactly if the journal may be made again, or emptied, unless the variant or the length of the key
-- is wrong. Then `bytes` becomes the length of its writes if it is whole, and 0 if it is not.
pub record JournalCheck (variant : Option Variant) (key file journal : List ℕ) (bytes bytes' : ℕ) (code : ℤ) : Type 0 where
  pub answered : code ≢ number_of InvalidTag → code ≢ number_of WrongJournal → code ≡ keyed_code variant (length key) success
  pub lengths : code ≡ number_of InvalidTag → keyed_code variant (length key) success ≡ success
  pub other : code ≡ number_of WrongJournal → keyed_code variant (length key) success ≡ success
  pub accepted : code ≡ success → MayBeMadeAgainOrEmptied (the variant) key file journal
  pub complete : MayBeMadeAgainOrEmptied (the variant) key file journal → keyed_code variant (length key) success ≡ success → code ≡ success
  -- also known without the header: a whole journal whose commit began or ended with the first bytes of the file
  pub own : (writes : Writes) → IsJournal (journal_key (the variant) key) [] writes journal → header_block_bytes ≤ length file → IsOfCommit (take (head_bytes (the variant)) (take header_block_bytes file)) writes
      → keyed_code variant (length key) success ≡ success → code ≡ success
  -- without a header, and with one
  pub none : code ≡ number_of InvalidTag → IsHeaderIn (the variant) key file None
  pub named : code ≡ number_of WrongJournal → (header : FileHeader) × IsHeaderIn (the variant) key file (Some header)
  pub whole : (writes : Writes) → code ≡ success → IsJournal (journal_key (the variant) key) [] writes journal → HoldsWrites writes (part_at journal journal_start_bytes bytes')
  pub torn : code ≡ success → AreJournaled (the variant) key journal None → bytes' ≡ 0
  -- the writes lie in the journal
  pub within : code ≡ success → 0 < bytes' → journal_start_bytes + bytes' ≤ length journal
  pub kept : code ≢ success → bytes' ≡ bytes

-- The call finds the first of the writes, if there is one: its place, and the length of its bytes.
pub record JournalNext (writes : List ℕ) (place place' len len' : ℕ) (code : ℤ) : Type 0 where
  pub answered : code ≢ number_of NoWrite → code ≡ success
  pub found : code ≡ success → writes ≡ entry (place', part_at writes 16 len') ++ drop (16 + len') writes
  pub within : code ≡ success → place' + len' ≤ max_storage_bytes
  pub long : code ≡ success → 16 + len' ≤ length writes
  -- it is the first of those that the bytes hold, and no other
  pub one : (write : ℕ × List ℕ) (after : Writes) → HoldsWrites (write ∷ after) writes
      → (code ≡ success) × ((place', part_at writes 16 len') ≡ write) × HoldsWrites after (drop (16 + len') writes)
  pub kept : code ≢ success → (place' ≡ place) × (len' ≡ len)

-- ---- the order of the calls of a commit and of a recovery: the steps of `aegis_storage`, by their numbers

-- the number of a step in C
abbrev pub number_of_step : Step → ℕ
number_of_step Done = 0
number_of_step WriteBeginning = 1
number_of_step WriteRest = 2
number_of_step SyncJournal = 3
number_of_step ReplaceJournal = 4
number_of_step (MakeWrite write) = 5
number_of_step SyncStorage = 6
number_of_step EmptyJournal = 7

-- the number of the write that a step makes; a step that makes none leaves what there was
abbrev pub write_of_step : Step → (before : ℕ) → ℕ
write_of_step (MakeWrite write) before = write
write_of_step _ before = before

-- The call returns the number of one of the steps, and sets `write` to the number of the write that it makes, if any.
pub record NumberedStep (steps : List Step) (number write write' answer : ℕ) : Type 0 where
  pub answered : answer ≡ number_of_step (step_at steps number)
  pub made : write' ≡ write_of_step (step_at steps number) write
