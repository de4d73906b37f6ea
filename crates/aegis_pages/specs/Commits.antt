-- The commitment of a file; its commits, before a crash and after it; and the errors of each function.
use Rattle.std.specs.Prelude.{◌≡◌, ℕ, zero, suc, ◌+◌, ◌-◌, ◌/◌, List, [], ◌++◌, drop, length, replicate, ◌≢◌, ◌<◌, ◌⊎◌, ◌∷◌, IfSome, Option, None, Some, ⊤, take, ◌*◌, ◌^◌, Bool, true}
use Rattle.std.specs.Int.{to_le_bytes, w64}
use Rattle.aegis_base.specs.Mac.{mac}
use Rattle.aegis_base.specs.Variant.{Variant, key_length, long_tag_bytes}
use Rattle.aegis_pages.specs.Layouts.{HasNoHeader, IsHeader, Layout, journal_beginning, journal_magic, layout_of, max_contents_bytes, nonce_bytes, page_at, plaintext_header, plaintext_header_bytes, IsPageSize}
use Rattle.aegis_storage.specs.Disk.{Disk, Writes, after_writes, part_at}
use Rattle.aegis_storage.specs.Journal.{AreWithinStorage, IsAtRest, IsJournal, IsNoOtherJournal, IsOneOf, KeepsBeginning, RecoversUnlessOtherJournal, entries, journal_beginning_bytes}
use Rattle.aegis_pages.specs.declared.header.FileHeader.{FileHeader}
use Rattle.aegis_pages.specs.OpenFile.{ChangedPages, IsFileOf, IsFileUnder, OpenFile, Shows}
use Rattle.std.specs.declared.io.Error.{Error}
use Rattle.aegis_pages.specs.declared.error.PagesError.{PagesError}
use Rattle.aegis_pages.specs.declared.error.PagesError.TheVariants.{Read, Write, Nonce, Header, Damaged, TooLong, OutOfMemory, Commitment, Journal, Broken, PageSize}

-- ---- the commitment: a MAC over the header's counter and length, and the tag of each page of the contents

-- how many pages contents of so many bytes have: those that begin before its end
abbrev pub page_count : (layout : Layout) (len : ℕ) → ℕ
page_count layout len = (len + (layout.page_bytes - 1)) / layout.page_bytes

-- the tag of page k: the last 32 bytes of its sealed page
abbrev pub page_tag : (layout : Layout) (file : List ℕ) (k : ℕ) → List ℕ
page_tag layout file k = drop (length (page_at layout file k) - long_tag_bytes) (page_at layout file k)

-- the tags of the first n pages, one after the other
abbrev pub page_tags : (layout : Layout) (file : List ℕ) (n : ℕ) → List ℕ
page_tags layout file zero = []
page_tags layout file (suc k) = page_tags layout file k ++ page_tag layout file k

-- the input of the MAC: magic number, variant, page size and id; the header's counter and length; and the tags of all pages
abbrev pub commitment_input : (layout : Layout) (counter len : ℕ) (file : List ℕ) → List ℕ
commitment_input layout counter len file =
    plaintext_header layout
    ++ (to_le_bytes w64 counter ++ (to_le_bytes w64 len ++ page_tags layout file (page_count layout len)))

-- the commitment: the MAC of 32 bytes, under the file's key and the nonce of all bytes 255
abbrev pub commitment : (layout : Layout) (counter len : ℕ) (file : List ℕ) → List ℕ
commitment layout counter len file =
    mac layout.variant long_tag_bytes layout.key (replicate (nonce_bytes layout) 255) (commitment_input layout counter len file)

-- the commitment of a file is c: that of its header under the variant and the key
pub record HasCommitment (variant : Variant) (key c file : List ℕ) : Type 0 where
  pub layout : Layout
  pub counter : ℕ
  pub len : ℕ
  pub variant_is : layout.variant ≡ variant
  pub key_is : layout.key ≡ key
  pub header : IsHeader layout counter len file
  pub is : c ≡ commitment layout counter len file

-- the file has this commitment, and no other
pub record HasOneCommitment (variant : Variant) (key c file : List ℕ) : Type 0 where
  pub has : HasCommitment variant key c file
  pub one : (other : List ℕ) → HasCommitment variant key other file → other ≡ c

-- the key of the journals of files under a key: a MAC of 16 bytes of their magic number, under the nonce of all bytes 255
abbrev pub journal_key : Variant → List ℕ → List ℕ
journal_key variant key = mac variant 16 key (replicate (key_length variant.family) 255) journal_magic

-- how many bytes a header has
abbrev pub head_bytes : Variant → ℕ
head_bytes variant = plaintext_header_bytes + (16 + (key_length variant.family + long_tag_bytes))

-- as many bytes as a header has, with which the file begins
abbrev pub head_of : Variant → (file : List ℕ) → List ℕ
head_of variant file = part_at file 0 (head_bytes variant)

-- the first of the writes makes a file begin with these bytes of a header
abbrev pub BeginsWith : (head : List ℕ) → Writes → Type 0
BeginsWith head writes = (header_block : List ℕ) × (rest : Writes) × (writes ≡ (0, header_block) ∷ rest) × (take (length head) header_block ≡ head)

-- the last of the writes does
abbrev pub EndsWith : (head : List ℕ) → Writes → Type 0
EndsWith head writes = (header_block : List ℕ) × (before : Writes) × (writes ≡ before ++ (0, header_block) ∷ []) × (take (length head) header_block ≡ head)

-- the first of the writes, or the last, makes a file begin with these bytes of a header
abbrev pub IsOfCommit : (head : List ℕ) → Writes → Type 0
IsOfCommit head writes = BeginsWith head writes ⊎ EndsWith head writes

-- ---- crashes

-- Whatever a crash now leaves of storage and journal, unless another whole journal, opening gives the contents `before` or `now`.
pub record RecoversContentsUnlessOtherJournal (variant : Variant) (key before now : List ℕ) (storage journal : Option Disk) : Type 0 where
  pub layout : Layout
  pub file : List ℕ
  pub writes : Writes
  pub variant_is : layout.variant ≡ variant
  pub key_is : layout.key ≡ key
  pub recovers : RecoversUnlessOtherJournal (journal_key variant key) [] file writes storage journal
  pub without : IsFileUnder layout before file
  pub with_writes : IsFileUnder layout before (after_writes writes file) ⊎ IsFileUnder layout now (after_writes writes file)
  -- the writes begin or end with the header of the file, and so they do with the one that they make of it
  pub old_head : IsOfCommit (head_of variant file) writes
  pub new_head : IsOfCommit (head_of variant (after_writes writes file)) writes
  -- a journal that is longer than its beginning begins with that of the file
  pub beginning : KeepsBeginning (journal_beginning layout) journal

-- If the journal's content is a whole journal, it is that of the commit: no forgery, and no older one.
abbrev pub IsHonest : {variant : Variant} {key before now : List ℕ} {storage journal : Option Disk} → RecoversContentsUnlessOtherJournal variant key before now storage journal → List ℕ → Type 0
IsHonest {variant} {key} batch bytes = IsNoOtherJournal (journal_key variant key) [] batch.writes bytes

-- Opening makes a whole journal of these writes again: their commit began or ended with the file's header, or it has none.
abbrev pub IsMadeAgain : Variant → (key file : List ℕ) → Writes → Type 0
IsMadeAgain variant key file writes = (HasNoHeader variant key file → ⊥) → IsOfCommit (head_of variant file) writes

-- The premise on what an opening finds: a whole journal that it would make again is that of the commit. An older journal
-- meets it, except that of the commit before, and that of one from the same header that failed.
abbrev pub MakesNoOther : {variant : Variant} {key before now : List ℕ} {storage journal : Option Disk} → RecoversContentsUnlessOtherJournal variant key before now storage journal → (file content : List ℕ) → Type 0
MakesNoOther {variant} {key} batch file content = (found : Writes) → IsJournal (journal_key variant key) [] found content → IsMadeAgain variant key file found → found ≡ batch.writes

-- The header of the storage's content is no forgery: if there is one, it is that of before the commit or of after it.
-- A torn header that opens all the same would be another.
abbrev pub HasHonestHeader : {variant : Variant} {key before now : List ℕ} {storage journal : Option Disk} → RecoversContentsUnlessOtherJournal variant key before now storage journal → List ℕ → Type 0
HasHonestHeader {variant} {key} batch bytes = (layout : Layout) (counter len : ℕ) → layout.variant ≡ variant → layout.key ≡ key → IsHeader layout counter len bytes
    → IsOneOf (head_of variant batch.file) (head_of variant (after_writes batch.writes batch.file)) (head_of variant bytes)

-- What can be read of the storage and of the journal is what a commit left, whatever it returned and whatever a crash
-- and openings that were cut short did since, with no forged header and no other whole journal.
unfoldable pub IsLeftByCommit : Variant → (key : List ℕ) → (bytes content : Option (List ℕ)) → (storage journal : Option Disk) → Type 0
IsLeftByCommit variant key bytes content storage journal =
    (before : List ℕ) × (now : List ℕ) × (batch : RecoversContentsUnlessOtherJournal variant key before now storage journal) × IfSome content (IsHonest batch) × IfSome bytes (HasHonestHeader batch)

-- The storage and the journal are synced, the journal is empty, and the file holds one of the two contents.
pub record RestsAtContents (variant : Variant) (key before now : List ℕ) (storage journal : Option Disk) : Type 0 where
  pub file : List ℕ
  pub rests : IsAtRest storage journal file
  pub one : IsFileOf variant key before file ⊎ IsFileOf variant key now file

-- ---- what a journal is to a file

-- the bytes have more than a beginning, and do not begin with this one
abbrev pub IsOfAnother : (beginning bytes : List ℕ) → Type 0
IsOfAnother beginning bytes = (journal_beginning_bytes < length bytes) × (take journal_beginning_bytes bytes ≢ beginning)

-- the writes in the content of a whole journal, or none if there is no such content
abbrev pub AreWritesOf : Option Writes → (content : Option (List ℕ)) → Type 0
AreWritesOf None None = ⊤
AreWritesOf None (Some content) = ⊥
AreWritesOf (Some writes) None = ⊥
AreWritesOf (Some writes) (Some content) = AreWithinStorage writes × (content ≡ entries writes)

-- What was read lets the journal be made again or emptied: a whole one, if the file has no header or its commit began or ended
-- with that of the header block, and one that is not whole if the file has a header and the journal is not another's.
abbrev pub IsJournalAccepted : Variant → (key : List ℕ) → (header_block : Option (List ℕ)) → Option FileHeader → Option Writes → (journal : List ℕ) → Type 0
IsJournalAccepted variant key header_block None None journal = ⊥
IsJournalAccepted variant key header_block None (Some writes) journal = ⊤
IsJournalAccepted variant key header_block (Some header) None journal = IsOfAnother (journal_beginning (layout_of variant key header)) journal → ⊥
IsJournalAccepted variant key None (Some header) (Some writes) journal = ⊥
IsJournalAccepted variant key (Some header_block) (Some header) (Some writes) journal = IsOfCommit (take (head_bytes variant) header_block) writes

-- the journal is not whole: it has no writes under this key
abbrev pub IsNotWhole : Variant → (key journal : List ℕ) → Type 0
IsNotWhole variant key journal = (writes : Writes) → IsJournal (journal_key variant key) [] writes journal → ⊥

-- The journal may be made again, or emptied: if it is whole, and the file has a header, its commit began or ended with
-- that one; and if it is not whole the file has a header, and it has no more than a beginning, or begins with that of the file.
pub record Fits (variant : Variant) (key file journal : List ℕ) : Type 0 where
  pub whole : (writes : Writes) → IsJournal (journal_key variant key) [] writes journal → IsMadeAgain variant key file writes
  pub other : IsNotWhole variant key journal → HasNoHeader variant key file → ⊥
  pub own : IsNotWhole variant key journal → (layout : Layout) (counter len : ℕ) → layout.variant ≡ variant → layout.key ≡ key
      → IsHeader layout counter len file → IsOfAnother (journal_beginning layout) journal → ⊥

-- `RecoversContentsUnlessOtherJournal` as one word, which the proofs of callers take from one call to the next
unfoldable pub RecoversUnder : Layout → (before now : List ℕ) → (storage journal : Option Disk) → Type 0
RecoversUnder layout before now storage journal = RecoversContentsUnlessOtherJournal layout.variant layout.key before now storage journal

-- Whatever a crash now leaves of the file, unless it leaves another whole journal, opening gives the contents `before` or `now`.
abbrev pub RecoversOneUnlessOtherJournal : OpenFile → (before now : List ℕ) → Type 0
RecoversOneUnlessOtherJournal file before now = RecoversUnder file.layout before now file.disk file.journal

-- ---- Which error a call returns. `of_source` has those that the source of nonces may return.

-- reading failed
abbrev pub IsStorageReadError : PagesError → Type 0
IsStorageReadError (Read e) = ⊤
IsStorageReadError _ = ⊥

-- the source of nonces returned an error, or no memory was left
abbrev pub IsSealError : (of_source : Error → Type 0) → PagesError → Type 0
IsSealError of_source (Nonce e) = of_source e
IsSealError of_source OutOfMemory = ⊤
IsSealError of_source _ = ⊥

-- a storage failed, the source of nonces returned an error, or no memory was left
abbrev pub IsBeginError : (of_source : Error → Type 0) → PagesError → Type 0
IsBeginError of_source (Read e) = ⊤
IsBeginError of_source (Write e) = ⊤
IsBeginError of_source (Nonce e) = of_source e
IsBeginError of_source OutOfMemory = ⊤
IsBeginError of_source _ = ⊥

-- the journal has bytes, or one of these failed
abbrev pub IsBeginRefusal : (of_source : Error → Type 0) → (journal : Option (List ℕ)) → PagesError → Type 0
IsBeginRefusal of_source journal Journal = IfSome journal (λ js. 0 < length js)
IsBeginRefusal of_source journal e = IsBeginError of_source e

-- `PageSize` is the error exactly of what is no page size. Otherwise the journal has bytes, or the file could not be begun.
abbrev pub IsCreateRefusal : (of_source : Error → Type 0) → ℕ → (journal : Option (List ℕ)) → PagesError → Type 0
IsCreateRefusal of_source page_bytes journal PageSize = IsPageSize page_bytes → ⊥
IsCreateRefusal of_source page_bytes journal e = IsPageSize page_bytes × IsBeginRefusal of_source journal e

-- page k of the file shows nothing
abbrev pub ShowsNothing : Layout → ChangedPages → ℕ → Option (List ℕ) → Type 0
ShowsNothing layout changes k bytes = IfSome bytes (λ file. (m : List ℕ) → Shows layout (changes k) file k m → ⊥)

-- reading failed, or a commit had failed
abbrev pub IsCommitmentRefusal : Bool → PagesError → Type 0
IsCommitmentRefusal broken (Read e) = ⊤
IsCommitmentRefusal broken Broken = broken ≡ true
IsCommitmentRefusal broken _ = ⊥

-- Reading failed, a page that begins before byte `end` of the contents shows nothing, or a commit had failed.
abbrev pub IsReadRefusal : Bool → Layout → ChangedPages → ℕ → Option (List ℕ) → PagesError → Type 0
IsReadRefusal broken layout changes end bytes (Damaged k) = (k * layout.page_bytes < end) × ShowsNothing layout changes k bytes
IsReadRefusal broken layout changes end bytes e = IsCommitmentRefusal broken e

-- As of a read, for the pages before byte `len`; or the contents would end past their limit, or no memory was left.
abbrev pub IsWriteRefusal : Bool → Layout → ChangedPages → (len end : ℕ) → Option (List ℕ) → PagesError → Type 0
IsWriteRefusal broken layout changes len end bytes (Damaged k) = (k * layout.page_bytes < len) × ShowsNothing layout changes k bytes
IsWriteRefusal broken layout changes len end bytes TooLong = max_contents_bytes < end
IsWriteRefusal broken layout changes len end bytes OutOfMemory = ⊤
IsWriteRefusal broken layout changes len end bytes e = IsCommitmentRefusal broken e

-- A storage failed, the source of nonces returned an error, no greater counter is left, no memory was left, or a commit had failed.
abbrev pub IsCommitRefusal : (of_source : Error → Type 0) → Bool → ℕ → PagesError → Type 0
IsCommitRefusal of_source broken counter (Write e) = ⊤
IsCommitRefusal of_source broken counter (Nonce e) = of_source e
IsCommitRefusal of_source broken counter TooLong = counter ≡ 2 ^ 64 - 1
IsCommitRefusal of_source broken counter OutOfMemory = ⊤
IsCommitRefusal of_source broken counter e = IsCommitmentRefusal broken e

-- After a failed write a file is broken, and after any other error of a commit it is as it was.
abbrev pub Breaks : (old new : OpenFile) → PagesError → Type 0
Breaks old new (Write e) = new.broken ≡ true
Breaks old new _ = new ≡ old

-- A storage failed, or no memory was left. Otherwise `Header` is returned only for a file without a header whose journal
-- is not whole, and `Journal` only for a file with a header that the journal does not fit.
abbrev pub IsOpenRefusal : Variant → (key : List ℕ) → (bytes journal : Option (List ℕ)) → PagesError → Type 0
IsOpenRefusal variant key bytes journal (Read e) = ⊤
IsOpenRefusal variant key bytes journal (Write e) = ⊤
IsOpenRefusal variant key bytes journal Header = IfSome bytes (HasNoHeader variant key) × IfSome journal (IsNotWhole variant key)
IsOpenRefusal variant key bytes journal OutOfMemory = ⊤
IsOpenRefusal variant key bytes journal Journal = IfSome bytes (λ file. (HasNoHeader variant key file → ⊥) × IfSome journal (λ js. Fits variant key file js → ⊥))
IsOpenRefusal variant key bytes journal _ = ⊥

-- The error says that the file was not opened, and nothing was written.
abbrev pub IsLeftAlone : PagesError → Type 0
IsLeftAlone Header = ⊤
IsLeftAlone Journal = ⊤
IsLeftAlone _ = ⊥

-- Reading failed, `expected` is not the commitment, or a commit had failed.
abbrev pub IsVerifyRefusal : Bool → Layout → ℕ → ℕ → Option (List ℕ) → List ℕ → PagesError → Type 0
IsVerifyRefusal broken layout counter len bytes expected Commitment = IfSome bytes (λ file. expected ≡ commitment layout counter len file → ⊥)
IsVerifyRefusal broken layout counter len bytes expected e = IsCommitmentRefusal broken e
