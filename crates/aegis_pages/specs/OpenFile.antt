-- Contents in sealed pages, with changes, and a file that is open.
use Rattle.std.specs.Prelude.{◌≡◌, ℕ, ◌+◌, ◌*◌, ◌/◌, ◌%◌, ◌<◌, ◌≤◌, ◌⊎◌, List, Option, None, Some, length, slice_index, ◌-◌, Bool, false, min, take, IfSome}
use Rattle.aegis_base.specs.Variant.{Variant}
use Rattle.aegis_storage.specs.Disk.{Disk, part_at}
use Rattle.aegis_pages.specs.Layouts.{IsHeader, Layout, OpensAt, page_at, sealed_bytes}
use Rattle.std.specs.Map.{lookup}
use Rattle.std.specs.Ordering.{nat_cmp}
use Rattle.std.specs.BTreeMap.{is_at}
use Rattle.aegis_storage.specs.Journal.{IsAtRest}

-- the contents of pages that were changed since the last commit, by the numbers of the pages
abbrev pub ChangedPages : Type 0
ChangedPages = ℕ → Option (List ℕ)

-- no page was changed
abbrev pub unchanged : ChangedPages
unchanged k = None

-- Page k of the file shows the contents m: it was changed to m, or it is there whole and opens to m.
abbrev pub Shows : Layout → Option (List ℕ) → List ℕ → ℕ → List ℕ → Type 0
Shows layout (Some changed) file k m = m ≡ changed
Shows layout None file k m = (length (page_at layout file k) ≡ sealed_bytes layout layout.page_bytes) × OpensAt layout k (page_at layout file k) m

-- Page k of the file is that of the contents: it shows bytes that are the contents', as far as the contents go.
pub record IsPage (layout : Layout) (changed : Option (List ℕ)) (file : List ℕ) (k : ℕ) (contents : List ℕ) : Type 0 where
  pub message : List ℕ
  pub shows : Shows layout changed file k message
  pub bytes : (i : ℕ) → i < layout.page_bytes → k * layout.page_bytes + i < length contents → slice_index message i ≡ slice_index contents (k * layout.page_bytes + i)

-- the file, with its changes, has each page of the contents
pub record ArePages (layout : Layout) (changes : ChangedPages) (contents file : List ℕ) : Type 0 where
  pub page : (k : ℕ) → k * layout.page_bytes < length contents → IsPage layout (changes k) file k contents

-- the file of contents: its header has the length, and the pages are the contents'
pub record IsSealed (layout : Layout) (counter : ℕ) (contents file : List ℕ) : Type 0 where
  pub header : IsHeader layout counter (length contents) file
  pub pages : ArePages layout unchanged contents file

-- the bytes are a file of the contents under the layout
abbrev pub IsFileUnder : Layout → (contents file : List ℕ) → Type 0
IsFileUnder layout contents file = (counter : ℕ) × IsSealed layout counter contents file

-- the bytes are a file of the contents under the variant and the key
pub record IsFileOf (variant : Variant) (key contents file : List ℕ) : Type 0 where
  pub layout : Layout
  pub counter : ℕ
  pub variant_is : layout.variant ≡ variant
  pub key_is : layout.key ≡ key
  pub is : IsSealed layout counter contents file

-- Byte j of the contents is b, by the page of the file that has it.
pub record IsByte (layout : Layout) (changes : ChangedPages) (file : List ℕ) (j b : ℕ) : Type 0 where
  pub message : List ℕ
  pub shows : Shows layout (changes (j / layout.page_bytes)) file (j / layout.page_bytes) message
  pub byte : b ≡ slice_index message (j % layout.page_bytes)

-- Page k has no byte from place `from` up to `end`: it ends before them, or begins after them.
abbrev pub IsApart : ℕ → ℕ → ℕ → ℕ → Type 0
IsApart page_bytes from end k = (k * page_bytes + page_bytes ≤ from) ⊎ (end ≤ k * page_bytes)

-- only pages that have bytes from `from` up to `end` may have changed
abbrev pub KeepsOthers : ℕ → ℕ → ℕ → ChangedPages → ChangedPages → Type 0
KeepsOthers page_bytes from end old new = (k : ℕ) → IsApart page_bytes from end k → new k ≡ old k

-- ---- a file that is open

-- contents, each with the number of its page
abbrev pub Plaintexts : Type 0
Plaintexts = List (ℕ × List ℕ)

-- the contents of a page
abbrev pub contents_at : Plaintexts → ChangedPages
contents_at plaintexts k = lookup (is_at (nat_cmp k)) plaintexts

-- What the file's sealed pages are sealed under, the counter and the length in its header, the length of the contents,
-- the pages that were changed since the last commit, the storage's bytes where they are known, what a crash may leave
-- of the storage and of the journal where that is known, and whether a commit has failed.
pub record OpenFile : Type 0 where
  pub layout : Layout
  pub counter : ℕ
  pub stored : ℕ
  pub len : ℕ
  pub changes : Plaintexts
  pub bytes : Option (List ℕ)
  pub disk : Option Disk
  pub journal : Option Disk
  pub broken : Bool

-- The header and the pages, with the changes, are those of the contents.
pub record Has (layout : Layout) (counter stored len : ℕ) (changes : Plaintexts) (broken : Bool) (contents bytes : List ℕ) : Type 0 where
  pub size : length contents ≡ len
  pub sound : broken ≡ false
  pub header : IsHeader layout counter stored bytes
  pub pages : ArePages layout (contents_at changes) contents bytes

-- known bytes of which something is so
abbrev pub IsKnown : (List ℕ → Type 0) → Option (List ℕ) → Type 0
IsKnown P None = ⊥
IsKnown P (Some bytes) = P bytes

-- the bytes are known, and the file has the contents
unfoldable pub HasContents : OpenFile → List ℕ → Type 0
HasContents file contents = IsKnown (Has file.layout file.counter file.stored file.len file.changes file.broken contents) file.bytes

-- The storage holds the contents, under a layout and with a counter in its header, and the journal is empty; both are certain.
pub record Committed (layout : Layout) (counter : ℕ) (disk journal : Option Disk) (contents : List ℕ) : Type 0 where
  pub bytes : List ℕ
  pub rests : IsAtRest disk journal bytes
  pub is : IsSealed layout counter contents bytes

-- the same as one word, which the proofs of callers take from one call to the next
unfoldable pub IsCommitted : Layout → (counter : ℕ) → (disk journal : Option Disk) → (contents : List ℕ) → Type 0
IsCommitted layout counter disk journal contents = Committed layout counter disk journal contents

-- a storage and a journal are those of a file under a variant and a key whose contents are committed
unfoldable pub AreCommitted : (variant : Variant) (key : List ℕ) (storage journal : Option Disk) (contents : List ℕ) → Type 0
AreCommitted variant key storage journal contents =
    (layout : Layout) × (counter : ℕ) × (layout.variant ≡ variant) × (layout.key ≡ key) × IsCommitted layout counter storage journal contents

-- the file's storage holds the contents, and its journal is empty
abbrev pub HasCommitted : OpenFile → List ℕ → Type 0
HasCommitted file contents = IsCommitted file.layout file.counter file.disk file.journal contents

-- the file is as it was
pub record IsUnchanged (old new : OpenFile) : Type 0 where
  pub is : new ≡ old

-- n bytes were read into `out`, with room for `room`: as many as there are, each a byte of a page, and those of the contents
pub record Reads (file : OpenFile) (at room : ℕ) (out : List ℕ) (n : ℕ) : Type 0 where
  pub count : n ≡ min room (file.len - at)
  pub opened : IfSome file.bytes (λ bytes. (i : ℕ) → i < n → IsByte file.layout (contents_at file.changes) bytes (at + i) (slice_index out i))
  pub contents : (contents : List ℕ) → HasContents file contents → take n out ≡ part_at contents at n

-- the storages, the header, the layout and whether a commit has failed are as they were
pub record IsStoredAs (old new : OpenFile) : Type 0 where
  pub layout : new.layout ≡ old.layout
  pub counter : new.counter ≡ old.counter
  pub stored : new.stored ≡ old.stored
  pub bytes : new.bytes ≡ old.bytes
  pub disk : new.disk ≡ old.disk
  pub journal : new.journal ≡ old.journal
  pub broken : new.broken ≡ old.broken

-- The file has one of the contents, and its storage holds it for certain.
abbrev pub OpensAtOne : OpenFile → (before now : List ℕ) → Type 0
OpensAtOne file before now = (HasContents file before × HasCommitted file before) ⊎ (HasContents file now × HasCommitted file now)
