-- What the bodies and their proofs use, and no public contract.
use Rattle.std.specs.Prelude.{◌≡◌, ℕ, ◌*◌, ◌≤◌, List, Option, Some, length, map, [], ◌∷◌, ⊤}
use Rattle.aegis_storage.specs.Disk.{Disk, Writes, certain, overwritten}
use Rattle.aegis_pages.specs.Layouts.{Layout, OpensAt, max_contents_bytes, page_place, sealed_bytes}
use Rattle.std.specs.BTreeMap.{BTreeMap}
use Rattle.std.specs.List.{AllByRecursion}
use Rattle.aegis_pages.specs.declared.changes.PageContents.{PageContents}
use Rattle.aegis_pages.specs.OpenFile.{ArePages, ChangedPages, Plaintexts, contents_at}
use Rattle.std.specs.declared.io.Error.{Error}
use Rattle.aegis_pages.specs.declared.error.PagesError.{PagesError}
use Rattle.aegis_pages.specs.declared.error.PagesError.TheVariants.{Read, Write, Damaged}
use Rattle.aegis_pages.specs.Commits.{IsStorageReadError, ShowsNothing}

-- the pages of each contents that the file had are those of the contents with the part written over it
abbrev pub WritesContents : Layout → ℕ → ℕ → List ℕ → ChangedPages → ChangedPages → List ℕ → Type 0
WritesContents layout len at part old new file = (contents : List ℕ) → length contents ≡ len → ArePages layout old contents file → ArePages layout new (overwritten contents at part) file

-- the length of each, and the contents
pub record ChangedPlaintexts : Type 0 where
  pub size : ℕ
  pub entries : Plaintexts

-- the contents in a map
abbrev pub plaintexts_in : {A : Type 0} → BTreeMap ℕ (PageContents A) → Plaintexts
plaintexts_in plaintexts = map (λ e. (e.0, e.1.bytes.items)) plaintexts.entries

-- each plaintext has `size` bytes, and its page begins no later than contents may end
abbrev pub FitPages : ℕ → Plaintexts → Type 0
FitPages size plaintexts = AllByRecursion (λ e. (length e.1 ≡ size) × (e.0 * size ≤ max_contents_bytes)) plaintexts

-- no page has two plaintexts
abbrev pub HaveOnePlaintext : Plaintexts → Type 0
HaveOnePlaintext plaintexts = AllByRecursion (λ e. contents_at plaintexts e.0 ≡ Some e.1) plaintexts

-- the write is that of a page that opens to the contents
pub record IsSealOf (layout : Layout) (number : ℕ) (contents : List ℕ) (place : ℕ) (sealed : List ℕ) : Type 0 where
  pub place_is : place ≡ page_place layout number
  pub size : length sealed ≡ sealed_bytes layout layout.page_bytes
  pub opens : OpensAt layout number sealed contents

-- each write is that of the page of contents, in their order
abbrev pub Seals : Layout → Plaintexts → Writes → Type 0
Seals layout [] [] = ⊤
Seals layout [] (w ∷ ws) = ⊥
Seals layout (e ∷ es) [] = ⊥
Seals layout (e ∷ es) (w ∷ ws) = IsSealOf layout e.0 e.1 w.0 w.1 × Seals layout es ws

-- certain bytes of which something is so
pub record IsCertain (P : List ℕ → Type 0) (state : Option Disk) : Type 0 where
  pub bytes : List ℕ
  pub is : state ≡ Some (certain bytes)
  pub so : P bytes

-- Reading failed, or the page of this number shows nothing.
abbrev pub IsShowRefusal : Layout → ChangedPages → ℕ → Option (List ℕ) → PagesError → Type 0
IsShowRefusal layout changes number bytes (Damaged k) = (k ≡ number) × ShowsNothing layout changes number bytes
IsShowRefusal layout changes number bytes e = IsStorageReadError e
