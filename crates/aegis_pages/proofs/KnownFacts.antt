-- Bytes that are known, or not, and errors.
use Rattle.std.proofs.Common.{◌≡◌, ℕ, ◌≤◌, ◌≢◌, ◌∙◌, Bool, Err, Result, List, Option, None, Some, IfSome, refl, sym, arith, rules}
use Rattle.std.specs.declared.io.Error.{Error}
use Rattle.aegis_pages.specs.declared.error.PagesError.{PagesError}
use Rattle.aegis_pages.specs.declared.error.PagesError.TheVariants.{Read, Write, Nonce, Header, Damaged, OutOfMemory, Journal, Broken}
use Rattle.aegis_pages.specs.Commits.{IsReadRefusal, IsStorageReadError, IsBeginRefusal, IsCreateRefusal}
use Rattle.aegis_pages.specs.Layouts.{IsPageSize, Layout}
use Rattle.aegis_pages.specs.OpenFile.{ChangedPages}

pub known_map : (o : Option (List ℕ)) (P Q : List ℕ → Type 0) → ((xs : List ℕ) → P xs → Q xs) → IfSome o P → IfSome o Q
known_map None P Q f p = tt
known_map (Some xs) P Q f p = f xs p

pub known_map2 : (o : Option (List ℕ)) (P Q R : List ℕ → Type 0) → ((xs : List ℕ) → P xs → Q xs → R xs) → IfSome o P → IfSome o Q → IfSome o R
known_map2 None P Q R f p q = tt
known_map2 (Some xs) P Q R f p q = f xs p q

pub known_all : (o : Option (List ℕ)) (P : List ℕ → Type 0) → ((xs : List ℕ) → P xs) → IfSome o P
known_all None P f = tt
known_all (Some xs) P f = f xs

pub if_both : {X : Type 0} (a b : Option X) (P : Type 0) → ((x y : X) → a ≡ Some x → b ≡ Some y → P) → IfSome a (λ _. IfSome b (λ _. P))
if_both None b P f = tt
if_both (Some x) None P f = tt
if_both (Some x) (Some y) P f = f x y refl refl

-- ---- errors

-- the same error, for a range that ends later
pub read_within : (layout : Layout) (changes : ChangedPages) (end most : ℕ) (o : Option (List ℕ)) → end ≤ most → (broken : Bool) (e : PagesError) → IsReadRefusal broken layout changes end o e → IsReadRefusal broken layout changes most o e
read_within layout changes end most o within broken (Read e) is = tt
read_within layout changes end most o within broken (Damaged k) is = (omega (arith, within, is.0), is.1)
read_within layout changes end most o within broken Broken is = is
read_within layout changes end most o within broken _ is = absurd is

-- the journal cannot be emptied: the source of nonces was not asked
pub create_begins : (of_source : Error → Type 0) (n : ℕ) (journal : Option (List ℕ)) → IsPageSize n → (e : PagesError) → IsBeginRefusal (λ _. ⊥) journal e → IsCreateRefusal of_source n journal e
create_begins of_source n journal size (Read e) is = (size, is)
create_begins of_source n journal size (Write e) is = (size, is)
create_begins of_source n journal size (Nonce e) is = absurd is
create_begins of_source n journal size OutOfMemory is = (size, is)
create_begins of_source n journal size Journal is = (size, is)
create_begins of_source n journal size _ is = absurd is

-- reading failed, and so the file was not left alone
reads_only : (e : PagesError) → IsStorageReadError e → (e ≢ Journal) × (e ≢ Header)
reads_only (Read e) is = (search rules, search rules)
reads_only _ is = absurd is

-- a result that is this error, and no other one
pub only_error : {T : Type 0} (r : Result T PagesError) (e k : PagesError) → r ≡ Err e → e ≢ k → r ≢ Err k
only_error r e k is other same = other (let both : Err e ≡ Err k = sym is ∙ same in cc)

pub never_left : {T : Type 0} (r : Result T PagesError) (e : PagesError) → r ≡ Err e → IsStorageReadError e → (r ≢ Err Journal) × (r ≢ Err Header)
never_left r e is reads = let other = reads_only e reads in (only_error r e Journal is other.0, only_error r e Header is other.1)
