-- Contents in a map.
use Rattle.std.proofs.lemmas.Bool.Decides.{nat_tests}
use Rattle.std.proofs.Common.{arith}
use Rattle.std.proofs.Common.{Equal, Greater, Less, Ordering, nat_cmp, ◌≡◌, ◌≢◌, ℕ, ◌*◌, ◌≤◌, Bool, false, List, [], ◌∷◌, ◌++◌, None, Some, length, map, option_map, ap, ◌∙◌}
use Rattle.std.specs.List.{All, AllByRecursion}
use Rattle.std.proofs.lemmas.List.Elements.{All-head, All-tail}
use Rattle.std.proofs.lemmas.Map.Made.{lookup-map_values}
use Rattle.std.specs.BTreeMap.{BTreeMap, get, get_by, insert_entry, is_at}
use Rattle.std.specs.Map.{lookup}
use Rattle.std.specs.Ordering.{match_ordering}
use Rattle.aegis_pages.specs.declared.changes.PageContents.{PageContents}
use Rattle.aegis_pages.specs.declared.layout.TheConstants.{MAX_CONTENTS_BYTES}
use Rattle.aegis_pages.specs.OpenFile.{Plaintexts, contents_at}
use Rattle.aegis_pages.specs.Private.{plaintexts_in, FitPages}

-- the entries as contents
abbrev pub plaintexts_of : {A : Type 0} → List (ℕ × PageContents A) → Plaintexts
plaintexts_of es = map (λ e. (e.0, e.1.bytes.items)) es

pub lookup_map : {A : Type 0} (test : ℕ → Bool) (es : List (ℕ × PageContents A)) → lookup test (plaintexts_of es) ≡ option_map (λ t. t.bytes.items) (lookup test es)
lookup_map test es = lookup-map_values (λ t. t.bytes.items) test es

-- a number that is another one
pub not_at : (x y : ℕ) → y ≢ x → is_at (nat_cmp x) y ≡ false
not_at x y apart = grind (arith, nat_tests)

pub fit_inserted : {A : Type 0} (size : ℕ) (es : List (ℕ × PageContents A)) (k : ℕ) (v : PageContents A) → length v.bytes.items ≡ size → k * size ≤ MAX_CONTENTS_BYTES
    → FitPages size (plaintexts_of es) → FitPages size (plaintexts_of (insert_entry nat_cmp es k v))
fit_inserted size [] k v long within fit = ((long, within), tt)
fit_inserted {A} size (e ∷ es) k v long within fit = cases (nat_cmp k e.0) (fit_inserted size es k v long within fit.1)
  where
    cases : (r : Ordering) → FitPages size (plaintexts_of (insert_entry nat_cmp es k v)) → FitPages size (plaintexts_of (match_ordering r ((k, v) ∷ e ∷ es) ((e.0, v) ∷ es) (e ∷ insert_entry nat_cmp es k v)))
    cases Less rest = ((long, within), fit)
    cases Equal rest = ((long, fit.0.1), fit.1)
    cases Greater rest = (fit.0, rest)

-- what is known of contents that are there
pub fits_at : (size : ℕ) (plaintexts : Plaintexts) (test : ℕ → Bool) (contents : List ℕ) → FitPages size plaintexts → lookup test plaintexts ≡ Some contents → length contents ≡ size
fits_at size [] test contents fit is = absurd (cc)
fits_at size (e ∷ es) test contents fit is = grind (arith, fits_at size es test contents fit.1)

-- ---- what a map has

pub found_in : {A : Type 0} (plaintexts : BTreeMap ℕ (PageContents A)) (k : ℕ) (t : PageContents A) → get_by (nat_cmp k) plaintexts ≡ Some t → contents_at (plaintexts_in plaintexts) k ≡ Some t.bytes.items
found_in {A} plaintexts k t is = lookup_map (is_at (nat_cmp k)) plaintexts.entries ∙ ap (option_map (λ (x : PageContents A). x.bytes.items)) is

pub none_in : {A : Type 0} (plaintexts : BTreeMap ℕ (PageContents A)) (k : ℕ) → get_by (nat_cmp k) plaintexts ≡ None → contents_at (plaintexts_in plaintexts) k ≡ None
none_in {A} plaintexts k is = lookup_map (is_at (nat_cmp k)) plaintexts.entries ∙ ap (option_map (λ (x : PageContents A). x.bytes.items)) is

pub other_in : {A : Type 0} (old new : BTreeMap ℕ (PageContents A)) (number k : ℕ) → k ≢ number → ((q : ℕ) → is_at (nat_cmp number) q ≡ false → get nat_cmp new q ≡ get nat_cmp old q)
    → contents_at (plaintexts_in new) k ≡ contents_at (plaintexts_in old) k
other_in {A} old new number k apart same = grind (arith, lookup_map, not_at, same)

-- one entry among others
pub fit_item : (size : ℕ) (done rest : Plaintexts) (k : ℕ) (t : List ℕ) → FitPages size (done ++ (k, t) ∷ rest) → (length t ≡ size) × (k * size ≤ MAX_CONTENTS_BYTES)
fit_item size [] rest k t fit = fit.0
fit_item size (d ∷ done) rest k t fit = fit_item size done rest k t fit.1

-- each entry's contents are the one at its number
pub have_one : {A : Type 0} (m : BTreeMap ℕ (PageContents A)) (es : List (ℕ × PageContents A)) → All (λ e. get nat_cmp m e.0 ≡ Some e.1) es
    → AllByRecursion (λ e. contents_at (plaintexts_in m) e.0 ≡ Some e.1) (plaintexts_of es)
have_one m [] all = tt
have_one {A} m (e ∷ es) all = (
  found_in m e.0 e.1 (All-head (λ (x : ℕ × PageContents A). get nat_cmp m x.0 ≡ Some x.1) e es all),
  have_one m es (All-tail (λ (x : ℕ × PageContents A). get nat_cmp m x.0 ≡ Some x.1) e es all),
)

-- what a copy of the contents of a page uses
pub ruleset copied_laws = (found_in, none_in, fits_at)
