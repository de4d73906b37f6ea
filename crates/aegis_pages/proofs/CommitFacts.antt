-- The writes of a commit: pages and headers, and the header that a file begins with.
use Rattle.std.proofs.Common.{◌≡◌, ◌↔◌, IsTrue, ℕ, ◌+◌, ◌<◌, ◌≤◌, ◌⊎◌, inl, inr, List, [], ◌∷◌, ◌++◌, drop, length, take, refl, sym, ap, ◌∙◌, arith, nat_cmp, Bool, true, false, cond, Option, None, Some, subst, rules}
use Rattle.std.proofs.lemmas.List.{length-append, length-take, take-append-drop, take-take, take_all}
use Rattle.aegis_base.specs.Variant.{Variant}
use Rattle.aegis_storage.specs.Disk.{Writes, after_writes, overwritten, part_at}
use Rattle.aegis_storage.specs.Journal.{AreWithinStorage, entries, entry}
use Rattle.aegis_storage.specs.declared.store.TheConstants.{MAX_STORAGE_BYTES}
use Rattle.aegis_storage.proofs.Journals.{same_entry}
use Rattle.aegis_pages.specs.Commits.{BeginsWith, EndsWith, IsOfCommit, head_bytes, head_of}
use Rattle.std.proofs.lemmas.Bool.{cases_lt}
use Rattle.std.proofs.lemmas.Bool.Decides.{nat_tests}
use Rattle.std.specs.BTreeMap.{is_at}
use Rattle.std.specs.List.{AllByRecursion}
use Rattle.std.proofs.Math.Nat.{mul-le-mul_right}
use Rattle.aegis_storage.proofs.Disks.{written_more}
use Rattle.aegis_storage.proofs.Overwriting.{kept_part, length-overwritten, put_part}
use Rattle.aegis_pages.specs.OpenFile.{ArePages, ChangedPages, IsSealed, Plaintexts, Shows, contents_at, unchanged}
use Rattle.aegis_pages.specs.Private.{HaveOnePlaintext, IsSealOf, Seals}
use Rattle.aegis_pages.specs.Layouts.{IsHeader, IsHeaderBlock, Layout, OpensAt, sealed_bytes, page_at, page_place}

-- ---- the first and the last write in the content of a journal

-- the write that was found is the first one
pub first_known : (place : ℕ) (bytes rest content : List ℕ) (writes : Writes) → place + length bytes ≤ MAX_STORAGE_BYTES → content ≡ entry (place, bytes) ++ rest → AreWithinStorage writes → content ≡ entries writes
    → (left : Writes) × (writes ≡ (place, bytes) ∷ left)
first_known place bytes rest content [] low is p same = absurd (let sizes : length (entry (place, bytes) ++ rest) ≡ 0 = ap length (sym is ∙ same) in omega (arith, sizes))
first_known place bytes rest content (w ∷ ws) low is p same =
    let first = same_entry (place, bytes) w rest (entries ws) low p.0 (sym is ∙ same) in (ws, ap (λ (x : ℕ × List ℕ). x ∷ ws) (sym first.0))

heads_same : (x y : ℕ × List ℕ) (xs ys : Writes) → x ∷ xs ≡ y ∷ ys → x ≡ y
heads_same x y xs ys same = cc

pub false_is_not : IsTrue false → ⊥
false_is_not is = search rules

pub begins_first : (head : List ℕ) (place : ℕ) (bytes rest content : List ℕ) (writes : Writes) (b : Bool) → IsTrue b ↔ (place ≡ 0) × (take (length head) bytes ≡ head)
    → place + length bytes ≤ MAX_STORAGE_BYTES → content ≡ entry (place, bytes) ++ rest → AreWithinStorage writes → content ≡ entries writes → IsTrue b ↔ BeginsWith head writes
begins_first head place bytes rest content writes b tested low is p same =
    let first = first_known place bytes rest content writes low is p same in (
      λ yes. (let both = tested.0 yes in (bytes, first.0, first.1 ∙ ap (λ (n : ℕ). (n, bytes) ∷ first.0) both.0, both.1)),
      λ begins. tested.1 (
          let one = heads_same (place, bytes) (0, begins.0) first.0 begins.1 (sym first.1 ∙ begins.2) in
          (ap (λ (x : ℕ × List ℕ). x.0) one, ap (λ (x : ℕ × List ℕ). take (length head) x.1) one ∙ begins.3)
          ),
    )

pub begins_none : (head content : List ℕ) (writes : Writes) → ((write : ℕ × List ℕ) (rest : List ℕ) → write.0 + length write.1 ≤ MAX_STORAGE_BYTES → content ≡ entry write ++ rest → ⊥)
    → AreWithinStorage writes → content ≡ entries writes → BeginsWith head writes → ⊥
begins_none head content [] none p same begins = absurd (let is = begins.2 in cc)
begins_none head content (w ∷ ws) none p same begins = none w (entries ws) p.0 same

last_same : (vs ws : Writes) (x y : ℕ × List ℕ) → vs ++ x ∷ [] ≡ ws ++ y ∷ [] → x ≡ y
last_same [] [] x y same = cc
last_same [] (w ∷ ws) x y same = absurd (let sizes : 1 ≡ length (w ∷ (ws ++ y ∷ [])) = ap length same in omega (arith, sizes, length-append ws (y ∷ [])))
last_same (v ∷ vs) [] x y same = absurd (let sizes : length (v ∷ (vs ++ x ∷ [])) ≡ 1 = ap length same in omega (arith, sizes, length-append vs (x ∷ [])))
last_same (v ∷ vs) (w ∷ ws) x y same = last_same vs ws x y (cc)

-- the last one so far
pub ends_more : (head : List ℕ) (done : Writes) (place : ℕ) (bytes : List ℕ) (b : Bool) → IsTrue b ↔ (place ≡ 0) × (take (length head) bytes ≡ head) → IsTrue b ↔ EndsWith head (done ++ (place, bytes) ∷ [])
ends_more head done place bytes b tested = (
  λ yes. (let both = tested.0 yes in (bytes, done, ap (λ (n : ℕ). done ++ (n, bytes) ∷ []) both.0, both.1)),
  λ ends. tested.1 (let one = last_same done ends.1 (place, bytes) (0, ends.0) ends.2 in (ap (λ (x : ℕ × List ℕ). x.0) one, ap (λ (x : ℕ × List ℕ). take (length head) x.1) one ∙ ends.3)),
)

pub ends_none : (head : List ℕ) → EndsWith head [] → ⊥
ends_none head ends = let sizes : 0 ≡ length (ends.1 ++ (0, ends.0) ∷ []) = ap length ends.2 in omega (arith, sizes, length-append ends.1 ((0, ends.0) ∷ []))

-- ---- the header that a file begins with

-- it is read in one header block
pub head_read : (variant : Variant) (file header_block : List ℕ) → header_block ≡ part_at file 0 512 → take (head_bytes variant) header_block ≡ head_of variant file
head_read variant file header_block is = ap (take (head_bytes variant)) is ∙ take-take (head_bytes variant) 512 (drop 0 file) (grind arith)

pub take_own : (n : ℕ) (xs : List ℕ) → take (length (take n xs)) xs ≡ take n xs
take_own n xs = grind (arith, length-take, take-take, take_all)

-- bytes that are written over themselves
pub first_again : (xs : List ℕ) (n : ℕ) → overwritten xs 0 (part_at xs 0 n) ≡ xs
first_again xs n = grind (arith, take_own, take-append-drop)

-- ---- pages that a commit writes

-- ---- places

-- two pages lie apart
pub places_apart : (layout : Layout) (j k : ℕ) → j < k → page_place layout j + sealed_bytes layout layout.page_bytes ≤ page_place layout k
places_apart layout j k below = grind (arith, mul-le-mul_right)

-- a page is as it was after the write of another one
other_page : (layout : Layout) (k number place : ℕ) (file sealed : List ℕ) → (k < number) ⊎ (number < k) → place ≡ page_place layout number → length sealed ≡ sealed_bytes layout layout.page_bytes
    → length (page_at layout file k) ≡ sealed_bytes layout layout.page_bytes → page_at layout (overwritten file place sealed) k ≡ page_at layout file k
other_page layout k number place file sealed apart is long whole =
    grind (arith, is, long, whole, kept_part file place sealed (page_place layout k) (sealed_bytes layout layout.page_bytes), places_apart layout k number, places_apart layout number k)

-- the page that was written
this_page : (layout : Layout) (number place : ℕ) (file sealed : List ℕ) → place ≡ page_place layout number → length sealed ≡ sealed_bytes layout layout.page_bytes
    → page_at layout (overwritten file place sealed) number ≡ sealed
this_page layout number place file sealed is long = grind (arith, put_part)

-- ---- pages after the writes

-- the page that was written shows its contents
written_here : (layout : Layout) (number : ℕ) (contents : List ℕ) (place : ℕ) (sealed file : List ℕ) (k : ℕ) (m : List ℕ) → IsSealOf layout number contents place sealed
    → number ≡ k → contents ≡ m → Shows layout None (overwritten file place sealed) k m
written_here layout number contents place sealed file k m seal here same =
    let is = this_page layout number place file sealed seal.place_is seal.size in
    subst (λ (j : ℕ). Shows layout None (overwritten file place sealed) j m) here
    (subst (Shows layout None (overwritten file place sealed) number) same
    (ap length is ∙ seal.size, subst (λ (l : List ℕ). OpensAt layout number l contents) (sym is) seal.opens))

-- a page of the file that shows m shows it after a page was written, if that is another one, or the same and m
shows_after : (layout : Layout) (number : ℕ) (contents : List ℕ) (place : ℕ) (sealed file : List ℕ) (k : ℕ) (m : List ℕ) → IsSealOf layout number contents place sealed
    → (number ≡ k → contents ≡ m) → Shows layout None file k m → Shows layout None (overwritten file place sealed) k m
shows_after layout number contents place sealed file k m seal same shows = elim (cases_lt k number) [ inl below ↦ kept (inl below) | inr from ↦ elim (cases_lt number k) [ inl above ↦ kept (inr above) | inr to ↦ (let here : number ≡ k = omega arith in written_here layout number contents place sealed file k m seal here (same here)) ] ]
  where
    kept : (k < number) ⊎ (number < k) → Shows layout None (overwritten file place sealed) k m
    kept apart =
        let is = other_page layout k number place file sealed apart seal.place_is seal.size shows.0 in
        (ap length is ∙ shows.0, rw is shows.1)

-- page k has no other contents than m among these
abbrev OnlyShows : ℕ → List ℕ → Plaintexts → Type 0
OnlyShows k m plaintexts = AllByRecursion (λ e. e.0 ≡ k → e.1 ≡ m) plaintexts

shows_still : (layout : Layout) (plaintexts : Plaintexts) (writes : Writes) (file : List ℕ) (k : ℕ) (m : List ℕ) → Seals layout plaintexts writes → OnlyShows k m plaintexts
    → Shows layout None file k m → Shows layout None (after_writes writes file) k m
shows_still layout [] [] file k m seals only shows = shows
shows_still layout [] (w ∷ ws) file k m seals only shows = absurd seals
shows_still layout (e ∷ es) [] file k m seals only shows = absurd seals
shows_still layout (e ∷ es) (w ∷ ws) file k m seals only shows =
    shows_still layout es ws (overwritten file w.0 w.1) k m seals.1 only.1 (shows_after layout e.0 e.1 w.0 w.1 file k m seals.0 only.0 shows)

found_at : (x y : ℕ) → is_at (nat_cmp x) y ≡ true → y ≡ x
found_at x y is = grind (arith, nat_tests)

shows_found : (layout : Layout) (plaintexts : Plaintexts) (writes : Writes) (file : List ℕ) (k : ℕ) (m : List ℕ) → Seals layout plaintexts writes → OnlyShows k m plaintexts
    → contents_at plaintexts k ≡ Some m → Shows layout None (after_writes writes file) k m
shows_found layout [] writes file k m seals only is = absurd (cc)
shows_found layout (e ∷ es) [] file k m seals only is = absurd seals
shows_found layout (e ∷ es) (w ∷ ws) file k m seals only is =
    cases (is_at (nat_cmp k) e.0) refl (shows_found layout es ws (overwritten file w.0 w.1) k m seals.1 only.1) is
  where
    cases : (b : Bool) → is_at (nat_cmp k) e.0 ≡ b → (contents_at es k ≡ Some m → Shows layout None (after_writes ws (overwritten file w.0 w.1)) k m) → cond b (Some e.1) (contents_at es k) ≡ Some m → Shows layout None (after_writes ws (overwritten file w.0 w.1)) k m
    cases true at rest found =
        let here : e.0 ≡ k = found_at k e.0 at in
        shows_still layout es ws (overwritten file w.0 w.1) k m seals.1 only.1 (written_here layout e.0 e.1 w.0 w.1 file k m seals.0 here (only.0 here))
    cases false at rest found = rest found

-- ---- one plaintext for each page

only_one : (all plaintexts : Plaintexts) (k : ℕ) (m : List ℕ) → AllByRecursion (λ e. contents_at all e.0 ≡ Some e.1) plaintexts → contents_at all k ≡ Some m → OnlyShows k m plaintexts
only_one all [] k m one is = tt
only_one all (e ∷ es) k m one is = (λ here. grind (arith, one.0), only_one all es k m one.1 is)

only_none : (all plaintexts : Plaintexts) (k : ℕ) (m : List ℕ) → AllByRecursion (λ e. contents_at all e.0 ≡ Some e.1) plaintexts → contents_at all k ≡ None → OnlyShows k m plaintexts
only_none all [] k m one is = tt
only_none all (e ∷ es) k m one is = (λ here. grind (arith, one.0), only_none all es k m one.1 is)

pub shows_sealed : (layout : Layout) (plaintexts : Plaintexts) (writes : Writes) (file : List ℕ) (k : ℕ) (m : List ℕ) → Seals layout plaintexts writes → HaveOnePlaintext plaintexts
    → Shows layout (contents_at plaintexts k) file k m → Shows layout None (after_writes writes file) k m
shows_sealed layout plaintexts writes file k m seals one shows = cases (contents_at plaintexts k) refl shows
  where
    cases : (o : Option (List ℕ)) → contents_at plaintexts k ≡ o → Shows layout o file k m → Shows layout None (after_writes writes file) k m
    cases None is s = shows_still layout plaintexts writes file k m seals (only_none plaintexts plaintexts k m one is) s
    cases (Some t) is s = shows_found layout plaintexts writes file k m seals (only_one plaintexts plaintexts k m one (is ∙ ap Some (sym s))) (is ∙ ap Some (sym s))

pub pages_sealed : (layout : Layout) (plaintexts : Plaintexts) (writes : Writes) (contents file : List ℕ) → Seals layout plaintexts writes → HaveOnePlaintext plaintexts
    → ArePages layout (contents_at plaintexts) contents file → ArePages layout unchanged contents (after_writes writes file)
pages_sealed layout plaintexts writes contents file seals one are = record {
  page = λ k low.
      let page = are.page k low in
      record { message = page.message; shows = shows_sealed layout plaintexts writes file k page.message seals one page.shows; bytes = page.bytes };
}

-- one more page
pub seals_more : (layout : Layout) (plaintexts : Plaintexts) (writes : Writes) (number : ℕ) (contents : List ℕ) (place : ℕ) (sealed : List ℕ) → Seals layout plaintexts writes
    → IsSealOf layout number contents place sealed → Seals layout (plaintexts ++ (number, contents) ∷ []) (writes ++ (place, sealed) ∷ [])
seals_more layout [] [] number contents place sealed seals seal = (seal, tt)
seals_more layout [] (w ∷ ws) number contents place sealed seals seal = absurd seals
seals_more layout (e ∷ es) [] number contents place sealed seals seal = absurd seals
seals_more layout (e ∷ es) (w ∷ ws) number contents place sealed seals seal = (seals.0, seals_more layout es ws number contents place sealed seals.1 seal)

-- ---- the header

-- a page is as it was after the header was written
header_shows : (layout : Layout) (header_block file : List ℕ) (k : ℕ) (m : List ℕ) → length header_block ≡ 512 → Shows layout None file k m → Shows layout None (overwritten file 0 header_block) k m
header_shows layout header_block file k m long shows =
    let is : page_at layout (overwritten file 0 header_block) k ≡ page_at layout file k =
    kept_part file 0 header_block (page_place layout k) (sealed_bytes layout layout.page_bytes) (inr (omega (arith, long))) shows.0 in
    (ap length is ∙ shows.0, subst (λ (l : List ℕ). OpensAt layout k l m) (sym is) shows.1)

pub header_written : (layout : Layout) (counter len : ℕ) (header_block file : List ℕ) → length header_block ≡ 512 → IsHeaderBlock layout counter len header_block → IsHeader layout counter len (overwritten file 0 header_block)
header_written layout counter len header_block file long is = record {
  whole = omega (arith, long, length-overwritten file 0 header_block);
  is = subst (IsHeaderBlock layout counter len) (sym (ap (part_at (overwritten file 0 header_block) 0) (sym long) ∙ put_part file 0 header_block)) is;
}

header_pages : (layout : Layout) (changes : ChangedPages) (header_block contents file : List ℕ) → length header_block ≡ 512 → ArePages layout changes contents file → ArePages layout changes contents (overwritten file 0 header_block)
header_pages layout changes header_block contents file long are = record {
  page = λ k low.
      let page = are.page k low in
      record { message = page.message; shows = any (changes k) k page.message page.shows; bytes = page.bytes };
}
  where
    any : (o : Option (List ℕ)) (k : ℕ) (m : List ℕ) → Shows layout o file k m → Shows layout o (overwritten file 0 header_block) k m
    any None k m shows = header_shows layout header_block file k m long shows
    any (Some t) k m shows = shows

-- the header block of before, the pages, and the header
pub commit_sealed : (layout : Layout) (counter len : ℕ) (plaintexts : Plaintexts) (first more made all : Writes) (start place : ℕ) (before header_block contents file : List ℕ) → Seals layout plaintexts more → HaveOnePlaintext plaintexts
    → first ≡ (start, before) ∷ [] → start ≡ 0 → length before ≡ 512 → made ≡ first ++ more → all ≡ made ++ (place, header_block) ∷ [] → place ≡ 0 → length header_block ≡ 512
    → IsHeaderBlock layout counter len header_block → length contents ≡ len → ArePages layout (contents_at plaintexts) contents file → IsSealed layout counter contents (after_writes all file)
commit_sealed layout counter len plaintexts first more made all start place before header_block contents file seals one begins at long ends is zero size header len_is are =
    let begun : List ℕ = overwritten file 0 before in
    let all_is : after_writes all file ≡ overwritten (after_writes more begun) 0 header_block = rw (is, ends, begins, at, zero) (written_more ((0, before) ∷ more) 0 header_block file) in
    let pages = pages_sealed layout plaintexts more contents begun seals one (header_pages layout (contents_at plaintexts) before contents file long are) in
    subst (IsSealed layout counter contents) (sym all_is) (record {
      header = subst (λ (n : ℕ). IsHeader layout counter n (overwritten (after_writes more begun) 0 header_block)) (sym len_is) (header_written layout counter len header_block (after_writes more begun) size header);
      pages = header_pages layout unchanged header_block contents (after_writes more begun) size pages;
    })

-- ---- the headers of a commit

pub starts_commit : (variant : Variant) (first more made all : Writes) (before : List ℕ) (place : ℕ) (header_block : List ℕ) → first ≡ (0, before) ∷ [] → made ≡ first ++ more → all ≡ made ++ (place, header_block) ∷ []
    → IsOfCommit (take (head_bytes variant) before) all
starts_commit variant first more made all before place header_block begins long ends = inl (before, more ++ (place, header_block) ∷ [], cc, take_own (head_bytes variant) before)

pub ends_commit : (variant : Variant) (made all : Writes) (place : ℕ) (header_block file : List ℕ) → all ≡ made ++ (place, header_block) ∷ [] → place ≡ 0 → length header_block ≡ 512
    → IsOfCommit (head_of variant (after_writes all file)) all
ends_commit variant made all place header_block file ends zero long =
    let last : all ≡ made ++ (0, header_block) ∷ [] = ends ∙ ap (λ (n : ℕ). made ++ (n, header_block) ∷ []) zero in
    let there : header_block ≡ part_at (after_writes all file) 0 512 =
    sym (
    ap (λ (l : Writes). part_at (after_writes l file) 0 512) last ∙ ap (λ (l : List ℕ). part_at l 0 512) (written_more made 0 header_block file)
    ∙ ap (part_at (overwritten (after_writes made file) 0 header_block) 0) (sym long) ∙ put_part (after_writes made file) 0 header_block
    ) in
    subst (λ (l : List ℕ). IsOfCommit l all) (head_read variant (after_writes all file) header_block there) (inr (header_block, made, last, take_own (head_bytes variant) header_block))
