-- Reading a range of contents, and writing a part over them, page after page.
use Rattle.std.proofs.Common.{◌≡◌, ℕ, ◌+◌, ◌-◌, ◌*◌, ◌/◌, ◌%◌, ◌<◌, ◌≤◌, ◌⊎◌, inl, inr, List, drop, get_or, length, take, sym, ap, subst, ◌∙◌, arith, ◌≢◌, Option, Some, min, refl}
use Rattle.std.proofs.lemmas.Bool.{cases_lt}
use Rattle.std.proofs.lemmas.List.{get_or-drop, get_or-take, length-drop, length-take}
use Rattle.std.proofs.lemmas.Nat.{div-add-mod', div-mul-add, mod-mul-add, div_below, le-div, mod_below}
use Rattle.aegis_storage.specs.Disk.{overwritten}
use Rattle.aegis_pages.specs.Layouts.{Layout, sealed_bytes, inner, nonce_bytes}
use Rattle.aegis_pages.specs.OpenFile.{ArePages, ChangedPages, IsByte, Shows, IsApart, IsPage, KeepsOthers}
use Rattle.aegis_pages.specs.Private.{WritesContents}
use Rattle.aegis_storage.proofs.Overwriting.{before_part, within_part, length-overwritten}
use Rattle.aegis_pages.proofs.ComposeFacts.{outside}
use Rattle.std.proofs.Math.Nat.{mul-le-mul_right}

-- A piece of the page's contents was put into `out`, after `done` bytes.
pub record Puts (layout : Layout) (page out piece new : List ℕ) (at done count : ℕ) : Type 0 where
  pub nonce : ℕ
  pub nonce_is : nonce ≡ nonce_bytes layout
  pub room : length page ≡ sealed_bytes layout layout.page_bytes
  pub piece_is : piece ≡ take (((nonce + (at + done) % layout.page_bytes) + count) - (nonce + (at + done) % layout.page_bytes)) (drop (nonce + (at + done) % layout.page_bytes) page)
  pub put : new ≡ overwritten out done piece
  pub within : (at + done) % layout.page_bytes + count ≤ layout.page_bytes

-- where byte k of the piece lies
pub record IsIn (layout : Layout) (page new : List ℕ) (at done i : ℕ) : Type 0 where
  pub byte : get_or new i 0 ≡ get_or (inner layout page) ((at + i) % layout.page_bytes) 0
  pub number : (at + i) / layout.page_bytes ≡ (at + done) / layout.page_bytes
  pub place : (at + done) / layout.page_bytes * layout.page_bytes + (at + i) % layout.page_bytes ≡ at + i
  pub below : (at + i) % layout.page_bytes < layout.page_bytes

pub put_in : (layout : Layout) (page out piece new : List ℕ) (at done count : ℕ) → Puts layout page out piece new at done count
    → (i : ℕ) → done ≤ i → i < done + count → IsIn layout page new at done i
put_in layout page out piece new at done count p i from to =
    let n : ℕ = layout.page_bytes in
    let q : ℕ = (at + done) / n in
    let r : ℕ = (at + done) % n in
    let room = p.room in
    let nonce = p.nonce_is in
    let h : ℕ = p.nonce in
    let within = p.within in
    let split : q * n + r ≡ at + done = div-add-mod' (at + done) n in
    let low : r + (i - done) < n = omega arith in
    let is : at + i ≡ q * n + (r + (i - done)) = omega (arith, split) in
    let number : (at + i) / n ≡ q = ap (λ (x : ℕ). x / n) is ∙ div-mul-add q n (r + (i - done)) low in
    let rest : (at + i) % n ≡ r + (i - done) = ap (λ (x : ℕ). x % n) is ∙ mod-mul-add q n (r + (i - done)) low in
    let size : length piece ≡ count =
    omega (arith, ap length p.piece_is, length-take (((h + r) + count) - (h + r)) (drop (h + r) page), length-drop (h + r) page, nonce, room, within) in
    let here : get_or piece (i - done) 0 ≡ get_or page (nonce_bytes layout + (r + (i - done))) 0 =
    ap (λ (l : List ℕ). get_or l (i - done) 0) p.piece_is
    ∙ get_or-take (((h + r) + count) - (h + r)) (drop (h + r) page) (i - done) 0 (omega arith)
    ∙ get_or-drop (h + r) page (i - done) 0 ∙ ap (λ (k : ℕ). get_or page k 0) (omega (arith, nonce)) in
    let there : get_or (inner layout page) (r + (i - done)) 0 ≡ get_or page (nonce_bytes layout + (r + (i - done))) 0 =
    get_or-take (length page - (nonce_bytes layout + 32)) (drop (nonce_bytes layout) page) (r + (i - done)) 0 (omega (arith, room, low))
    ∙ get_or-drop (nonce_bytes layout) page (r + (i - done)) 0 in
    record {
      byte = ap (λ (l : List ℕ). get_or l i 0) p.put ∙ within_part out done piece i from (omega arith) ∙ here ∙ sym there
          ∙ ap (λ (k : ℕ). get_or (inner layout page) k 0) (sym rest);
      number = number;
      place = omega (arith, rest, is);
      below = omega arith;
    }

-- ---- each byte that was read is a page's

pub bytes_more : (layout : Layout) (changes : ChangedPages) (file page out piece new : List ℕ) (at done count : ℕ) → Puts layout page out piece new at done count
    → ((i : ℕ) → i < done → IsByte layout changes file (at + i) (get_or out i 0))
    → Shows layout (changes ((at + done) / layout.page_bytes)) file ((at + done) / layout.page_bytes) (inner layout page)
    → (i : ℕ) → i < done + count → IsByte layout changes file (at + i) (get_or new i 0)
bytes_more layout changes file page out piece new at done count p before opens i low = grind (arith, p.put, before_part, before, opens, put_in layout page out piece new at done count p i, cases_lt i done)

-- ---- each byte that was read is the contents'

pub contents_more : (layout : Layout) (changes : ChangedPages) (file page out piece new contents : List ℕ) (at done count : ℕ) → Puts layout page out piece new at done count
    → ArePages layout changes contents file → ((i : ℕ) → i < done → get_or out i 0 ≡ get_or contents (at + i) 0)
    → ((m : List ℕ) → Shows layout (changes ((at + done) / layout.page_bytes)) file ((at + done) / layout.page_bytes) m → inner layout page ≡ m)
    → at + (done + count) ≤ length contents
    → (i : ℕ) → i < done + count → get_or new i 0 ≡ get_or contents (at + i) 0
contents_more layout changes file page out piece new contents at done count p are before only fits i low = grind (arith, p.put, before_part, before, only, are.page, put_in layout page out piece new at done count p i, cases_lt i done)

-- ---- a part that is written

-- Of the pages from `first` on, those before `number` were changed.
pub record Keeps (first number : ℕ) (old new : ChangedPages) : Type 0 where
  pub others : (k : ℕ) → (k < first) ⊎ (number ≤ k) → new k ≡ old k

pub record Rewrites (layout : Layout) (len at : ℕ) (part : List ℕ) (first number : ℕ) (old new : ChangedPages) (file : List ℕ) : Type 0 where
  pub written : (k : ℕ) → first ≤ k → k < number → (contents : List ℕ) → length contents ≡ len → ArePages layout old contents file
      → IsPage layout (new k) file k (overwritten contents at part)

pub keeps_more : (first number : ℕ) (old new next : ChangedPages) → first ≤ number → Keeps first number old new → ((k : ℕ) → k ≢ number → next k ≡ new k) → Keeps first (number + 1) old next
keeps_more first number old new next from keeps others = record {
  others = λ k apart. grind (arith, others, keeps.others);
}

pub rewrites_more : (layout : Layout) (len at : ℕ) (part : List ℕ) (first number : ℕ) (old new next : ChangedPages) (made file : List ℕ) → first ≤ number
    → Keeps first number old new → next number ≡ Some made → ((k : ℕ) → k ≢ number → next k ≡ new k)
    → ((contents : List ℕ) → length contents ≡ len → (number * layout.page_bytes < len → IsPage layout (new number) file number contents)
    → (i : ℕ) → i < layout.page_bytes → get_or made i 0 ≡ get_or (overwritten contents at part) (number * layout.page_bytes + i) 0)
    → Rewrites layout len at part first number old new file → Rewrites layout len at part first (number + 1) old next file
rewrites_more layout len at part first number old new next made file from keeps here others bytes r = record {
  written = λ k low high contents is are. cases k low high contents is are (cases_lt k number);
}
  where
    made_here : (contents : List ℕ) → length contents ≡ len → ArePages layout old contents file → IsPage layout (next number) file number (overwritten contents at part)
    made_here contents is are =
        let same : new number ≡ old number = keeps.others number (inr (let h : number ≤ number = omega arith in h)) in
        let live : number * layout.page_bytes < len → IsPage layout (new number) file number contents =
        λ low. subst (λ (o : Option (List ℕ)). IsPage layout o file number contents) (sym same) (are.page number (let h : number * layout.page_bytes < length contents = omega (arith, low, is) in h)) in
        subst (λ (o : Option (List ℕ)). IsPage layout o file number (overwritten contents at part)) (sym here) (record {
          message = made;
          shows = refl;
          bytes = λ i low fits. bytes contents is live i low;
        })

    cases : (k : ℕ) → first ≤ k → k < number + 1 → (contents : List ℕ) → length contents ≡ len → ArePages layout old contents file → (k < number) ⊎ (number ≤ k)
        → IsPage layout (next k) file k (overwritten contents at part)
    cases k low high contents is are (inl below) =
        let same : next k ≡ new k = others k (let h : k ≢ number = λ e. omega (arith, e, below) in h) in
        subst (λ (o : Option (List ℕ)). IsPage layout o file k (overwritten contents at part)) (sym same) (r.written k low below contents is are)
    cases k low high contents is are (inr above) =
        let at_it : number ≡ k = omega arith in
        subst (λ (j : ℕ). IsPage layout (next j) file j (overwritten contents at part)) at_it (made_here contents is are)

-- ---- at the end, or after an error

-- pages that have a byte of the part or of a gap before it
pub record Spans (page_bytes len at size first last : ℕ) : Type 0 where
  pub some : 0 < page_bytes
  pub first_is : first ≡ min at len / page_bytes
  pub last_is : last ≡ ((at + size) + (page_bytes - 1)) / page_bytes

pub first_low : (page_bytes len at size first last : ℕ) → Spans page_bytes len at size first last → first * page_bytes ≤ min at len
first_low page_bytes len at size first last s = omega (arith, s.first_is, ap (λ (x : ℕ). x * page_bytes) s.first_is, div-add-mod' (min at len) page_bytes)

-- a page apart is none of them
pub apart_outside : (page_bytes len at size first last k : ℕ) → Spans page_bytes len at size first last → IsApart page_bytes (min at len) (at + size) k → (k < first) ⊎ (last ≤ k)
apart_outside page_bytes len at size first last k s (inl before) =
    let some = s.some in
    let low : k + 1 ≤ min at len / page_bytes = le-div (k + 1) (min at len) page_bytes some (omega (arith, before)) in
    inl (omega (arith, s.first_is, low))
apart_outside page_bytes len at size first last k s (inr after) =
    let some = s.some in
    let high : ((at + size) + (page_bytes - 1)) / page_bytes < k + 1 = div_below ((at + size) + (page_bytes - 1)) page_bytes (k + 1) some (omega (arith, after)) in
    inr (omega (arith, s.last_is, high))

pub first_last : (page_bytes len at size first last : ℕ) → Spans page_bytes len at size first last → first ≤ last
first_last page_bytes len at size first last s = grind (arith, s.some, s.last_is, first_low page_bytes len at size first last s, le-div)

pub last_high : (page_bytes len at size first last : ℕ) → Spans page_bytes len at size first last → at + size ≤ last * page_bytes
last_high page_bytes len at size first last s = grind (arith, s.some, s.last_is, div-add-mod', mod_below)

pub keeps_others : (layout : Layout) (len at size first last number : ℕ) (old new : ChangedPages) → Spans layout.page_bytes len at size first last → number ≤ last
    → Keeps first number old new → KeepsOthers layout.page_bytes (min at len) (at + size) old new
keeps_others layout len at size first last number old new s to keeps k apart = grind (arith, keeps.others, apart_outside layout.page_bytes len at size first last k s apart)

-- the bytes of page k of both contents are the same
record Same (page_bytes k len at size : ℕ) : Type 0 where
  pub live : k * page_bytes < len
  pub stays : (i : ℕ) → i < page_bytes → (k * page_bytes + i < at) ⊎ (at + size ≤ k * page_bytes + i)
  pub within : (i : ℕ) → i < page_bytes → k * page_bytes + i < (at + size) + (len - (at + size)) → k * page_bytes + i < len

same_before : (page_bytes len at size first last k : ℕ) → Spans page_bytes len at size first last → k < first → Same page_bytes k len at size
same_before page_bytes len at size first last k s below =
    let some = s.some in
    let low = first_low page_bytes len at size first last s in
    let more = mul-le-mul_right page_bytes (let h : k + 1 ≤ first = omega arith in h) in
    record {
      live = omega (arith, more, low);
      stays = λ i h. inl (omega (arith, more, low, h));
      within = λ i h g. omega (arith, more, low, h);
    }

same_after : (page_bytes len at size first last k : ℕ) → Spans page_bytes len at size first last → last ≤ k → k * page_bytes < (at + size) + (len - (at + size))
    → Same page_bytes k len at size
same_after page_bytes len at size first last k s above in_contents =
    let high = last_high page_bytes len at size first last s in
    let more = mul-le-mul_right page_bytes above in
    record {
      live = omega (arith, more, high, in_contents);
      stays = λ i h. inr (omega (arith, more, high));
      within = λ i h g. omega (arith, more, high, g);
    }

same_page : (layout : Layout) (k at : ℕ) (contents part : List ℕ) (old new : ChangedPages) (file : List ℕ) → Same layout.page_bytes k (length contents) at (length part)
    → ArePages layout old contents file → new k ≡ old k → IsPage layout (new k) file k (overwritten contents at part)
same_page layout k at contents part old new file same are is =
    let page = are.page k same.live in
    rw is (record {
      message = page.message;
      shows = page.shows;
      bytes = λ i low fits. grind (arith, page.bytes i low, same.within i low, same.stays i low, length-overwritten, outside);
    })

pub rewrites_all : (layout : Layout) (len at : ℕ) (part : List ℕ) (first last : ℕ) (old new : ChangedPages) (file : List ℕ)
    → Spans layout.page_bytes len at (length part) first last → Keeps first last old new → Rewrites layout len at part first last old new file → WritesContents layout len at part old new file
rewrites_all layout len at part first last old new file s keeps r = λ contents is are. record {
  page = λ k in_contents. cases contents is are k in_contents (cases_lt k first) (cases_lt k last);
}
  where
    cases : (contents : List ℕ) → length contents ≡ len → ArePages layout old contents file → (k : ℕ) → k * layout.page_bytes < length (overwritten contents at part)
        → (k < first) ⊎ (first ≤ k) → (k < last) ⊎ (last ≤ k) → IsPage layout (new k) file k (overwritten contents at part)
    cases contents is are k in_contents (inl below) any =
        same_page layout k at contents part old new file (rw is (same_before layout.page_bytes len at (length part) first last k s below)) are (keeps.others k (inl below))
    cases contents is are k in_contents (inr from) (inl below) = r.written k from below contents is are
    cases contents is are k in_contents (inr from) (inr above) =
        let size : k * layout.page_bytes < (at + length part) + (len - (at + length part)) = grind (arith, is, in_contents, length-overwritten) in
        same_page layout k at contents part old new file (rw is (same_after layout.page_bytes len at (length part) first last k s above size)) are (keeps.others k (inr above))
