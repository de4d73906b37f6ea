-- The contents of a page, as they are after a part was written.
use Rattle.std.proofs.Common.{◌≡◌, ℕ, ◌+◌, ◌-◌, ◌<◌, ◌≤◌, ◌⊎◌, inl, inr, List, ◌*◌, ◌++◌, Option, drop, get_or, length, take, sym, ap, ◌∙◌, arith, replicate, max, min}
use Rattle.std.proofs.lemmas.Bool.{cases_lt}
use Rattle.std.proofs.lemmas.List.{get_or-take, get_or_past, length-drop, length-take, get_or-append_right, get_or-drop, get_or-replicate, get_or_append_left}
use Rattle.aegis_storage.specs.Disk.{overwritten, part_at}
use Rattle.aegis_pages.specs.Layouts.{Layout, sealed_bytes, inner, nonce_bytes}
use Rattle.aegis_pages.specs.OpenFile.{IsPage, Shows}
use Rattle.aegis_pages.proofs.SealedFacts.{inner_of}
use Rattle.aegis_storage.proofs.Overwriting.{after_part, before_part, length-overwritten, put_part, within_part}

-- The part was laid over the first `live` bytes of the page's contents and zeros. Where it was not, the contents have no byte past `live`.
pub record Lies (contents part before after : List ℕ) (page_bytes live start at : ℕ) : Type 0 where
  pub long : length before ≡ page_bytes
  pub live_in : live ≤ page_bytes
  pub live_contents : (i : ℕ) → i < live → get_or before i 0 ≡ get_or contents (start + i) 0
  pub rest : (i : ℕ) → live ≤ i → i < page_bytes → (start + i < at) ⊎ (at + length part ≤ start + i) → length contents ≤ start + i
  pub laid : (i : ℕ) → i < length before → at ≤ start + i → start + i < at + length part → get_or after i 0 ≡ get_or part ((start + i) - at) 0
  pub kept : (i : ℕ) → i < live → (start + i < at) ⊎ (at + length part ≤ start + i) → get_or after i 0 ≡ get_or before i 0
  pub cleared : (i : ℕ) → i < length before → live ≤ i → (start + i < at) ⊎ (at + length part ≤ start + i) → get_or after i 0 ≡ 0

pub outside : (contents part : List ℕ) (at i : ℕ) → (i < at) ⊎ (at + length part ≤ i) → get_or contents i 0 ≡ get_or (overwritten contents at part) i 0
outside contents part at i apart = grind (arith, before_part, after_part)

pub lies_so : (contents part before after : List ℕ) (page_bytes live start at : ℕ) → Lies contents part before after page_bytes live start at
    → (i : ℕ) → i < page_bytes → get_or after i 0 ≡ get_or (overwritten contents at part) (start + i) 0
lies_so contents part before after page_bytes live start at l i low = cases (cases_lt (start + i) at) (cases_lt (start + i) (at + length part))
  where
    near : i < length before
    near = omega (arith, l.long)

    other : (start + i < at) ⊎ (at + length part ≤ start + i) → (i < live) ⊎ (live ≤ i) → get_or after i 0 ≡ get_or (overwritten contents at part) (start + i) 0
    other apart (inl below) = l.kept i below apart ∙ l.live_contents i below ∙ outside contents part at (start + i) apart
    other apart (inr past) = l.cleared i near past apart ∙ sym (get_or_past contents (start + i) 0 (l.rest i past low apart)) ∙ outside contents part at (start + i) apart

    cases : (start + i < at) ⊎ (at ≤ start + i) → (start + i < at + length part) ⊎ (at + length part ≤ start + i)
        → get_or after i 0 ≡ get_or (overwritten contents at part) (start + i) 0
    cases (inl below) any = other (inl below) (cases_lt i live)
    cases (inr from) (inl to) = l.laid i near from to ∙ sym (within_part contents at part (start + i) from to)
    cases (inr from) (inr above) = other (inr above) (cases_lt i live)

-- the bytes of a page that was read are the contents'
pub live_so : (layout : Layout) (changed : Option (List ℕ)) (number n : ℕ) (contents file page : List ℕ) (i : ℕ) → n ≡ nonce_bytes layout → length page ≡ sealed_bytes layout layout.page_bytes
    → ((m : List ℕ) → Shows layout changed file number m → inner layout page ≡ m)
    → IsPage layout changed file number contents → i < layout.page_bytes → number * layout.page_bytes + i < length contents
    → get_or (take ((n + layout.page_bytes) - n) (drop n page)) i 0 ≡ get_or contents (number * layout.page_bytes + i) 0
live_so layout changed number n contents file page i nonce room only is low within = grind (arith, get_or-take, only is.message is.shows, is.bytes i low within)

-- the same, with the page size that the code has
pub live_at : (layout : Layout) (changed : Option (List ℕ)) (number n p : ℕ) (contents file page : List ℕ) (i : ℕ) → p ≡ layout.page_bytes → n ≡ nonce_bytes layout → length page ≡ sealed_bytes layout layout.page_bytes
    → ((m : List ℕ) → Shows layout changed file number m → inner layout page ≡ m)
    → IsPage layout changed file number contents → i < p → number * p + i < length contents
    → get_or (take ((n + p) - n) (drop n page)) i 0 ≡ get_or contents (number * p + i) 0
live_at layout changed number n p contents file page i size nonce room only is low within = grind (arith, get_or-take, only is.message is.shows, is.bytes)

-- the page with its contents exchanged
pub inner_put : (layout : Layout) (n m : ℕ) (page contents : List ℕ) → n ≡ nonce_bytes layout → length page ≡ sealed_bytes layout m → length contents ≡ m
    → inner layout (take n page ++ (contents ++ drop ((n + m) - n) (drop n page))) ≡ contents
inner_put layout n m page contents nonce room size = grind (arith, inner_of, length-take, length-drop)

-- the contents that were put into a sealed page
pub inner_written : (layout : Layout) (n : ℕ) (box contents made : List ℕ) → n ≡ nonce_bytes layout → length contents ≡ layout.page_bytes → length box ≡ sealed_bytes layout layout.page_bytes → made ≡ overwritten box n contents
    → inner layout made ≡ contents
inner_written layout n box contents made nonce size room put =
    let long : length made ≡ sealed_bytes layout layout.page_bytes = omega (arith, ap length put, length-overwritten box n contents, nonce, size, room) in
    let count : length made - (nonce_bytes layout + 32) ≡ length contents = omega (arith, long, size) in
    ap (λ (k : ℕ). take k (drop (nonce_bytes layout) made)) count ∙ ap (λ (k : ℕ). take (length contents) (drop k made)) (sym nonce)
    ∙ ap (λ (l : List ℕ). part_at l n (length contents)) put ∙ put_part box n contents

-- the contents in a sealed page
pub slice_inner : (layout : Layout) (n p : ℕ) (page : List ℕ) → n ≡ nonce_bytes layout → p ≡ layout.page_bytes → length page ≡ sealed_bytes layout layout.page_bytes
    → take ((n + p) - n) (drop n page) ≡ inner layout page
slice_inner layout n p page nonce size room = grind arith

-- ---- a part that is laid over the contents of a page

-- how `part`, of which the bytes from place `from` up to `to` are in the page, was laid over the page's contents
pub record Lays (contents cleared part piece new : List ℕ) (live start at from to : ℕ) : Type 0 where
  pub live_in : live ≤ length contents
  pub cleared_is : cleared ≡ take live contents ++ replicate (length contents - live) 0
  pub piece_is : piece ≡ take ((to - at) - (from - at)) (drop (from - at) part)
  pub put : new ≡ overwritten cleared (from - start) piece
  pub from_at : at ≤ from
  pub from_start : start ≤ from
  pub from_is : from ≡ max at start
  pub to_end : to ≤ at + length part
  pub to_stop : to ≤ start + length contents
  pub to_is : to ≡ min (at + length part) (start + length contents)
  pub some : from < to

length-piece : (contents cleared part piece new : List ℕ) (live start at from to : ℕ) → Lays contents cleared part piece new live start at from to → length piece ≡ to - from
length-piece contents cleared part piece new live start at from to l = grind (arith, l.piece_is, l.from_at, l.to_end, l.some, length-take, length-drop)

pub laid_byte : (contents cleared part piece new : List ℕ) (live start at from to : ℕ) → Lays contents cleared part piece new live start at from to
    → (i : ℕ) → i < length contents → at ≤ start + i → start + i < at + length part → get_or new i 0 ≡ get_or part ((start + i) - at) 0
laid_byte contents cleared part piece new live start at from to l i low above below = grind (arith, l.from_at, l.from_start, l.from_is, l.to_is, l.some, l.put, l.piece_is, length-take, length-drop, within_part, get_or-take, get_or-drop)

-- a byte that the part does not cover
other_byte : (contents cleared part piece new : List ℕ) (live start at from to : ℕ) → Lays contents cleared part piece new live start at from to
    → (i : ℕ) → i < length contents → (start + i < at) ⊎ (at + length part ≤ start + i) → get_or new i 0 ≡ get_or cleared i 0
other_byte contents cleared part piece new live start at from to l i low apart = grind (arith, length-piece contents cleared part piece new live start at from to l, l.put, l.from_at, l.from_start, l.to_end, l.some, before_part, after_part)

pub kept_byte : (contents cleared part piece new : List ℕ) (live start at from to : ℕ) → Lays contents cleared part piece new live start at from to
    → (i : ℕ) → i < live → (start + i < at) ⊎ (at + length part ≤ start + i) → get_or new i 0 ≡ get_or contents i 0
kept_byte contents cleared part piece new live start at from to l i low apart = grind (arith, l.live_in, l.cleared_is, other_byte contents cleared part piece new live start at from to l i (let a = l.live_in in omega arith) apart, get_or_append_left, get_or-take, length-take)

pub cleared_byte : (contents cleared part piece new : List ℕ) (live start at from to : ℕ) → Lays contents cleared part piece new live start at from to
    → (i : ℕ) → i < length contents → live ≤ i → (start + i < at) ⊎ (at + length part ≤ start + i) → get_or new i 0 ≡ 0
cleared_byte contents cleared part piece new live start at from to l i low past apart = grind (arith, l.live_in, l.cleared_is, other_byte contents cleared part piece new live start at from to l i low apart, get_or-append_right, get_or-replicate, length-take)
