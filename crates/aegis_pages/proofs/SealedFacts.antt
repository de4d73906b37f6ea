-- Sealed pages, a nonce, a ciphertext and a tag, and the headers of a file.
use Rattle.std.proofs.Common.{◌≡◌, ℕ, ◌+◌, ◌-◌, ◌≤◌, List, ◌++◌, OnOk, Result, Ok, Err, true, drop, length, take, refl, sym, ap, subst, ◌∙◌, append_assoc, arith, ◌^◌, ◌<◌}
use Rattle.std.proofs.lemmas.Bool.{true≢false}
use Rattle.std.specs.Result.{is_ok}
use Rattle.std.proofs.lemmas.List.{drop-drop, drop_at, length-append, length-drop, length-take, take_at, take_all}
use Rattle.aegis_aes.specs.Lanes.{IsLaneCount}
use Rattle.aegis_base.specs.Variant.{Variant}
use Rattle.aegis_base.specs.Message.{Opens}
use Rattle.aegis_base.proofs.Bijection.{ciphertext-injective}
use Rattle.aegis_pages.specs.Layouts.{Layout, OpensAt, page_associated_data, sealed_bytes, inner, nonce_bytes, IsPageSize, plaintext_header, IsHeader, IsHeaderBlock, header_plaintext}
use Rattle.std.proofs.Math.Seq.{take-add}
use Rattle.std.proofs.lemmas.Nat.{from_le_bytes-to_le_bytes_4, from_le_bytes-to_le_bytes_8}
use Rattle.std.specs.Int.{from_le_bytes, to_le_bytes, w32, w64}
use Rattle.aegis_pages.specs.declared.layout.TheConstants.{HEADER_NUMBER, MAX_CONTENTS_BYTES}
use Rattle.aegis_storage.specs.Disk.{part_at}

-- a sealed page opens to one plaintext
pub opens_one : (layout : Layout) (number : ℕ) (sealed m n : List ℕ) → IsLaneCount layout.variant.lanes → OpensAt layout number sealed m → OpensAt layout number sealed n → m ≡ n
opens_one layout number sealed m n count first second = grind (arith, first.is, second.is, ciphertext-injective)

-- ---- the parts of a sealed page

pub inner_of : (layout : Layout) (h t e : List ℕ) → length h ≡ nonce_bytes layout → length e ≡ 32 → inner layout (h ++ (t ++ e)) ≡ t
inner_of layout h t e first last = grind (arith, length-append, drop_at, take_at)

end_of : (h t e : List ℕ) → length e ≡ 32 → drop (length (h ++ (t ++ e)) - 32) (h ++ (t ++ e)) ≡ e
end_of h t e last =
    let size : length (h ++ (t ++ e)) - 32 ≡ length (h ++ t) = omega (arith, last, length-append h (t ++ e), length-append t e, length-append h t) in
    ap (λ (n : ℕ). drop n (h ++ (t ++ e))) size ∙ ap (drop (length (h ++ t))) (sym (append_assoc h t e)) ∙ drop_at (h ++ t) e (length (h ++ t)) refl

-- a sealed page that was sealed from its parts
pub opens_parts : (layout : Layout) (number : ℕ) (h t e m : List ℕ) → length h ≡ nonce_bytes layout → length e ≡ 32
    → Opens layout.variant 32 layout.key h (page_associated_data layout number) t e m → OpensAt layout number (h ++ (t ++ e)) m
opens_parts layout number h t e m first last opens = record {
  is = rw (take_at h (t ++ e) (nonce_bytes layout) first, inner_of layout h t e first last, end_of h t e last) opens;
}

pub moved : (v v' : Variant) (m m' k k' n n' a a' t t' e e' : List ℕ) → v ≡ v' → m ≡ m' → k ≡ k' → n ≡ n' → a ≡ a' → t ≡ t' → e ≡ e'
    → Opens v 32 k n a t e m → Opens v' 32 k' n' a' t' e' m'
moved v v' m m' k k' n n' a a' t t' e e' w o p q r s u h = rw (← w, ← o, ← p, ← q, ← r, ← s, ← u) h

pub on_ok : {T E P : Type 0} (r : Result T E) → OnOk r P → is_ok r ≡ true → P
on_ok (Ok x) p is = p
on_ok (Err e) p is = absurd (true≢false (sym is))

-- what was cut off a sealed page
pub record Cut (layout : Layout) (sealed head contents end : List ℕ) : Type 0 where
  pub nonce : head ≡ take (nonce_bytes layout) sealed
  pub inside : contents ≡ inner layout sealed
  pub tag : end ≡ drop (length sealed - 32) sealed
  pub first : length head ≡ nonce_bytes layout
  pub last : length end ≡ 32

pub cut : (layout : Layout) (n : ℕ) (sealed head rest contents end : List ℕ) → n ≡ nonce_bytes layout → sealed_bytes layout 0 ≤ length sealed → head ≡ take n sealed → rest ≡ drop n sealed
    → contents ≡ take (length sealed - (n + 32)) rest → end ≡ drop (length sealed - (n + 32)) rest → Cut layout sealed head contents end
cut layout n sealed head rest contents end is long beginning back inside past = record {
  nonce = grind arith;
  inside = grind arith;
  tag = grind (arith, drop-drop);
  first = grind (arith, length-take);
  last = grind (arith, length-drop);
}

-- ---- one header in a header block

pub same_layout : (a b : Layout) → a.variant ≡ b.variant → a.key ≡ b.key → a.page_bytes ≡ b.page_bytes → a.id ≡ b.id → a ≡ b
same_layout a b variant key size id = grind arith

-- the page size and the id that a plaintext part names
pub named_size : (a : Layout) (plaintext : List ℕ) → plaintext ≡ plaintext_header a → take 4 (drop 5 plaintext) ≡ to_le_bytes w32 a.page_bytes
unfolding plaintext_header
named_size a plaintext is = ap (λ (l : List ℕ). take 4 (drop 5 l)) is

pub named_id : (a : Layout) (plaintext : List ℕ) → plaintext ≡ plaintext_header a → drop 9 plaintext ≡ a.id
unfolding plaintext_header
named_id a plaintext is = ap (drop 9) is

pub named_id_cut : (a : Layout) (plaintext : List ℕ) → plaintext ≡ plaintext_header a → take (length plaintext - 9) (drop 9 plaintext) ≡ a.id
named_id_cut a plaintext is = take_all (length plaintext - 9) (drop 9 plaintext) (omega (arith, length-drop 9 plaintext)) ∙ named_id a plaintext is

pub plaintext_same : (a b : Layout) → a.variant ≡ b.variant → a.page_bytes ≡ b.page_bytes → a.id ≡ b.id → plaintext_header a ≡ plaintext_header b
unfolding plaintext_header
plaintext_same a b variant size id = rw (variant, size, id) refl

pub read_size : (a : Layout) (plaintext bytes : List ℕ) (n : ℕ) → plaintext ≡ plaintext_header a → bytes ≡ take 4 (drop 5 plaintext) → n ≡ from_le_bytes w32 bytes → IsPageSize a.page_bytes → n ≡ a.page_bytes
read_size a plaintext bytes n is cut read size =
    read ∙ ap (from_le_bytes w32) (cut ∙ named_size a plaintext is) ∙ from_le_bytes-to_le_bytes_4 a.page_bytes (omega (arith, size.1))

pub one_size : (m n : ℕ) → to_le_bytes w32 m ≡ to_le_bytes w32 n → m < 2 ^ 32 → n < 2 ^ 32 → m ≡ n
one_size m n e lm ln = sym (from_le_bytes-to_le_bytes_4 m lm) ∙ ap (from_le_bytes w32) e ∙ from_le_bytes-to_le_bytes_4 n ln

pub one_layout : (a b : Layout) (plaintext : List ℕ) → plaintext ≡ plaintext_header a → plaintext ≡ plaintext_header b → a.variant ≡ b.variant → a.key ≡ b.key → IsPageSize a.page_bytes → IsPageSize b.page_bytes → a ≡ b
one_layout a b plaintext is_a is_b variant key la lb =
    same_layout a b variant key
    (one_size a.page_bytes b.page_bytes (sym (named_size a plaintext is_a) ∙ named_size b plaintext is_b) (omega (arith, la.1)) (omega (arith, lb.1)))
    (sym (named_id a plaintext is_a) ∙ named_id b plaintext is_b)

pub one_number : (m n : ℕ) → to_le_bytes w64 m ≡ to_le_bytes w64 n → m < 2 ^ 64 → n < 2 ^ 64 → m ≡ n
one_number m n e lm ln = sym (from_le_bytes-to_le_bytes_8 m lm) ∙ ap (from_le_bytes w64) e ∙ from_le_bytes-to_le_bytes_8 n ln

pub one_contents : (c n c' n' : ℕ) → header_plaintext c n ≡ header_plaintext c' n' → c < 2 ^ 64 → c' < 2 ^ 64 → n ≤ MAX_CONTENTS_BYTES → n' ≤ MAX_CONTENTS_BYTES → (c ≡ c') × (n ≡ n')
one_contents c n c' n' e lc lc' ln ln' = (
  one_number c c' (ap (take 8) e) lc lc',
  one_number n n' (ap (drop 8) e) (omega (arith, ln)) (omega (arith, ln')),
)

-- the counter and the length that were read from an opened header
pub read_contents : (layout : Layout) (r c n : ℕ) (new contents : List ℕ) → r ≡ nonce_bytes layout → length new ≡ sealed_bytes layout 16 → contents ≡ take (length new - r) (drop r new)
    → to_le_bytes w64 c ≡ take 8 contents → to_le_bytes w64 n ≡ take 8 (drop 8 contents) → inner layout new ≡ header_plaintext c n
read_contents layout r c n new contents nonce long cut counter len = grind (arith, length-drop, take_all, take-add)

-- a file has one header of a variant and a key
pub one_in_file : (layout other : Layout) (c c' n n' : ℕ) (file : List ℕ) → IsLaneCount layout.variant.lanes → other.variant ≡ layout.variant → other.key ≡ layout.key
    → IsHeader layout c n file → IsHeader other c' n' file → (other ≡ layout) × (c' ≡ c) × (n' ≡ n)
one_in_file layout other c c' n n' file count variant key first second =
    let same : other ≡ layout = one_layout other layout (take 33 (part_at file 0 512)) second.is.plaintext first.is.plaintext variant key second.is.size first.is.size in
    let opens : OpensAt layout HEADER_NUMBER (part_at (part_at file 0 512) 33 (sealed_bytes layout 16)) (header_plaintext c' n') =
    subst (λ (o : Layout). OpensAt o HEADER_NUMBER (part_at (part_at file 0 512) 33 (sealed_bytes o 16)) (header_plaintext c' n')) same second.is.opens in
    let one = one_contents c' n' c n (opens_one layout HEADER_NUMBER _ _ _ count opens first.is.opens) second.is.countable first.is.countable second.is.within first.is.within in
    (same, one.0, one.1)

-- ---- making a header block

-- the encrypted part after the plaintext part
pub made_sealed : (layout : Layout) (plaintext nonce contents tag rest header_block : List ℕ) → header_block ≡ plaintext ++ (nonce ++ (contents ++ (tag ++ rest))) → length plaintext ≡ 33 → length nonce ≡ nonce_bytes layout
    → length contents ≡ 16 → length tag ≡ 32 → part_at header_block 33 (sealed_bytes layout 16) ≡ nonce ++ (contents ++ tag)
made_sealed layout plaintext nonce contents tag rest header_block is lc ln lt lg =
    let parts : nonce ++ (contents ++ (tag ++ rest)) ≡ (nonce ++ (contents ++ tag)) ++ rest = simp append_assoc in
    let long : length (nonce ++ (contents ++ tag)) ≡ sealed_bytes layout 16 = omega (arith, ln, lt, lg, length-append nonce (contents ++ tag), length-append contents tag) in
    ap (λ (l : List ℕ). part_at l 33 (sealed_bytes layout 16)) is ∙ ap (take (sealed_bytes layout 16)) (drop_at plaintext (nonce ++ (contents ++ (tag ++ rest))) 33 lc ∙ parts)
    ∙ take_at (nonce ++ (contents ++ tag)) rest (sealed_bytes layout 16) long

pub made_header_block : (layout : Layout) (counter len : ℕ) (plaintext nonce contents tag rest header_block : List ℕ) → IsPageSize layout.page_bytes → len ≤ MAX_CONTENTS_BYTES → counter < 2 ^ 64
    → header_block ≡ plaintext ++ (nonce ++ (contents ++ (tag ++ rest))) → plaintext ≡ plaintext_header layout → length plaintext ≡ 33 → length nonce ≡ nonce_bytes layout → length contents ≡ 16 → length tag ≡ 32
    → Opens layout.variant 32 layout.key nonce (page_associated_data layout HEADER_NUMBER) contents tag (header_plaintext counter len) → IsHeaderBlock layout counter len header_block
made_header_block layout counter len plaintext nonce contents tag rest header_block size within countable is named lc ln lt lg opens = record {
  size = size;
  within = within;
  countable = countable;
  plaintext = ap (take 33) is ∙ take_at plaintext (nonce ++ (contents ++ (tag ++ rest))) 33 lc ∙ named;
  opens = subst (λ (l : List ℕ). OpensAt layout HEADER_NUMBER l (header_plaintext counter len)) (sym (made_sealed layout plaintext nonce contents tag rest header_block is lc ln lt lg))
      (opens_parts layout HEADER_NUMBER nonce contents tag (header_plaintext counter len) ln lg opens);
}

-- its nonce
pub made_nonce : (layout : Layout) (plaintext nonce rest header_block : List ℕ) → header_block ≡ plaintext ++ (nonce ++ rest) → length plaintext ≡ 33 → length nonce ≡ nonce_bytes layout → part_at header_block 33 (nonce_bytes layout) ≡ nonce
made_nonce layout plaintext nonce rest header_block is lc ln =
    ap (λ (l : List ℕ). part_at l 33 (nonce_bytes layout)) is ∙ ap (take (nonce_bytes layout)) (drop_at plaintext (nonce ++ rest) 33 lc) ∙ take_at nonce rest (nonce_bytes layout) ln

-- what follows it
pub made_padding : (plaintext nonce contents tag rest header_block : List ℕ) (n : ℕ) → header_block ≡ plaintext ++ (nonce ++ (contents ++ (tag ++ rest)))
    → n ≡ length plaintext + (length nonce + (length contents + length tag)) → drop n header_block ≡ rest
made_padding plaintext nonce contents tag rest header_block n is count =
    let parts : header_block ≡ (plaintext ++ (nonce ++ (contents ++ tag))) ++ rest = is ∙ simp append_assoc in
    let long : length (plaintext ++ (nonce ++ (contents ++ tag))) ≡ n =
    omega (arith, count, length-append plaintext (nonce ++ (contents ++ tag)), length-append nonce (contents ++ tag), length-append contents tag) in
    ap (drop n) parts ∙ drop_at (plaintext ++ (nonce ++ (contents ++ tag))) rest n long

-- ---- a header that is read

-- what the encrypted part of a header block opens to, under the layout that its plaintext part names
pub header_block_opens : (layout other : Layout) (counter len r : ℕ) (header_block plaintext rest : List ℕ) → IsHeaderBlock layout counter len header_block → layout.variant ≡ other.variant → layout.key ≡ other.key
    → IsPageSize other.page_bytes → plaintext ≡ take 33 header_block → plaintext ≡ plaintext_header other → rest ≡ drop 33 header_block → r ≡ nonce_bytes other
    → OpensAt other HEADER_NUMBER (take (16 + (r + 32)) rest) (header_plaintext counter len)
header_block_opens layout other counter len r header_block plaintext rest is variant key size beginning named back nonce =
    let same : layout ≡ other = one_layout layout other (take 33 header_block) is.plaintext (sym beginning ∙ named) variant key is.size size in
    rw (back, nonce, ← same) is.opens
