-- A header block has one header of a key. Bytes that are one record, before it is opened in place and after it.
use Rattle.std.proofs.Common.{◌≡◌, ℕ, List, refl, take, ap, subst, ◌∙◌, ◌+◌, ◌≤◌, [], ◌++◌, length, drop, get_or, sym, arith}
use Rattle.std.specs.Int.{w32, to_le_bytes}
use Rattle.std.proofs.lemmas.List.{append-nil, drop_at}
use Rattle.aegis_aes.specs.Lanes.{IsLaneCount}
use Rattle.aegis_base.specs.Variant.{Variant}
use Rattle.aegis_pages.specs.Layouts.{header_plaintext, Layout, OpensAt, sealed_bytes}
use Rattle.aegis_pages.specs.declared.header.FileHeader.{FileHeader}
use Rattle.aegis_pages.specs.declared.layout.TheConstants.{HEADER_NUMBER}
use Rattle.aegis_pages.proofs.SealedFacts.{one_contents, one_layout, opens_one}
use Rattle.aegis_storage.specs.Disk.{part_at}
use Rattle.aegis_c_calls.specs.PageCalls.{BlockHasHeader, file_of, header_of}
use Rattle.aegis.specs.RecordResults.{IsRecord, IsRecordFault, Progress, message_at, message_in, record_of, rest_at, sealing_in}
use Rattle.aegis.specs.RecordStream.{frame, limit}
use Rattle.aegis.specs.declared.record.error.RecordError.{RecordError}
use Rattle.aegis.proofs.Frames.{frame_one, frame_sound}
use Rattle.aegis.proofs.Sealed.{drop-past, sealed-is}
use Rattle.aegis.proofs.Stepwise.{length-record}

same_header : (a b : FileHeader) → a.page_bytes ≡ b.page_bytes → a.id ≡ b.id → a.counter ≡ b.counter → a.len ≡ b.len → a ≡ b
same_header a b size id counter len =
    ap (λ (p : ℕ). header_of p a.id a.counter a.len) size ∙ ap (λ (i : List ℕ). header_of b.page_bytes i a.counter a.len) id
    ∙ ap (λ (c : ℕ). header_of b.page_bytes b.id c a.len) counter ∙ ap (λ (n : ℕ). header_of b.page_bytes b.id b.counter n) len

pub one_header : (variant : Variant) (key header_block : List ℕ) (a b : FileHeader) → IsLaneCount variant.lanes → BlockHasHeader variant key header_block a → BlockHasHeader variant key header_block b → a ≡ b
one_header variant key header_block a b count first second =
    let first_file : Layout = file_of variant key a.id a.page_bytes in
    let file : Layout = file_of variant key b.id b.page_bytes in
    let same : first_file ≡ file = one_layout first_file file (take 33 header_block) first.plaintext second.plaintext refl refl first.size second.size in
    let opens : OpensAt file HEADER_NUMBER (part_at header_block 33 (sealed_bytes file 16)) (header_plaintext a.counter a.len) =
    subst (λ (o : Layout). OpensAt o HEADER_NUMBER (part_at header_block 33 (sealed_bytes o 16)) (header_plaintext a.counter a.len)) same first.opens in
    let text = one_contents a.counter a.len b.counter b.len (opens_one file HEADER_NUMBER _ _ _ count opens second.opens) first.countable second.countable first.within second.within in
    same_header a b (ap (λ (l : Layout). l.page_bytes) same) (ap (λ (l : Layout). l.id) same) text.0 text.1

-- at one place, no two messages or flags have the same record
pub record_one : (p : Progress) (f g : ℕ) (m n : List ℕ) → record_of p f m ≡ record_of p g n → (f ≡ g) × (m ≡ n)
unfolding frame
record_one p f g m n e =
    let flags : f ≡ g = ap (λ (l : List ℕ). get_or l 0 0) e in
    let sm = sealing_in p p.position f m in
    let sn = sealing_in p p.position g n in
    let one : sm ≡ sn = sym (drop_at (to_le_bytes w32 (length m)) sm 4 refl) ∙ ap (drop 5) e ∙ drop_at (to_le_bytes w32 (length n)) sn 4 refl in
    (flags, (sealed-is p.key p.prefix p.context).one p.position f m n (one ∙ ap (λ (h : ℕ). sealing_in p p.position h n) (sym flags)))

-- the first record of the bytes was opened in place: its message has n bytes
pub record Opens (p : Progress) (flag n : ℕ) (bytes bytes' : List ℕ) : Type 0 where
  pub is : IsRecord (sealing_in p) p.position flag (message_at n bytes') (rest_at n bytes') bytes
  pub long : length (message_at n bytes') ≡ n
  pub size : length bytes' ≡ length bytes

-- it is all of the bytes
pub message_is : (p : Progress) (flag n : ℕ) (bytes bytes' : List ℕ) → Opens p flag n bytes bytes' → 37 + n ≡ length bytes
    → message_at n bytes' ≡ message_in bytes'
message_is p flag n bytes bytes' o all =
    let same = o.size in
    ap (λ (k : ℕ). message_at k bytes') (omega arith)

pub whole_record : (p : Progress) (flag n : ℕ) (bytes bytes' : List ℕ) → Opens p flag n bytes bytes' → 37 + n ≡ length bytes
    → bytes ≡ record_of p flag (message_in bytes')
whole_record p flag n bytes bytes' o all =
    let same = o.size in
    let none : rest_at n bytes' ≡ [] = drop-past (37 + n) bytes' (omega arith) in
    o.is.are ∙ ap (λ (l : List ℕ). record_of p flag (message_at n bytes') ++ l) none ∙ append-nil (record_of p flag (message_at n bytes'))
    ∙ ap (record_of p flag) (message_is p flag n bytes bytes' o all)

within : (p : Progress) (f : ℕ) (m bytes : List ℕ) → length bytes ≤ 37 + limit p.position.version → bytes ≡ record_of p f m → length m ≤ limit p.position.version
within p f m bytes low e = let all = ap length e in omega (arith, length-record p.key p.prefix p.context p.position f m)

-- bytes that are one record are all of the record that was opened
pub whole_long : (p : Progress) (flag n f : ℕ) (m bytes bytes' : List ℕ) → Opens p flag n bytes bytes' → length bytes ≤ 37 + limit p.position.version
    → f ≤ 1 → bytes ≡ record_of p f m → 37 + n ≡ length bytes
whole_long p flag n f m bytes bytes' o low known e =
    let one = frame_one (sealing_in p) (sealed-is p.key p.prefix p.context) p.position flag f (message_at n bytes') m (rest_at n bytes') []
    o.is.known known o.is.within (within p f m bytes low e) (sym o.is.are ∙ e ∙ sym (append-nil (record_of p f m))) in
    let size = ap length one.1 in
    let all = ap length e in
    let long = o.long in
    omega (arith, length-record p.key p.prefix p.context p.position f m)

-- and have no fault
pub no_record : (p : Progress) (f : ℕ) (m bytes : List ℕ) (e : RecordError) → IsRecordFault p bytes e
    → length bytes ≤ 37 + limit p.position.version → f ≤ 1 → bytes ≡ record_of p f m → ⊥
no_record p f m bytes e fault low known is =
    frame_sound (sealing_in p) (sealed-is p.key p.prefix p.context) p.position f m [] e known (within p f m bytes low is)
    (subst (λ (l : List ℕ). IsRecordFault p l e) (is ∙ sym (append-nil (record_of p f m))) fault)
