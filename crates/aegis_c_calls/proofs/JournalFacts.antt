-- A journal that is written a write at a time, and what is made of one that is read.
use Rattle.std.proofs.Common.{◌≡◌, ℕ, leb, if◌then◌else◌, ◌+◌, ◌≤◌, ◌↔◌, IsTrue, Bool, inl, inr, List, [], ◌∷◌, ◌++◌, drop, length, take, replicate, refl, sym, ap, subst, ◌∙◌, arith, Option, None, Some, IfNone, IfSome, option_map, true, false}
use Rattle.std.proofs.lemmas.List.{append-nil, append_assoc, drop_at, length-append, length-drop, take-append-drop, take_at}
use Rattle.std.specs.Int.{to_le_bytes, w64}
use Rattle.aegis_aes.specs.Lanes.{IsLaneCount}
use Rattle.aegis_base.specs.Context.{Stands}
use Rattle.aegis_base.specs.Mac.{mac}
use Rattle.aegis_base.specs.Variant.{Aegis128L, Variant}
use Rattle.aegis_base.proofs.MacFacts.{length_mac}
use Rattle.aegis_engine.specs.SavedContexts.{HasTaken, IsSaved}
use Rattle.aegis_engine.specs.declared.saved.SavedContext.{SavedContext}
use Rattle.aegis_pages.specs.Commits.{AreWritesOf, IsJournalAccepted, IsOfCommit, head_bytes, journal_key}
use Rattle.aegis_pages.specs.declared.header.FileHeader.{FileHeader}
use Rattle.aegis_pages.proofs.CommitFacts.{false_is_not}
use Rattle.aegis_storage.specs.Disk.{Writes, part_at}
use Rattle.aegis_storage.specs.Private.{IsContent}
use Rattle.aegis_storage.specs.Journal.{IsJournal, authenticated, entries, entry}
use Rattle.aegis_storage.specs.declared.journal.TheConstants.{MAX_JOURNAL_BYTES}
use Rattle.aegis_storage.specs.declared.store.TheConstants.{MAX_STORAGE_BYTES}
use Rattle.aegis_storage.proofs.Journals.{entries_more, one_journal, same_entry, within_more}
use Rattle.aegis_c_calls.specs.PageCalls.{AreJournaled, HoldsWrites, IsHeaderIn, IsJournaling, MayBeMadeAgainOrEmptied, followed_by, header_block_of}
use Rattle.aegis_c_calls.specs.declared.state.State.{State}
use Rattle.aegis_c_calls.proofs.OneRecord.{one_header}

-- ---- the counts of a state

-- those of what it stands for
pub saved_counts : (variant : Variant) (context : SavedContext) (key nonce ad m : List ℕ) → IsSaved variant context key nonce ad m → (context.ad_bytes ≡ length ad) × (context.message_bytes ≡ length m)
unfolding IsSaved Stands
saved_counts variant context key nonce ad m is = (is.1.0, is.1.1)

-- the counts are stored once more
pub recounted : (variant : Variant) (context : SavedContext) (ad_bytes message_bytes : ℕ) (key nonce ad m : List ℕ) → IsSaved variant context key nonce ad m → ad_bytes ≡ length ad → message_bytes ≡ length m
    → IsSaved variant (record { mark = context.mark; rows = context.rows; block = context.block; ad_bytes = ad_bytes; message_bytes = message_bytes }) key nonce ad m
recounted variant context ad_bytes message_bytes key nonce ad m is p q =
    let counts = saved_counts variant context key nonce ad m is in
    subst (λ (n : ℕ). IsSaved variant (record { mark = context.mark; rows = context.rows; block = context.block; ad_bytes = ad_bytes; message_bytes = n }) key nonce ad m) (counts.1 ∙ sym q)
    (subst (λ (n : ℕ). IsSaved variant (record { mark = context.mark; rows = context.rows; block = context.block; ad_bytes = n; message_bytes = context.message_bytes }) key nonce ad m) (counts.0 ∙ sym p) is)

-- ---- writing

pub none_written : (key nonce start : List ℕ) (all : Writes) (st : State) → length start ≡ 528 → drop 512 start ≡ nonce → IsSaved Aegis128L st.context key nonce [] ([] ++ replicate 8 0) → IsJournaling key all all st start
none_written key nonce start all st long ends is = record {
  start = start;
  writes = [];
  start_size = long;
  split = refl;
  written = sym (append-nil start);
  within = tt;
  fits = omega arith;
  saved = subst (λ (l : List ℕ). IsSaved Aegis128L st.context key l [] ([] ++ replicate 8 0)) (sym ends) is;
}

-- the place and the length of a write
pub head_is : (head a b x y : List ℕ) → head ≡ a ++ (b ++ []) → a ≡ x → b ≡ y → head ≡ x ++ y
head_is head a b x y all p q = rw (all, p, q) (ap (λ (l : List ℕ). x ++ l) (append-nil y))

pub one_more_written : (key : List ℕ) (all rest : Writes) (old between new : State) (place : ℕ) (head bytes before : List ℕ)
    → place + length bytes ≤ MAX_STORAGE_BYTES → old.context.message_bytes + (length bytes + 568) ≤ MAX_JOURNAL_BYTES
    → head ++ bytes ≡ entry (place, bytes) → HasTaken Aegis128L old.context between.context head → HasTaken Aegis128L between.context new.context bytes
    → IsJournaling key all ((place, bytes) ∷ rest) old before → IsJournaling key all rest new (followed_by (followed_by before head) bytes)
unfolding followed_by
one_more_written key all rest old between new place head bytes before low short is first second so_far =
    let writes = so_far.writes in
    let nonce : List ℕ = drop 512 so_far.start in
    let counts = saved_counts Aegis128L old.context key nonce [] (authenticated [] (entries writes)) so_far.saved in
    let count = counts.1 in
    let more : entries (writes ++ (place, bytes) ∷ []) ≡ entries writes ++ (head ++ bytes) = entries_more writes (place, bytes) ∙ ap (λ (l : List ℕ). entries writes ++ l) (sym is) in
    let size : length (head ++ bytes) ≡ 16 + length bytes = ap length is ∙ omega (arith, length-append (to_le_bytes w64 place) (to_le_bytes w64 (length bytes) ++ bytes), length-append (to_le_bytes w64 (length bytes)) bytes) in
    record {
      start = so_far.start;
      writes = writes ++ (place, bytes) ∷ [];
      start_size = so_far.start_size;
      split = so_far.split ∙ sym (append_assoc writes ((place, bytes) ∷ []) rest);
      written = append_assoc before head bytes ∙ ap (λ (l : List ℕ). l ++ (head ++ bytes)) so_far.written ∙ append_assoc so_far.start (entries writes) (head ++ bytes) ∙ ap (λ (l : List ℕ). so_far.start ++ l) (sym more);
      within = within_more writes (place, bytes) so_far.within low;
      fits = omega (arith, short, count, size, ap length more, length-append (entries writes) (head ++ bytes), length-append (to_le_bytes w64 0) (entries writes));
      saved = subst (λ (l : List ℕ). IsSaved Aegis128L new.context key nonce [] l) (append_assoc (authenticated [] (entries writes)) head bytes ∙ append_assoc (to_le_bytes w64 0) (entries writes) (head ++ bytes) ∙ ap (λ (l : List ℕ). to_le_bytes w64 0 ++ l) (sym more))
          (second key nonce [] (authenticated [] (entries writes) ++ head) (first key nonce [] (authenticated [] (entries writes)) so_far.saved));
    }

pub all_written : (key before : List ℕ) (all : Writes) (st : State) (end : List ℕ) → (is : IsJournaling key all [] st before)
    → end ≡ mac Aegis128L 32 key (drop 512 is.start) (authenticated [] (entries is.writes)) → IsJournal key [] all (followed_by before end)
unfolding followed_by
all_written key before all st end is same =
    let start = is.start in
    let writes = is.writes in
    let nonce : List ℕ = drop 512 start in
    let fits = is.fits in
    let long = is.start_size in
    let same_writes : writes ≡ all = sym (is.split ∙ append-nil writes) in
    let q : length nonce ≡ 16 = omega (arith, long, length-drop 512 start) in
    let parts : start ≡ take 512 start ++ nonce = sym (take-append-drop 512 start) in
    let bytes : before ++ end ≡ start ++ (entries writes ++ end) = ap (λ (l : List ℕ). l ++ end) is.written ∙ append_assoc start (entries writes) end in
    let whole : IsJournal key [] writes (before ++ end) = record {
      within = is.within;
      framed = record {
        beginning = take 512 start;
        nonce = nonce;
        beginning_size = omega (arith, long, q, ap length parts, length-append (take 512 start) nonce);
        nonce_size = q;
        fits = omega (arith, long, fits, ap length bytes, ap length same, length_mac Aegis128L 32 key nonce (authenticated [] (entries writes)) (inl refl) (inr refl), length-append start (entries writes ++ end), length-append (entries writes) end);
        are = bytes ∙ ap (λ (l : List ℕ). l ++ (entries writes ++ end)) parts ∙ append_assoc (take 512 start) nonce (entries writes ++ end)
            ∙ ap (λ (l : List ℕ). take 512 start ++ (nonce ++ (entries writes ++ l))) same;
      };
    } in subst (λ (ws : Writes). IsJournal key [] ws (before ++ end)) same_writes whole

-- ---- reading

one_header_in : (variant : Variant) (key file : List ℕ) (a b : Option FileHeader) → IsLaneCount variant.lanes → IsHeaderIn variant key file a → IsHeaderIn variant key file b → a ≡ b
one_header_in variant key file None None count p q = refl
one_header_in variant key file None (Some h) count p q = absurd (p h q.0 q.1)
one_header_in variant key file (Some h) None count p q = absurd (q h p.0 p.1)
one_header_in variant key file (Some g) (Some h) count p q = ap Some (one_header variant key (take 512 file) g h count p.1 q.1)

one_journaled : (variant : Variant) (key journal : List ℕ) (a b : Option Writes) → AreJournaled variant key journal a → AreJournaled variant key journal b → a ≡ b
one_journaled variant key journal None None p q = refl
one_journaled variant key journal None (Some ws) p q = absurd (p ws q)
one_journaled variant key journal (Some ws) None p q = absurd (q ws p)
one_journaled variant key journal (Some vs) (Some ws) p q = ap Some (one_journal (journal_key variant key) [] vs ws journal p q)

-- what was found decides
pub decided : (variant : Variant) (key file journal : List ℕ) (header : Option FileHeader) (writes : Option Writes) → IsLaneCount variant.lanes → IsHeaderIn variant key file header → AreJournaled variant key journal writes
    → MayBeMadeAgainOrEmptied variant key file journal → IsJournalAccepted variant key (header_block_of file) header writes journal
decided variant key file journal header writes count is are may =
    subst (λ (o : Option FileHeader). IsJournalAccepted variant key (header_block_of file) o writes journal) (one_header_in variant key file may.0 header count may.2 is)
    (subst (λ (o : Option Writes). IsJournalAccepted variant key (header_block_of file) may.0 o journal) (one_journaled variant key journal may.1 writes may.3 are) may.4)

-- what was read of a journal, as its writes
pub journaled : {R : Type 0} (now : R → List ℕ) (variant : Variant) (key made journal : List ℕ) (content : Option R) → made ≡ journal_key variant key
    → IfSome content (λ l. IsContent made [] journal (now l)) → IfNone content ((writes : Writes) → IsJournal made [] writes journal → ⊥)
    → (writes : Option Writes) × AreJournaled variant key journal writes × AreWritesOf writes (option_map now content)
journaled now variant key made journal None same some none = (None, rw same at none, tt)
journaled now variant key made journal (Some l) same some none = (Some some.0, rw same at some.1, (some.1.within, some.2))

-- the writes of a whole journal lie behind its beginning and its nonce
writes_lie : (key journal : List ℕ) (writes : Writes) → IsJournal key [] writes journal → part_at journal 528 (length (entries writes)) ≡ entries writes
writes_lie key journal writes is =
    let framed = is.framed in
    let end : List ℕ = mac Aegis128L 32 key framed.nonce (authenticated [] (entries writes)) in
    let all : journal ≡ (framed.beginning ++ framed.nonce) ++ (entries writes ++ end) =
    framed.are ∙ sym (append_assoc framed.beginning framed.nonce (entries writes ++ end)) in
    ap (λ (l : List ℕ). take (length (entries writes)) (drop 528 l)) all
    ∙ ap (take (length (entries writes))) (drop_at (framed.beginning ++ framed.nonce) (entries writes ++ end) 528 (omega (arith, framed.beginning_size, framed.nonce_size, length-append framed.beginning framed.nonce)))
    ∙ take_at (entries writes) end (length (entries writes)) refl

pub whole_found : (key made journal content : List ℕ) (writes : Writes) → made ≡ key → IsContent made [] journal content → IsJournal key [] writes journal
    → HoldsWrites writes (part_at journal 528 (length content))
unfolding HoldsWrites
whole_found key made journal content writes own is whole =
    let same : content ≡ entries writes = is.2 ∙ ap entries (one_journal key [] is.0 writes journal (rw own at is.1) whole) in
    (whole.within, ap (λ (l : List ℕ). part_at journal 528 (length l)) same ∙ writes_lie key journal writes whole)

-- What was read of a file and of a journal, and whether it was accepted.
pub record WasRead (variant : Variant) (key file journal : List ℕ) (header : Option FileHeader) (writes : Option Writes) (accepted : Bool) : Type 0 where
  pub count : IsLaneCount variant.lanes
  pub is : IsHeaderIn variant key file header
  pub are : AreJournaled variant key journal writes
  pub decides : IsTrue accepted ↔ IsJournalAccepted variant key (header_block_of file) header writes journal

pub was_read : {R : Type 0} (now : R → List ℕ) (variant : Variant) (k key made file journal : List ℕ) (header_block : Option (List ℕ)) (header : Option FileHeader) (content : Option R) (accepted : Bool)
    → IsLaneCount variant.lanes → k ≡ key → made ≡ journal_key variant k → header_block ≡ header_block_of file → IsHeaderIn variant k file header
    → IfSome content (λ l. IsContent made [] journal (now l)) → IfNone content ((writes : Writes) → IsJournal made [] writes journal → ⊥)
    → ((writes : Option Writes) → AreWritesOf writes (option_map now content) → IsTrue accepted ↔ IsJournalAccepted variant k header_block header writes journal)
    → (writes : Option Writes) × WasRead variant key file journal header writes accepted
was_read now variant k key made file journal header_block header content accepted count own same block is some none decides =
    let read = journaled now variant key made journal content (same ∙ ap (journal_key variant) own) some none in
    let all : IsTrue accepted ↔ IsJournalAccepted variant k header_block header read.0 journal = decides read.0 read.2 in (
      read.0,
      record {
        count = count;
        is = subst (λ (l : List ℕ). IsHeaderIn variant l file header) own is;
        are = read.1;
        decides = subst (λ (l : List ℕ). IsTrue accepted ↔ IsJournalAccepted variant l (header_block_of file) header read.0 journal) own
            (subst (λ (o : Option (List ℕ)). IsTrue accepted ↔ IsJournalAccepted variant k o header read.0 journal) block all);
      },
    )

pub may_be : (variant : Variant) (key file journal : List ℕ) (header : Option FileHeader) (writes : Option Writes) (accepted : Bool)
    → WasRead variant key file journal header writes accepted → accepted ≡ true → MayBeMadeAgainOrEmptied variant key file journal
may_be variant key file journal header writes accepted read same = (header, writes, read.is, read.are, read.decides.0 same)

pub may_not_be : (variant : Variant) (key file journal : List ℕ) (header : Option FileHeader) (writes : Option Writes) (accepted : Bool)
    → WasRead variant key file journal header writes accepted → accepted ≡ false → MayBeMadeAgainOrEmptied variant key file journal → ⊥
may_not_be variant key file journal header writes accepted read same may =
    let is : IsTrue accepted = read.decides.1 (decided variant key file journal header writes read.count read.is read.are may) in
    false_is_not (subst IsTrue same is)

-- a file that is long enough has a block of a header
block_is : (file : List ℕ) (n : ℕ) → n ≡ length file → 512 ≤ n → (if leb 512 n then Some (take 512 file) else None) ≡ Some (take 512 file)
block_is file n same long = grind (arith, long)

-- a whole journal whose commit began or ended with the first bytes of the file
pub own_may_be : (variant : Variant) (key file journal : List ℕ) (header : Option FileHeader) (writes : Option Writes) (accepted : Bool)
    → WasRead variant key file journal header writes accepted → (own : Writes) → IsJournal (journal_key variant key) [] own journal → 512 ≤ length file
    → IsOfCommit (take (head_bytes variant) (take 512 file)) own → MayBeMadeAgainOrEmptied variant key file journal
own_may_be variant key file journal header writes accepted read own is long of_commit = (header, Some own, read.is, is, accept header)
  where
    accept : (h : Option FileHeader) → IsJournalAccepted variant key (header_block_of file) h (Some own) journal
    accept None = tt
    accept (Some h) = rw (block_is file (length file) refl long) of_commit

-- the content of a journal lies in it
pub content_within : (key journal content : List ℕ) → IsContent key [] journal content → 528 + length content ≤ length journal
content_within key journal content is =
    let framed = is.1.framed in
    let end : List ℕ = mac Aegis128L 32 key framed.nonce (authenticated [] (entries is.0)) in
    omega (arith, ap length framed.are, ap length is.2, framed.beginning_size, framed.nonce_size, length-append framed.beginning (framed.nonce ++ (entries is.0 ++ end)), length-append framed.nonce (entries is.0 ++ end), length-append (entries is.0) end)

-- the first of the writes, and what comes after it
pub first_read : (writes : List ℕ) (place : ℕ) (bytes rest : List ℕ) → writes ≡ entry (place, bytes) ++ rest → (part_at writes 16 (length bytes) ≡ bytes) × (drop (16 + length bytes) writes ≡ rest)
first_read writes place bytes rest is =
    let a : List ℕ = to_le_bytes w64 place in let b : List ℕ = to_le_bytes w64 (length bytes) in
    let all : writes ≡ (a ++ b) ++ (bytes ++ rest) =
    is ∙ append_assoc a (b ++ bytes) rest ∙ ap (λ (l : List ℕ). a ++ l) (append_assoc b bytes rest) ∙ sym (append_assoc a b (bytes ++ rest)) in (
      ap (λ (l : List ℕ). take (length bytes) (drop 16 l)) all ∙ ap (take (length bytes)) (drop_at (a ++ b) (bytes ++ rest) 16 refl) ∙ take_at bytes rest (length bytes) refl,
      ap (drop (16 + length bytes)) is ∙ drop_at (entry (place, bytes)) rest (16 + length bytes) (omega (arith, length-append a (b ++ bytes), length-append b bytes)),
    )

pub first_long : (writes : List ℕ) (place : ℕ) (bytes rest : List ℕ) → writes ≡ entry (place, bytes) ++ rest → 16 + length bytes ≤ length writes
first_long writes place bytes rest is =
    let a : List ℕ = to_le_bytes w64 place in let b : List ℕ = to_le_bytes w64 (length bytes) in
    omega (arith, ap length is, length-append (entry (place, bytes)) rest, length-append a (b ++ bytes), length-append b bytes)

-- the first of the writes that the bytes hold
pub first_held : (writes : List ℕ) (write : ℕ × List ℕ) (after : Writes) (place : ℕ) (bytes rest : List ℕ) → HoldsWrites (write ∷ after) writes
    → place + length bytes ≤ MAX_STORAGE_BYTES → writes ≡ entry (place, bytes) ++ rest → ((place, bytes) ≡ write) × HoldsWrites after rest
unfolding HoldsWrites
first_held writes write after place bytes rest holds low is =
    let first = same_entry (place, bytes) write rest (entries after) low holds.0.0 (sym is ∙ holds.1) in (first.0, (holds.0.1, first.1))

-- bytes that hold a write begin with one
pub holds_one : (writes : List ℕ) (write : ℕ × List ℕ) (after : Writes) → HoldsWrites (write ∷ after) writes → (write.0 + length write.1 ≤ MAX_STORAGE_BYTES) × (writes ≡ entry write ++ entries after)
unfolding HoldsWrites
holds_one writes write after holds = (holds.0.0, holds.1)
