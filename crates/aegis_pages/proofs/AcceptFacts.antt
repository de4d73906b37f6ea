-- What is read before a journal is made again or emptied: a journal that is accepted fits, and what a commit and a crash
-- left is accepted.
use Rattle.std.proofs.Common.{◌≡◌, ℕ, ◌<◌, ◌≤◌, ◌⊎◌, inl, inr, List, [], Option, None, Some, IfNone, IfSome, length, option_map, refl, sym, subst, arith}
use Rattle.aegis_aes.specs.Lanes.{IsLaneCount}
use Rattle.aegis_base.specs.Variant.{Variant}
use Rattle.aegis_storage.specs.Disk.{Disk, IsPossible, Writes, after_writes, part_at}
use Rattle.aegis_storage.specs.Journal.{HasBeginning, IsJournal, IsOneOf}
use Rattle.aegis_storage.specs.Private.{IsContent}
use Rattle.aegis_storage.proofs.Disks.{readable}
use Rattle.aegis_storage.proofs.Journals.{one_journal}
use Rattle.aegis_pages.specs.declared.header.FileHeader.{FileHeader}
use Rattle.aegis_pages.specs.Commits.{AreWritesOf, Fits, HasHonestHeader, IsJournalAccepted, IsHonest, IsNotWhole, IsOfAnother, IsOfCommit, IsOpenRefusal, MakesNoOther, RecoversContentsUnlessOtherJournal, head_of, journal_key}
use Rattle.aegis_pages.specs.declared.error.PagesError.{PagesError}
use Rattle.aegis_pages.specs.declared.error.PagesError.TheVariants.{Header, Journal}
use Rattle.aegis_pages.specs.Layouts.{HasHeader, HasNoHeader, IsHeader, Layout, journal_beginning, layout_of}
use Rattle.aegis_pages.specs.OpenFile.{IsFileUnder}
use Rattle.aegis_pages.proofs.CommitFacts.{head_read}
use Rattle.aegis_pages.proofs.SealedFacts.{one_in_file}

-- What was read of a file, whose bytes are a, and of a journal, whose bytes are b: all bytes of the journal, the header
-- block and the header, and the writes of the journal, if it is whole.
pub record WasRead (variant : Variant) (key : List ℕ) (a b : Option (List ℕ)) (read : List ℕ) (header_block : Option (List ℕ)) (header : Option FileHeader) (writes : Option Writes) : Type 0 where
  pub count : IsLaneCount variant.lanes
  pub content : IfSome b (λ js. read ≡ js)
  pub found : IfSome header (λ h. HasHeader variant key h a)
  pub none : IfNone header (IfSome a (HasNoHeader variant key))
  pub first : IfSome header_block (λ s. IfSome a (λ file. (512 ≤ length file) × (s ≡ part_at file 0 512)))
  pub short : IfNone header_block (IfSome a (λ file. length file < 512))
  pub whole : IfSome writes (λ ws. IsJournal (journal_key variant key) [] ws read)
  pub torn : IfNone writes ((ws : Writes) → IsJournal (journal_key variant key) [] ws read → ⊥)

-- ---- the writes of a journal, and its content

-- as they were read
pub writes_read : {R : Type 0} (now : R → List ℕ) (key read : List ℕ) (content : Option R) → IfSome content (λ l. IsContent key [] read (now l)) → IfNone content ((ws : Writes) → IsJournal key [] ws read → ⊥)
    → (writes : Option Writes) × IfSome writes (λ ws. IsJournal key [] ws read) × IfNone writes ((ws : Writes) → IsJournal key [] ws read → ⊥) × AreWritesOf writes (option_map now content)
writes_read now key read None some none = (None, tt, none, tt)
writes_read now key read (Some l) some none = (Some some.0, some.1, tt, (some.1.within, some.2))

-- what was read, with the writes of the journal, from the contracts of the functions that read
pub was_read : {R : Type 0} (now : R → List ℕ) (variant : Variant) (key : List ℕ) (a b : Option (List ℕ)) (read : List ℕ) (header_block : Option (List ℕ)) (header : Option FileHeader) (content : Option R) → IsLaneCount variant.lanes
    → IfSome b (λ js. read ≡ js) → IfSome header (λ h. HasHeader variant key h a) → IfNone header (IfSome a (HasNoHeader variant key))
    → IfSome header_block (λ s. IfSome a (λ file. (512 ≤ length file) × (s ≡ part_at file 0 512))) → IfNone header_block (IfSome a (λ file. length file < 512))
    → IfSome content (λ l. IsContent (journal_key variant key) [] read (now l)) → IfNone content ((ws : Writes) → IsJournal (journal_key variant key) [] ws read → ⊥)
    → (writes : Option Writes) × WasRead variant key a b read header_block header writes × AreWritesOf writes (option_map now content)
was_read now variant key a b read header_block header content count is found none first short some torn =
    let writes = writes_read now (journal_key variant key) read content some torn in
    (writes.0, record { count = count; content = is; found = found; none = none; first = first; short = short; whole = writes.1; torn = writes.2 }, writes.3)

-- ---- what is accepted fits

fits : (variant : Variant) (key file read : List ℕ) (header_block : Option (List ℕ)) (header : Option FileHeader) (writes : Option Writes)
    → WasRead variant key (Some file) (Some read) read header_block header writes → IsJournalAccepted variant key header_block header writes read → Fits variant key file read
fits variant key file read header_block None None it accepted = absurd accepted
fits variant key file read header_block None (Some ws) it accepted = record {
  whole = λ found is has. absurd (has it.none);
  other = λ torn no_header. torn ws it.whole;
  own = λ torn. absurd (torn ws it.whole);
}
fits variant key file read header_block (Some h) None it accepted = record {
  whole = λ found is has. absurd (it.torn found is);
  other = λ torn no_header. no_header (layout_of variant key h) h.counter h.len refl refl it.found.is;
  own = λ torn layout counter len v k is another.
      let same = one_in_file (layout_of variant key h) layout h.counter counter h.len len file it.count v k it.found.is is in
      accepted (subst (λ (l : Layout). IsOfAnother (journal_beginning l) read) same.0 another);
}
fits variant key file read None (Some h) (Some ws) it accepted = absurd accepted
fits variant key file read (Some s) (Some h) (Some ws) it accepted = record {
  whole = λ found is has. subst (IsOfCommit (head_of variant file)) (one_journal (journal_key variant key) [] ws found read it.whole is)
      (subst (λ (l : List ℕ). IsOfCommit l ws) (head_read variant file s it.first.1) accepted);
  other = λ torn no_header. torn ws it.whole;
  own = λ torn. absurd (torn ws it.whole);
}

pub fits_all : (variant : Variant) (key : List ℕ) (a b : Option (List ℕ)) (read : List ℕ) (header_block : Option (List ℕ)) (header : Option FileHeader) (writes : Option Writes)
    → WasRead variant key a b read header_block header writes → IsJournalAccepted variant key header_block header writes read → IfSome a (λ file. IfSome b (Fits variant key file))
fits_all variant key None b read header_block header writes it accepted = tt
fits_all variant key (Some file) None read header_block header writes it accepted = tt
fits_all variant key (Some file) (Some js) read header_block header writes it accepted =
    fits variant key file js header_block header writes (subst (λ (l : List ℕ). WasRead variant key (Some file) (Some js) l header_block header writes) it.content it)
    (subst (IsJournalAccepted variant key header_block header writes) it.content accepted)

-- a journal that fits, and that opening would make again only if it is that of the commit, is that of the commit or not whole
pub made_is_own : (variant : Variant) (key before now : List ℕ) (storage journal : Option Disk) (a b : Option (List ℕ)) (batch : RecoversContentsUnlessOtherJournal variant key before now storage journal)
    → IsPossible a storage → IfSome a (λ file. IfSome b (Fits variant key file)) → IfSome a (λ file. IfSome b (MakesNoOther batch file)) → IfSome b (IsHonest batch)
made_is_own variant key before now storage journal None b batch p fit made =
    absurd (let x = readable None storage batch.recovers.storage_disk p batch.recovers.storage_is in let none = x.is in cc)
made_is_own variant key before now storage journal (Some file) None batch p fit made = tt
made_is_own variant key before now storage journal (Some file) (Some js) batch p fit made = λ found is. made found is (fit.whole found is)

-- a journal that is that of the commit is none other that opening would make again
pub own_is_made : (variant : Variant) (key before now : List ℕ) (storage journal : Option Disk) (a b : Option (List ℕ)) (batch : RecoversContentsUnlessOtherJournal variant key before now storage journal)
    → IfSome b (IsHonest batch) → IfSome a (λ file. IfSome b (MakesNoOther batch file))
own_is_made variant key before now storage journal None b batch honest = tt
own_is_made variant key before now storage journal (Some file) None batch honest = tt
own_is_made variant key before now storage journal (Some file) (Some js) batch honest = λ found is _. honest found is

-- ---- what is not accepted does not fit

fitting : (variant : Variant) (key file read : List ℕ) (header_block : Option (List ℕ)) (h : FileHeader) (writes : Option Writes)
    → WasRead variant key (Some file) (Some read) read header_block (Some h) writes → Fits variant key file read → IsJournalAccepted variant key header_block (Some h) writes read
fitting variant key file read header_block h None it fit = fit.own it.torn (layout_of variant key h) h.counter h.len refl refl it.found.is
fitting variant key file read None h (Some ws) it fit = let low = it.short in let long = it.found.is.whole in omega (arith, low, long)
fitting variant key file read (Some s) h (Some ws) it fit =
    subst (λ (l : List ℕ). IsOfCommit l ws) (sym (head_read variant file s it.first.1)) (fit.whole ws it.whole (λ no. no (layout_of variant key h) h.counter h.len refl refl it.found.is))

not_fitting : (variant : Variant) (key file read : List ℕ) (b : Option (List ℕ)) (header_block : Option (List ℕ)) (h : FileHeader) (writes : Option Writes)
    → WasRead variant key (Some file) b read header_block (Some h) writes → (IsJournalAccepted variant key header_block (Some h) writes read → ⊥) → IfSome b (λ js. Fits variant key file js → ⊥)
not_fitting variant key file read None header_block h writes it not = tt
not_fitting variant key file read (Some js) header_block h writes it not = λ fit.
    not (subst (IsJournalAccepted variant key header_block (Some h) writes) (sym it.content)
    (fitting variant key file js header_block h writes (subst (λ (l : List ℕ). WasRead variant key (Some file) (Some js) l header_block (Some h) writes) it.content it) fit))

not_whole : (variant : Variant) (key read : List ℕ) (b : Option (List ℕ)) → IfSome b (λ js. read ≡ js) → IsNotWhole variant key read → IfSome b (IsNotWhole variant key)
not_whole variant key read None same torn = tt
not_whole variant key read (Some js) same torn = subst (IsNotWhole variant key) same torn

pub refused_all : (variant : Variant) (key : List ℕ) (a b : Option (List ℕ)) (read : List ℕ) (header_block : Option (List ℕ)) (header : Option FileHeader) (writes : Option Writes)
    → WasRead variant key a b read header_block header writes → (IsJournalAccepted variant key header_block header writes read → ⊥)
    → (e : PagesError) → IfSome header (λ _. e ≡ Journal) → IfNone header (e ≡ Header) → IsOpenRefusal variant key a b e
refused_all variant key a b read header_block None None it not e some none = rw none (it.none, not_whole variant key read b it.content it.torn)
refused_all variant key a b read header_block None (Some ws) it not e some none = absurd (not tt)
refused_all variant key None b read header_block (Some h) writes it not e some none = rw some tt
refused_all variant key (Some file) b read header_block (Some h) writes it not e some none =
    rw some (λ no. no (layout_of variant key h) h.counter h.len refl refl it.found.is, not_fitting variant key file read b header_block h writes it not)

-- ---- what a commit and a crash left is accepted

-- if the journal is not whole, the file is that of before or of after the commit
has_header : (layout : Layout) (before now old new file : List ℕ) → IsFileUnder layout before old → IsFileUnder layout before new ⊎ IsFileUnder layout now new → IsOneOf old new file
    → (counter : ℕ) × (len : ℕ) × IsHeader layout counter len file
has_header layout before now old new file without with_writes (inl same) = (without.0, length before, rw same without.1.header)
has_header layout before now old new file without (inl h) (inr same) = (h.0, length before, rw same h.1.header)
has_header layout before now old new file without (inr h) (inr same) = (h.0, length now, rw same h.1.header)

own_commit : (old new head : List ℕ) (writes : Writes) → IsOfCommit old writes → IsOfCommit new writes → IsOneOf old new head → IsOfCommit head writes
own_commit old new head writes old_head new_head (inl same) = rw same old_head
own_commit old new head writes old_head new_head (inr same) = rw same new_head

own_beginning : (beginning bytes : List ℕ) → HasBeginning beginning bytes → IsOfAnother beginning bytes → ⊥
own_beginning beginning bytes (inl short) another = let long = another.0 in omega (arith, short, long)
own_beginning beginning bytes (inr same) another = another.1 same

accepts : (variant : Variant) (key before now : List ℕ) (storage journal : Option Disk) (batch : RecoversContentsUnlessOtherJournal variant key before now storage journal)
    (file read : List ℕ) (header_block : Option (List ℕ)) (header : Option FileHeader) (writes : Option Writes)
    → WasRead variant key (Some file) (Some read) read header_block header writes → IsPossible (Some file) storage → IsPossible (Some read) journal
    → IsHonest batch read → HasHonestHeader batch file → IsJournalAccepted variant key header_block header writes read
accepts variant key before now storage journal batch file read header_block header writes it p q honest honest_header =
    cases header_block header writes it
  where
    own : ((ws : Writes) → IsJournal (journal_key variant key) [] ws read → ⊥) → (counter : ℕ) × (len : ℕ) × IsHeader batch.layout counter len file
    own torn =
        let gives = batch.recovers.gives file read (subst (IsPossible (Some file)) batch.recovers.storage_is p) (subst (IsPossible (Some read)) batch.recovers.journal_is q) honest in
        has_header batch.layout before now batch.file (after_writes batch.writes batch.file) file batch.without batch.with_writes (gives.other torn)

    cases : (header_block : Option (List ℕ)) (header : Option FileHeader) (writes : Option Writes) → WasRead variant key (Some file) (Some read) read header_block header writes
        → IsJournalAccepted variant key header_block header writes read
    cases header_block None None it = let header = own it.torn in it.none batch.layout header.0 header.1 batch.variant_is batch.key_is header.2
    cases header_block None (Some ws) it = tt
    cases header_block (Some h) None it =
        let header = own it.torn in
        let same = one_in_file (layout_of variant key h) batch.layout h.counter header.0 h.len header.1 file it.count batch.variant_is batch.key_is it.found.is header.2 in
        let beginning = batch.beginning.has read (subst (IsPossible (Some read)) batch.beginning.is q) in
        own_beginning (journal_beginning (layout_of variant key h)) read (subst (λ (l : Layout). HasBeginning (journal_beginning l) read) same.0 beginning)
    cases None (Some h) (Some ws) it = let low = it.short in let long = it.found.is.whole in omega (arith, low, long)
    cases (Some s) (Some h) (Some ws) it =
        subst (λ (l : List ℕ). IsOfCommit l ws) (sym (head_read variant file s it.first.1)) (subst (IsOfCommit (head_of variant file)) (sym (honest ws it.whole))
        (own_commit (head_of variant batch.file) (head_of variant (after_writes batch.writes batch.file)) (head_of variant file) batch.writes batch.old_head batch.new_head
        (honest_header (layout_of variant key h) h.counter h.len refl refl it.found.is)))

-- what was read is accepted
pub accepts_all : (variant : Variant) (key before now : List ℕ) (storage journal : Option Disk) (batch : RecoversContentsUnlessOtherJournal variant key before now storage journal)
    (a b : Option (List ℕ)) (read : List ℕ) (header_block : Option (List ℕ)) (header : Option FileHeader) (writes : Option Writes)
    → WasRead variant key a b read header_block header writes → IsPossible a storage → IsPossible b journal
    → IfSome b (IsHonest batch) → IfSome a (HasHonestHeader batch) → IsJournalAccepted variant key header_block header writes read
accepts_all variant key before now storage journal batch None b read header_block header writes it p q honest honest_header =
    absurd (let x = readable None storage batch.recovers.storage_disk p batch.recovers.storage_is in let none = x.is in cc)
accepts_all variant key before now storage journal batch (Some file) None read header_block header writes it p q honest honest_header =
    absurd (let x = readable None journal batch.recovers.journal_disk q batch.recovers.journal_is in let none = x.is in cc)
accepts_all variant key before now storage journal batch (Some file) (Some js) read header_block header writes it p q honest honest_header =
    subst (IsJournalAccepted variant key header_block header writes) (sym it.content) (accepts variant key before now storage journal batch file js header_block header writes
    (subst (λ (l : List ℕ). WasRead variant key (Some file) (Some js) l header_block header writes) it.content it) p q honest honest_header)
