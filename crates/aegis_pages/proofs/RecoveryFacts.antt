-- The contents of a file after a commit that was cut short.
use Rattle.std.proofs.Common.{◌≡◌, ℕ, ◌⊎◌, inl, inr, Bool, false, List, [], ◌∷◌, Option, None, Some, IfSome, length, take, refl, sym, ap, subst, ◌∙◌, ◌≤◌}
use Rattle.aegis_aes.specs.Lanes.{IsLaneCount}
use Rattle.aegis_base.specs.Variant.{Variant}
use Rattle.aegis_storage.specs.Disk.{Crashed, Disk, IsPossible, Writes, WritesAll, after_writes, certain, overwritten, part_at}
use Rattle.aegis_storage.specs.Journal.{IsAtRest, IsNoOtherJournal, IsOneOf, KeepsBeginning, RecoversUnlessOtherJournal, RecoversKnown, RestsAtEither}
use Rattle.aegis_storage.proofs.Disks.{certain_leaves, has_left, readable_certain}
use Rattle.aegis_storage.proofs.Journals.{crashed_beginning, empty_beginning, crashed_recovers, empty_is_none, rest_recovers}
use Rattle.aegis_pages.specs.OpenFile.{AreCommitted, ArePages, Committed, Has, HasCommitted, HasContents, IsCommitted, IsFileOf, IsFileUnder, IsKnown, IsSealed, IsStoredAs, OpenFile, OpensAtOne, Plaintexts, contents_at}
use Rattle.aegis_pages.specs.Commits.{IsHonest, IsOfCommit, RecoversContentsUnlessOtherJournal, RestsAtContents, head_bytes, head_of, journal_key}
use Rattle.aegis_pages.specs.Layouts.{IsHeader, Layout, journal_beginning}
use Rattle.aegis_pages.proofs.CommitFacts.{first_again, head_read, take_own}
use Rattle.aegis_pages.proofs.OpenFileFacts.{holds_has, holds_sealed, sealed_has}

-- ---- a commit

-- what the writes of a commit do to a file of any contents
abbrev pub Commits : Layout → (len next : ℕ) → Plaintexts → Writes → Type 0
Commits layout len next changes writes = (contents file : List ℕ) → length contents ≡ len → ArePages layout (contents_at changes) contents file → IsSealed layout next contents (after_writes writes file)

pub commit_has : (layout : Layout) (counter stored len next : ℕ) (changes none : Plaintexts) (broken : Bool) (writes : Writes) (contents : List ℕ) (a b : Option (List ℕ)) → Commits layout len next changes writes
    → ((k : ℕ) → contents_at none k ≡ None) → WritesAll a b writes → IsKnown (Has layout counter stored len changes broken contents) a → IsKnown (Has layout next len len none broken contents) b
commit_has layout counter stored len next changes none broken writes contents None b commits empty w s = absurd s
commit_has layout counter stored len next changes none broken writes contents (Some xs) None commits empty w s = absurd w
commit_has layout counter stored len next changes none broken writes contents (Some xs) (Some ys) commits empty w s =
    rw s.sound (sealed_has layout next len none contents ys empty s.size (rw w (commits contents xs s.size s.pages)))

pub commit_sealed_at : (layout : Layout) (counter stored len next : ℕ) (changes : Plaintexts) (broken : Bool) (writes : Writes) (now file : List ℕ) (a : Option (List ℕ)) (disk journal : Option Disk)
    → IsPossible a disk → Commits layout len next changes writes → IsAtRest disk journal file → IsKnown (Has layout counter stored len changes broken now) a → IsSealed layout next now (after_writes writes file)
commit_sealed_at layout counter stored len next changes broken writes now file a disk journal possible commits rests s =
    let has = subst (IsKnown (Has layout counter stored len changes broken now)) (readable_certain a disk file possible rests.storage_is) s in
    commits now file has.size has.pages

pub commit_recovers : (layout : Layout) (counter stored len next : ℕ) (changes : Plaintexts) (broken : Bool) (writes : Writes) (key beginning before now file header_block : List ℕ) (a : Option (List ℕ)) (disk journal disk' journal' : Option Disk)
    → key ≡ journal_key layout.variant layout.key → beginning ≡ journal_beginning layout → IsPossible a disk → Commits layout len next changes writes
    → IfSome a (λ file. (512 ≤ length file) × (header_block ≡ part_at file 0 512)) → IsOfCommit (take (head_bytes layout.variant) header_block) writes
    → ((file : List ℕ) → IsOfCommit (head_of layout.variant (after_writes writes file)) writes) → IsAtRest disk journal file → IsSealed layout counter before file
    → IsKnown (Has layout counter stored len changes broken now) a → RecoversUnlessOtherJournal key [] file writes disk' journal' → KeepsBeginning beginning journal' → RecoversContentsUnlessOtherJournal layout.variant layout.key before now disk' journal'
commit_recovers layout counter stored len next changes broken writes key beginning before now file header_block a disk journal disk' journal' is names possible commits read old_head new_head rests sealed s recovers keeps = record {
  layout = layout;
  file = file;
  writes = writes;
  variant_is = refl;
  key_is = refl;
  recovers = subst (λ (k : List ℕ). RecoversUnlessOtherJournal k [] file writes disk' journal') is recovers;
  without = (counter, sealed);
  with_writes = inr (next, commit_sealed_at layout counter stored len next changes broken writes now file a disk journal possible commits rests s);
  old_head = subst (λ (l : List ℕ). IsOfCommit l writes) (head_read layout.variant file header_block (found.1)) old_head;
  new_head = new_head file;
  beginning = subst (λ (l : List ℕ). KeepsBeginning l journal') names keeps;
}
  where
    found : (512 ≤ length file) × (header_block ≡ part_at file 0 512)
    found = subst (λ (o : Option (List ℕ)). IfSome o (λ file. (512 ≤ length file) × (header_block ≡ part_at file 0 512))) (readable_certain a disk file possible rests.storage_is) read

-- ---- an opening

pub recovers_again : (variant : Variant) (key : List ℕ) (storage journal storage' journal' : Option Disk) (content : Option (List ℕ))
    → ((file : List ℕ) (writes : Writes) → IfSome content (IsNoOtherJournal (journal_key variant key) [] writes)
    → RecoversUnlessOtherJournal (journal_key variant key) [] file writes storage journal → RecoversUnlessOtherJournal (journal_key variant key) [] file writes storage' journal')
    → ((beginning : List ℕ) → KeepsBeginning beginning journal → KeepsBeginning beginning journal')
    → (before now : List ℕ) (batch : RecoversContentsUnlessOtherJournal variant key before now storage journal) → IfSome content (IsHonest batch) → RecoversContentsUnlessOtherJournal variant key before now storage' journal'
recovers_again variant key storage journal storage' journal' content next beginning before now batch honest = record {
  layout = batch.layout;
  file = batch.file;
  writes = batch.writes;
  variant_is = batch.variant_is;
  key_is = batch.key_is;
  recovers = next batch.file batch.writes honest batch.recovers;
  without = batch.without;
  with_writes = batch.with_writes;
  old_head = batch.old_head;
  new_head = batch.new_head;
  beginning = beginning _ batch.beginning;
}

pub rests_at_contents : (variant : Variant) (key : List ℕ) (storage journal storage' journal' : Option Disk) (content : Option (List ℕ))
    → ((file : List ℕ) (writes : Writes) → IfSome content (IsNoOtherJournal (journal_key variant key) [] writes)
    → RecoversUnlessOtherJournal (journal_key variant key) [] file writes storage journal → RestsAtEither storage' journal' file writes)
    → (before now : List ℕ) (batch : RecoversContentsUnlessOtherJournal variant key before now storage journal) → IfSome content (IsHonest batch) → RestsAtContents variant key before now storage' journal'
rests_at_contents variant key storage journal storage' journal' content next before now batch honest = record { file = rests.bytes; rests = rests.rests; one = cases rests.one }
  where
    rests : RestsAtEither storage' journal' batch.file batch.writes
    rests = next batch.file batch.writes honest batch.recovers

    is_file : (contents bytes : List ℕ) → IsFileUnder batch.layout contents bytes → IsFileOf variant key contents bytes
    is_file contents bytes h = record { layout = batch.layout; counter = h.0; variant_is = batch.variant_is; key_is = batch.key_is; is = h.1 }

    cases : IsOneOf batch.file (after_writes batch.writes batch.file) rests.bytes → IsFileOf variant key before rests.bytes ⊎ IsFileOf variant key now rests.bytes
    cases (inl same) = inl (is_file before rests.bytes (rw same batch.without))
    cases (inr same) = elim batch.with_writes [ inl h ↦ inl (is_file before rests.bytes (rw same h)) | inr h ↦ inr (is_file now rests.bytes (rw same h)) ]

pub kept_by_empty : (key context : List ℕ) (j a b : Option (List ℕ)) → RecoversKnown key context j a b → j ≡ Some [] → IfSome a (λ xs. b ≡ Some xs)
kept_by_empty key context j None b recovers none = tt
kept_by_empty key context j (Some xs) None recovers none = let r = rw none at recovers in absurd r
kept_by_empty key context j (Some xs) (Some ys) recovers none = let r = rw none at recovers in ap Some (r.other (λ writes is. empty_is_none key context writes is))

-- ---- contents that are committed

pub stored_committed : (old new : OpenFile) (contents : List ℕ) → IsStoredAs old new → HasCommitted old contents → HasCommitted new contents
unfolding IsCommitted
stored_committed old new contents s has = record {
  bytes = has.bytes;
  rests = record { storage_is = s.disk ∙ has.rests.storage_is; journal_is = s.journal ∙ has.rests.journal_is };
  is = subst (λ (l : Layout). IsSealed l new.counter contents has.bytes) (sym s.layout) (subst (λ (k : ℕ). IsSealed old.layout k contents has.bytes) (sym s.counter) has.is);
}

-- writing the header block over itself, which no journal does, stands for a commit that did not begin
pub committed_recovers : (layout : Layout) (counter : ℕ) (disk journal : Option Disk) (before now : List ℕ) → IsCommitted layout counter disk journal before → RecoversContentsUnlessOtherJournal layout.variant layout.key before now disk journal
unfolding IsCommitted
committed_recovers layout counter disk journal before now has =
    let itself : List ℕ = part_at has.bytes 0 512 in
    let same : overwritten has.bytes 0 itself ≡ has.bytes = first_again has.bytes 512 in
    let head = head_read layout.variant has.bytes itself refl in
    let begins : IsOfCommit (head_of layout.variant has.bytes) ((0, itself) ∷ []) =
    subst (λ (l : List ℕ). IsOfCommit l ((0, itself) ∷ [])) head (inl (itself, [], refl, take_own (head_bytes layout.variant) itself)) in record {
      layout = layout;
      file = has.bytes;
      writes = (0, itself) ∷ [];
      variant_is = refl;
      key_is = refl;
      recovers = rest_recovers (journal_key layout.variant layout.key) [] has.bytes ((0, itself) ∷ []) disk journal has.bytes (inl refl) has.rests;
      without = (counter, has.is);
      with_writes = inl (counter, subst (IsSealed layout counter before) (sym same) has.is);
      old_head = begins;
      new_head = subst (λ (l : List ℕ). IsOfCommit (head_of layout.variant l) ((0, itself) ∷ [])) (sym same) begins;
      beginning = empty_beginning (journal_beginning layout) journal has.rests.journal_is;
    }

no_other_journal : (key : List ℕ) (writes : Writes) (content : Option (List ℕ)) → content ≡ Some [] → IfSome content (IsNoOtherJournal key [] writes)
no_other_journal key writes content is = subst (λ (o : Option (List ℕ)). IfSome o (IsNoOtherJournal key [] writes)) (sym is) (λ found journal. absurd (empty_is_none key [] found journal))

-- what opens to contents that are committed, by an empty journal
pub committed_batch : (variant : Variant) (key : List ℕ) (storage journal : Option Disk) (content : Option (List ℕ)) (contents : List ℕ) → IsPossible content journal → AreCommitted variant key storage journal contents
    → (batch : RecoversContentsUnlessOtherJournal variant key contents contents storage journal) × IfSome content (IsHonest batch)
unfolding AreCommitted IsCommitted
committed_batch variant key storage journal content contents possible has =
    let own : RecoversContentsUnlessOtherJournal has.0.variant has.0.key contents contents storage journal = committed_recovers has.0 has.1 storage journal contents contents has.4 in
    let batch = subst (λ (l : List ℕ). RecoversContentsUnlessOtherJournal variant l contents contents storage journal) has.3
    (subst (λ (v : Variant). RecoversContentsUnlessOtherJournal v has.0.key contents contents storage journal) has.2 own) in
    (batch, no_other_journal (journal_key variant key) batch.writes content (readable_certain content journal [] possible has.4.rests.journal_is))

-- ---- a crash

pub crashed_contents : (variant : Variant) (key before now : List ℕ) (storage journal : Option Disk) (disk journal_disk : Disk) (ys js : List ℕ) → RecoversContentsUnlessOtherJournal variant key before now storage journal
    → storage ≡ Some disk → journal ≡ Some journal_disk → Crashed disk ys → Crashed journal_disk js → RecoversContentsUnlessOtherJournal variant key before now (Some (certain ys)) (Some (certain js))
crashed_contents variant key before now storage journal disk journal_disk ys js batch is journal_is p q =
    recovers_again variant key storage journal (Some (certain ys)) (Some (certain js)) None
    (λ file writes _ recovers. crashed_recovers (journal_key variant key) [] file writes disk journal_disk ys js (rw (← is, ← journal_is) recovers) p q)
    (λ beginning keeps. crashed_beginning beginning journal_disk js (rw (← journal_is) keeps) q) before now batch tt

pub crashed_committed : (variant : Variant) (key contents : List ℕ) (disk journal_disk : Disk) (ys js : List ℕ) → AreCommitted variant key (Some disk) (Some journal_disk) contents
    → Crashed disk ys → Crashed journal_disk js → AreCommitted variant key (Some (certain ys)) (Some (certain js)) contents
unfolding AreCommitted IsCommitted
crashed_committed variant key contents disk journal_disk ys js has p q = (
  has.0,
  has.1,
  has.2,
  has.3,
  record {
    bytes = has.4.bytes;
    rests = record { storage_is = left disk ys has.4.bytes has.4.rests.storage_is p; journal_is = left journal_disk js [] has.4.rests.journal_is q };
    is = has.4.is;
  },
)
  where
    left : (disk : Disk) (ys xs : List ℕ) → Some disk ≡ Some (certain xs) → Crashed disk ys → Some (certain ys) ≡ Some (certain xs)
    left disk ys xs is crashed = ap (λ zs. Some (certain zs)) (has_left (λ zs. zs ≡ xs) (Some disk) disk ys (certain_leaves (Some disk) xs is) refl crashed)

-- ---- a file that was opened

pub opens_at_one : (layout : Layout) (counter len : ℕ) (changes : Plaintexts) (a : Option (List ℕ)) (disk journal : Option Disk) (before now : List ℕ) → IsLaneCount layout.variant.lanes
    → ((k : ℕ) → contents_at changes k ≡ None) → IfSome a (IsHeader layout counter len) → IsPossible a disk → RestsAtContents layout.variant layout.key before now disk journal
    → OpensAtOne (record { layout = layout; counter = counter; stored = len; len = len; changes = changes; bytes = a; disk = disk; journal = journal; broken = false }) before now
unfolding HasContents IsCommitted
opens_at_one layout counter len changes a disk journal before now count none header possible rest = cases rest.one
  where
    known : a ≡ Some rest.file
    known = readable_certain a disk rest.file possible rest.rests.storage_is

    is : IsHeader layout counter len rest.file
    is = subst (λ (o : Option (List ℕ)). IfSome o (IsHeader layout counter len)) known header

    has : (contents : List ℕ) → IsFileOf layout.variant layout.key contents rest.file → IsKnown (Has layout counter len len changes false contents) a
    has contents h = subst (IsKnown (Has layout counter len len changes false contents)) (sym known) (holds_has layout counter len changes contents rest.file count none is h)

    sealed : (contents : List ℕ) → IsFileOf layout.variant layout.key contents rest.file
        → HasCommitted (record { layout = layout; counter = counter; stored = len; len = len; changes = changes; bytes = a; disk = disk; journal = journal; broken = false }) contents
    sealed contents h = record { bytes = rest.file; rests = rest.rests; is = holds_sealed layout counter len contents rest.file count is h }

    cases : IsFileOf layout.variant layout.key before rest.file ⊎ IsFileOf layout.variant layout.key now rest.file
        → OpensAtOne (record { layout = layout; counter = counter; stored = len; len = len; changes = changes; bytes = a; disk = disk; journal = journal; broken = false }) before now
    cases (inl h) = inl (has before h, sealed before h)
    cases (inr h) = inr (has now h, sealed now h)

pub opens_held : (layout : Layout) (counter len : ℕ) (changes : Plaintexts) (a b : Option (List ℕ)) → IsLaneCount layout.variant.lanes → ((k : ℕ) → contents_at changes k ≡ None) → IfSome b (IsHeader layout counter len)
    → IfSome a (λ xs. b ≡ Some xs) → IfSome a (λ file. (contents : List ℕ) → IsFileOf layout.variant layout.key contents file → IsKnown (Has layout counter len len changes false contents) b)
opens_held layout counter len changes None b count none header same = tt
opens_held layout counter len changes (Some file) b count none header same = λ contents h.
    subst (IsKnown (Has layout counter len len changes false contents)) (sym same)
    (holds_has layout counter len changes contents file count none (subst (λ (o : Option (List ℕ)). IfSome o (IsHeader layout counter len)) same header) h)

-- without the changes, the contents are the committed ones
pub discarded : (layout : Layout) (counter stored len : ℕ) (changes none : Plaintexts) (bytes : Option (List ℕ)) (disk journal : Option Disk) (broken : Bool) (before now : List ℕ) → IsLaneCount layout.variant.lanes → IsPossible bytes disk
    → ((k : ℕ) → contents_at none k ≡ None) → Committed layout counter disk journal before → IsKnown (Has layout counter stored len changes broken now) bytes → IsKnown (Has layout counter stored stored none broken before) bytes
discarded layout counter stored len changes none bytes disk journal broken before now count possible empty committed has =
    let known = readable_certain bytes disk committed.bytes possible committed.rests.storage_is in
    let held = subst (IsKnown (Has layout counter stored len changes broken now)) known has in
    subst (IsKnown (Has layout counter stored stored none broken before)) (sym known)
    (subst (λ (b : Bool). Has layout counter stored stored none b before committed.bytes) (sym held.sound)
    (holds_has layout counter stored none before committed.bytes count empty held.header (record { layout = layout; counter = counter; variant_is = refl; key_is = refl; is = committed.is })))

-- the same after changes in memory, whatever they are
pub discarded_since : (file old : OpenFile) (none : Plaintexts) (before now : List ℕ) → IsLaneCount old.layout.variant.lanes → IsPossible old.bytes old.disk
    → ((k : ℕ) → contents_at none k ≡ None) → IsStoredAs file old → HasCommitted file before → HasContents file now → IsKnown (Has old.layout old.counter old.stored old.stored none old.broken before) old.bytes
unfolding HasContents IsCommitted
discarded_since file old none before now count possible empty s committed has =
    discarded old.layout old.counter old.stored file.len file.changes none old.bytes old.disk old.journal old.broken before now count possible empty
    (stored_committed file old before s committed) (rw (s.layout, s.counter, s.stored, s.broken, s.bytes) has)
