-- Files that have contents, from call to call.
use Rattle.std.proofs.Common.{◌≡◌, ℕ, ◌+◌, ◌-◌, ◌<◌, ◌≤◌, Bool, false, List, [], ◌∷◌, ◌++◌, Option, None, Some, IfSome, drop, get_or, length, max, min, take, refl, sym, ap, subst, ◌∙◌, arith}
use Rattle.std.proofs.lemmas.List.{append-nil, drop_all, ext_get_or, length-append, length-drop, length-take, nil_from_length, take_all}
use Rattle.aegis_aes.specs.Lanes.{IsLaneCount}
use Rattle.aegis_storage.specs.Disk.{Adds, Disk, IfKnown, IsPossible, IsSynced, IsWithin, MakesSynced, ResizesTo, SettlesTo, Size, Write, WritesAt, disk_after, certain, overwritten, part_at, resized}
use Rattle.aegis_storage.proofs.Disks.{applied_append, readable, resized_none, settles_emptied, within_after, within_both, within_settles}
use Rattle.std.specs.Io.KnownBytes.{Keeps}
use Rattle.aegis_storage.proofs.Overwriting.{kept_part, length-overwritten, length-part, length-resized, part_byte, put_part, resized_byte}
use Rattle.aegis_pages.specs.OpenFile.{ArePages, Has, IsFileOf, IsKnown, IsSealed, Plaintexts, contents_at, unchanged}
use Rattle.aegis_pages.specs.Layouts.{IsHeader, IsHeaderBlock, Layout}
use Rattle.aegis_pages.specs.Private.{IsCertain, WritesContents}
use Rattle.aegis_pages.proofs.SealedFacts.{one_in_file}
use Rattle.aegis_pages.proofs.CommitFacts.{header_written}

pub has_use : (layout : Layout) (counter stored len : ℕ) (changes : Plaintexts) (broken : Bool) (contents : List ℕ) (o : Option (List ℕ)) (P : List ℕ → Type 0) → IfSome o P
    → IsKnown (Has layout counter stored len changes broken contents) o → (file : List ℕ) × P file × Has layout counter stored len changes broken contents file
has_use layout counter stored len changes broken contents None P p s = absurd s
has_use layout counter stored len changes broken contents (Some file) P p s = (file, p, s)

pub has_len : (layout : Layout) (counter stored len : ℕ) (changes : Plaintexts) (broken : Bool) (contents : List ℕ) (o : Option (List ℕ)) → IsKnown (Has layout counter stored len changes broken contents) o → length contents ≡ len
has_len layout counter stored len changes broken contents None s = absurd s
has_len layout counter stored len changes broken contents (Some file) s = s.size

-- ---- a part that is written, and a new length

-- what a part leaves as it was
pub ruleset kept_laws = (kept_part, length-part)

pub wrote : (layout : Layout) (counter stored len at : ℕ) (part : List ℕ) (old new : Plaintexts) (broken : Bool) (next : ℕ) (contents : List ℕ) (o : Option (List ℕ)) → next ≡ max len (at + length part)
    → IfSome o (WritesContents layout len at part (contents_at old) (contents_at new)) → IsKnown (Has layout counter stored len old broken contents) o
    → IsKnown (Has layout counter stored next new broken (overwritten contents at part)) o
wrote layout counter stored len at part old new broken next contents None is w s = absurd s
wrote layout counter stored len at part old new broken next contents (Some file) is w s = record {
  size = omega (arith, is, s.size, length-overwritten contents at part);
  sound = s.sound;
  header = s.header;
  pages = w contents s.size s.pages;
}

pub grown : (contents : List ℕ) (len : ℕ) → length contents ≤ len → overwritten contents len [] ≡ resized contents len
grown contents len short = ap (λ (l : List ℕ). resized contents len ++ l) (drop_all (len + 0) contents (omega (arith, short))) ∙ append-nil (resized contents len)

pub cut : (layout : Layout) (counter stored len : ℕ) (changes : Plaintexts) (broken : Bool) (new : ℕ) (contents : List ℕ) (o : Option (List ℕ)) → new < len
    → IsKnown (Has layout counter stored len changes broken contents) o → IsKnown (Has layout counter stored new changes broken (resized contents new)) o
cut layout counter stored len changes broken new contents None less s = absurd s
cut layout counter stored len changes broken new contents (Some file) less s = record {
  size = length-resized contents new;
  sound = s.sound;
  header = s.header;
  pages = record {
    page = λ k low.
        let page = s.pages.page k (grind (arith, less, s.size, low, length-resized)) in
        record { message = page.message; shows = page.shows; bytes = λ i near fits. grind (arith, less, s.size, fits, page.bytes i near, length-resized, resized_byte) };
  };
}

-- ---- contents that are read

-- bytes that were changed in place, and put back before those behind them
pub put_back : (new items : List ℕ) (n : ℕ) → length new ≡ length items → n ≡ length items → length (take n (new ++ drop (length new) items)) ≡ length items
put_back new items n same all = grind (arith, length-take, length-append, length-drop)

pub read_so : (contents out : List ℕ) (at : ℕ) → at + length out ≤ length contents → ((i : ℕ) → i < length out → get_or out i 0 ≡ get_or contents (at + i) 0) → out ≡ part_at contents at (length out)
read_so contents out at within same = ext_get_or 0 out (part_at contents at (length out)) (grind (arith, length-part)) (λ i low. grind (arith, same i low, part_byte))

-- what was written is read
pub written_read : (contents part out : List ℕ) (at len n : ℕ) → length (overwritten contents at part) ≡ len → length part ≡ length out → n ≡ min (length out) (len - at)
    → take n out ≡ part_at (overwritten contents at part) at n → out ≡ part
written_read contents part out at len n long same count is = grind (arith, length-overwritten, take_all, put_part)

pub written_none : (contents part out : List ℕ) (at len : ℕ) → length (overwritten contents at part) ≡ len → length part ≡ length out → len ≤ at → out ≡ part
written_none contents part out at len long same past = grind (arith, length-overwritten, nil_from_length)

-- ---- a file with no changes

pub sealed_has : (layout : Layout) (counter len : ℕ) (changes : Plaintexts) (contents file : List ℕ) → ((k : ℕ) → contents_at changes k ≡ None) → length contents ≡ len → IsSealed layout counter contents file
    → Has layout counter len len changes false contents file
sealed_has layout counter len changes contents file none size is = record {
  size = size;
  sound = refl;
  header = subst (λ (n : ℕ). IsHeader layout counter n file) size is.header;
  pages = record { page = λ k low. rw (none k) (is.pages.page k low) };
}

-- empty contents
pub sealed_empty : (layout : Layout) (file : List ℕ) → IsHeader layout 0 0 file → IsSealed layout 0 [] file
sealed_empty layout file is = record { header = is; pages = record { page = λ k low. absurd (omega (arith, low)) } }

-- a file that holds contents, as the file of the header that was read
pub holds_sealed : (layout : Layout) (counter len : ℕ) (contents file : List ℕ) → IsLaneCount layout.variant.lanes → IsHeader layout counter len file
    → IsFileOf layout.variant layout.key contents file → IsSealed layout counter contents file
holds_sealed layout counter len contents file count is h =
    let same = one_in_file layout h.layout counter h.counter len (length contents) file count h.variant_is h.key_is is h.is.header in record {
      header = subst (λ (n : ℕ). IsHeader layout counter n file) (sym same.2) is;
      pages = subst (λ (l : Layout). ArePages l unchanged contents file) same.0 h.is.pages;
    }

-- the same, open
pub holds_has : (layout : Layout) (counter len : ℕ) (changes : Plaintexts) (contents file : List ℕ) → IsLaneCount layout.variant.lanes → ((k : ℕ) → contents_at changes k ≡ None) → IsHeader layout counter len file
    → IsFileOf layout.variant layout.key contents file → Has layout counter len len changes false contents file
holds_has layout counter len changes contents file count none is h =
    let same = one_in_file layout h.layout counter h.counter len (length contents) file count h.variant_is h.key_is is h.is.header in
    sealed_has layout counter len changes contents file none same.2 (holds_sealed layout counter len contents file count is h)

-- ---- a file that is begun

pub begun_known : (layout : Layout) (header_block : List ℕ) (a b c : Option (List ℕ)) → length header_block ≡ 512 → IsHeaderBlock layout 0 0 header_block → ResizesTo a b 0 → WritesAt b c 0 header_block
    → IfSome a (λ _. IsKnown (IsHeader layout 0 0) c)
begun_known layout header_block None b c long is r w = tt
begun_known layout header_block (Some xs) None c long is r w = absurd r
begun_known layout header_block (Some xs) (Some ys) None long is r w = absurd w
begun_known layout header_block (Some xs) (Some ys) (Some zs) long is r w = subst (IsHeader layout 0 0) (sym w) (header_written layout 0 0 header_block ys long is)

pub known_kept : (P : List ℕ → Type 0) (a b c : Option (List ℕ)) → IfSome a (λ _. IsKnown P b) → Keeps b c → IfSome a (λ _. IsKnown P c)
known_kept P None b c known keeps = tt
known_kept P (Some xs) None c known keeps = absurd known
known_kept P (Some xs) (Some ys) c known keeps = grind arith

-- a disk that is known stays known
known_disk : (R : Disk → Disk → Type 0) (old new : Option Disk) (disk : Disk) → IfKnown R old new → old ≡ Some disk → (now : Disk) × (new ≡ Some now) × R disk now
known_disk R old new disk known is = cases new (rw is at known)
  where
    cases : (new : Option Disk) → IfKnown R (Some disk) new → (now : Disk) × (new ≡ Some now) × R disk now
    cases None k = absurd k
    cases (Some now) k = (now, refl, k)

-- what the header is written over
begun_bytes : (xs part : List ℕ) (b c : Option (List ℕ)) → ResizesTo (Some xs) b 0 → WritesAt b c 0 part → c ≡ Some (overwritten [] 0 part)
begun_bytes xs part None c r w = absurd r
begun_bytes xs part (Some ys) None r w = absurd w
begun_bytes xs part (Some ys) (Some zs) r w = ap Some (w ∙ ap (λ (l : List ℕ). overwritten l 0 part) (r ∙ resized_none xs))

pub begun_certain : (P : List ℕ → Type 0) (a b c : Option (List ℕ)) (old sized over new : Option Disk) (part : List ℕ) (disk : Disk) → IsPossible a old → IfSome a (λ _. IsKnown P c) → ResizesTo a b 0 → WritesAt b c 0 part
    → Adds old sized (Size 0 ∷ []) → Adds sized over (Write 0 part ∷ []) → IsSynced over new → old ≡ Some disk → IsCertain P new
begun_certain P a b c old sized over new part disk before known resizes written sizes writes synced is =
    let x = readable a old disk before is in
    let cut = known_disk (λ disk now. IsWithin now (disk_after disk (Size 0 ∷ []))) old sized disk sizes is in
    let now = known_disk (λ disk now. IsWithin now (disk_after disk (Write 0 part ∷ []))) sized over cut.0 writes cut.1 in
    let done = known_disk MakesSynced over new now.0 synced now.1 in
    let both : Disk = disk_after (disk_after disk (Size 0 ∷ [])) (Write 0 part ∷ []) in
    let settled : SettlesTo both (overwritten [] 0 part) = λ base left.
    applied_append (disk.pending ++ Size 0 ∷ []) (Write 0 part ∷ []) base ∙ ap (λ (l : List ℕ). overwritten l 0 part) (settles_emptied disk base left) in
    let within : IsWithin now.0 both = within_both now.0 (disk_after cut.0 (Write 0 part ∷ [])) both now.2 (within_after cut.0 (disk_after disk (Size 0 ∷ [])) (Write 0 part ∷ []) cut.2) in
    let bytes : c ≡ Some (overwritten [] 0 part) = begun_bytes x.xs part b c (rw x.is at resizes) written in record {
      bytes = overwritten [] 0 part;
      is = done.1 ∙ ap Some (done.2.certainly (overwritten [] 0 part) (within_settles now.0 both (overwritten [] 0 part) within settled));
      so = subst (IsKnown P) bytes (subst (λ (o : Option (List ℕ)). IfSome o (λ _. IsKnown P c)) x.is known);
    }

-- a journal that is emptied and synced
pub emptied_certain : (old sized new : Option Disk) (disk : Disk) → Adds old sized (Size 0 ∷ []) → IsSynced sized new → old ≡ Some disk → new ≡ Some (certain [])
emptied_certain old sized new disk sizes synced is =
    let cut = known_disk (λ disk now. IsWithin now (disk_after disk (Size 0 ∷ []))) old sized disk sizes is in
    let done = known_disk MakesSynced sized new cut.0 synced cut.1 in done.1 ∙ ap Some (done.2.certainly [] (within_settles cut.0 (disk_after disk (Size 0 ∷ [])) [] cut.2 (settles_emptied disk)))

pub created_has : (layout : Layout) (changes : Plaintexts) (b : Option (List ℕ)) → ((k : ℕ) → contents_at changes k ≡ None) → IsKnown (IsHeader layout 0 0) b → IsKnown (Has layout 0 0 0 changes false []) b
created_has layout changes None none known = absurd known
created_has layout changes (Some file) none known = sealed_has layout 0 0 changes [] file none refl (sealed_empty layout file known)
