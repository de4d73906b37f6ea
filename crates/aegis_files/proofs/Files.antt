-- A file that is opened: its facts, by those of the records after its header.
use Rattle.std.proofs.Common.{◌≡◌, ◌≢◌, ◌⊎◌, ℕ, ◌+◌, ◌<◌, ◌≤◌, true, List, [], ◌++◌, Option, Some, IfErr, IfSome, OnOk, Result, Ok, Err, drop, length, take, refl, sym, ap, subst, ◌∙◌, append_assoc, arith, inl, inr}
use Rattle.std.proofs.KnownBytes.{Appends-nil}
use Rattle.std.proofs.lemmas.List.{append-nil, drop_at, length-append, length-drop, length-take, take-append-drop, take_all, take_at}
use Rattle.std.specs.Io.KnownBytes.{Appends, Consumes, IsAtEnd}
use Rattle.std.specs.List.{concat}
use Rattle.aegis_base.specs.declared.error.TheConstants.{MAX_AEAD_BYTES}
use Rattle.aegis.specs.declared.record.error.RecordError.{RecordError}
use Rattle.aegis.specs.declared.record.error.RecordError.TheVariants as errors
use Rattle.aegis.specs.declared.record.version.Version.TheVariants.{Second}
use Rattle.aegis.specs.RecordResults.{last_flag}
use Rattle.aegis.specs.RecordStream.{AreRecords, IsFault, first_position, frames, header, position_after, sealed, start_at}
use Rattle.aegis.proofs.Frames.{one_fault}
use Rattle.aegis.proofs.Lengths.{length-frames, start_after}
use Rattle.aegis.proofs.Sealed.{sealed-is}
use Rattle.aegis.proofs.Stepwise.{after_a_stream, begun_none}
use Rattle.aegis_files.specs.declared.error.FileError.{FileError}
use Rattle.aegis_files.specs.declared.error.FileError.TheVariants.{Stream, TooLong}
use Rattle.aegis_files.specs.declared.range.OpenedRange.{OpenedRange}
use Rattle.aegis_files.specs.declared.range.ContentsRange.{ContentsRange}
use Rattle.aegis_files.specs.Opening.{AreContentsFrom, AreFrom, FailsWith, HasNoHead, IsReadError, IsSealedFile, IsWriteError, OpensRange, RefusesFile, RefusesFrom, StopsRange, part_of, part_of_contents}
use Rattle.aegis_files.specs.Private.{LeavesSome}
use Rattle.aegis_files.proofs.Pieces.{at_end, concat-short, read_some, some_with, two_prefixes}

-- a stream's records follow its header
pub all_records : (key prefix context : List ℕ) (flag : ℕ) (ms : List (List ℕ)) (bytes : List ℕ) → AreFrom key prefix context (first_position Second) flag ms [] bytes → flag ≡ 1
    → AreRecords Second key prefix context ms (header Second ++ bytes)
all_records key prefix context flag ms bytes r one = grind (arith, append-nil)

-- the contents of a file are those of its stream, and so of the records after its header
contents_are : (key prefix context contents bytes : List ℕ) → length prefix ≡ 24 → (it : IsSealedFile key context contents (prefix ++ (header Second ++ bytes)))
    → AreRecords Second key prefix context it.is.messages (header Second ++ bytes)
contents_are key prefix context contents bytes long it = grind (arith, two_prefixes)

contents_from : (key prefix context contents bytes : List ℕ) → length prefix ≡ 24 → (it : IsSealedFile key context contents (prefix ++ (header Second ++ bytes)))
    → AreContentsFrom key prefix context (first_position Second) it.is.messages contents bytes
contents_from key prefix context contents bytes long it = record {
  messages = [];
  before = header Second;
  begun = begun_none key prefix context Second (header Second) refl;
  are = (Second, contents_are key prefix context contents bytes long it);
  contents_is = it.is.contents_is;
}

-- ---- why it is refused

refuses_by : (key prefix context bytes : List ℕ) (e : FileError) → length prefix ≡ 24
    → ((why : RecordError) → e ≡ Stream why → (why ≡ errors.OutOfMemory) ⊎ IsFault key prefix context (header Second ++ bytes) why)
    → (e ≡ TooLong → MAX_AEAD_BYTES < length (header Second ++ bytes)) → RefusesFile key context (prefix ++ (header Second ++ bytes)) e
refuses_by key prefix context bytes e long refused too_long = record {
  refused = λ why it. elim (refused why it) [
    | inl none ↦ inl none
    | inr fault ↦ inr (inr (prefix, bytes, long, refl, fault))
  ];
  accepted = λ contents s why it. elim (refused why it) [
    | inl none ↦ none
    | inr fault ↦ absurd ((one_fault (sealed key prefix context) (sealed-is key prefix context)).1 (header Second ++ bytes) Second s.is.messages why
        (contents_are key prefix context contents bytes long s) fault)
  ];
  too_long = λ it. omega (arith, too_long it, long, length-append prefix (header Second ++ bytes));
}

pub refuses_file : (key prefix context bytes : List ℕ) (e : FileError) → length prefix ≡ 24 → RefusesFrom key prefix context (first_position Second) bytes e
    → RefusesFile key context (prefix ++ (header Second ++ bytes)) e
refuses_file key prefix context bytes e long r =
    refuses_by key prefix context bytes e long (λ why it. elim (r.refused why it) [
      | inl none ↦ inl none
      | inr fault ↦ inr (fault [] (header Second) (begun_none key prefix context Second (header Second) refl))
    ]) (λ it. omega (arith, r.too_long it, length-append (header Second) bytes))

-- bytes are left after the last record, or they cannot be read
pub refuses_more : (key prefix context bytes rest : List ℕ) (ms : List (List ℕ)) (flag : ℕ) (left : Option (List ℕ)) (e : FileError) → length prefix ≡ 24
    → AreFrom key prefix context (first_position Second) flag ms rest bytes → flag ≡ 1 → left ≡ Some rest → LeavesSome left e
    → RefusesFile key context (prefix ++ (header Second ++ bytes)) e
refuses_more key prefix context bytes rest ms flag left e long r one known (inl (why, is)) = refuses_by key prefix context bytes e long (λ d it. absurd cc) (λ it. absurd cc)
refuses_more key prefix context bytes rest ms flag left e long r one known (inr (is, more)) =
    refuses_by key prefix context bytes e long (λ d it. inr (let same : errors.Trailing ≡ d = cc in subst (IsFault key prefix context (header Second ++ bytes)) same fault)) (λ it. absurd cc)
  where
    fs : List ℕ
    fs = frames (sealed key prefix context) (first_position Second) flag ms

    fault : IsFault key prefix context (header Second ++ bytes) errors.Trailing
    fault =
        subst (λ (l : List ℕ). IsFault key prefix context l errors.Trailing) (append_assoc (header Second) fs rest ∙ ap (λ (l : List ℕ). header Second ++ l) (sym r.are))
        (after_a_stream key prefix context ms (header Second ++ fs) rest
        (Second, all_records key prefix context flag ms fs (record { known = r.known; within = r.within; are = sym (append-nil fs) }) one) (subst (λ l. IfSome l (λ x. 0 < length x)) known more))

-- a file with no prefix and header
head_is : (key context contents file : List ℕ) → IsSealedFile key context contents file → take 4 (drop 24 file) ≡ header Second
head_is key context contents file it =
    let fs = frames (sealed key it.prefix context) (first_position Second) 1 it.is.messages in
    ap (λ (l : List ℕ). take 4 (drop 24 l)) (it.is.file_is ∙ ap (λ (l : List ℕ). it.prefix ++ l) it.is.are.are)
    ∙ ap (take 4) (drop_at it.prefix (header Second ++ fs) 24 it.long) ∙ take_at (header Second) fs 4 refl

pub no_head : (key context file : List ℕ) (e : FileError) → IsReadError e ⊎ ((e ≡ Stream errors.Header) × (take 4 (drop 24 file) ≢ header Second)) → RefusesFile key context file e
no_head key context file e (inl (why, is)) = record { refused = λ d it. absurd cc; accepted = λ contents s d it. absurd cc; too_long = λ it. absurd cc }
no_head key context file e (inr (is, none)) = record {
  refused = λ d it. inr (inl (none, cc));
  accepted = λ contents s d it. absurd (none (head_is key context contents file s));
  too_long = λ it. absurd cc;
}

unread : (key context file : List ℕ) (old : Option (List ℕ)) (e : FileError) → IsReadError e ⊎ ((e ≡ Stream errors.Header) × (take 4 (drop 24 file) ≢ header Second))
    → FailsWith key context file old old e
unread key context file old e why = grind (arith, no_head, Appends-nil)

-- the same of a file of which this much is known
pub known_head : (file : Option (List ℕ)) (e : FileError) (P : List ℕ → Type 0) → IsReadError e ⊎ ((e ≡ Stream errors.Header) × HasNoHead file)
    → ((f : List ℕ) → IsReadError e ⊎ ((e ≡ Stream errors.Header) × (take 4 (drop 24 f) ≢ header Second)) → P f) → IfSome file P
known_head file e P why go = grind arith

pub fails_unread : (key context : List ℕ) (file old : Option (List ℕ)) (e : FileError) → IsReadError e ⊎ ((e ≡ Stream errors.Header) × HasNoHead file)
    → IfSome file (λ f. FailsWith key context f old old e)
fails_unread key context file old e why = known_head file e _ why (λ f it. unread key context f old e it)

-- the head that was read is no prefix and header
pub short_head : (file left : Option (List ℕ)) (taken : List ℕ) → Consumes file left taken → length taken < 28 → IsAtEnd left → HasNoHead file
short_head file left taken read short end = read_some file left taken _ read (λ f rest known is after it.
    let none = at_end rest left after end in
    let four : length (take 4 (drop 24 f)) ≡ 4 = ap length it in
    absurd (omega (arith, four, short, ap length is, ap length none, length-append taken rest, length-take 4 (drop 24 f), length-drop 24 f)))

pub other_head : (file left : Option (List ℕ)) (taken : List ℕ) → Consumes file left taken → length taken ≡ 28 → drop 24 taken ≢ header Second → HasNoHead file
other_head file left taken read long other = read_some file left taken _ read (λ f rest known is after it.
    let a : List ℕ = take 24 taken in
    let b : List ℕ = drop 24 taken in
    let all : f ≡ a ++ (b ++ rest) = is ∙ ap (λ (l : List ℕ). l ++ rest) (sym (take-append-drop 24 taken)) ∙ append_assoc a b rest in
    other (sym (ap (λ (l : List ℕ). take 4 (drop 24 l)) all ∙ ap (take 4) (drop_at a (b ++ rest) 24 (omega (arith, long, length-take 24 taken)))
    ∙ take_at b rest 4 (omega (arith, long, length-drop 24 taken))) ∙ it))

-- ---- it fails after its header

-- a fact of the file, by the bytes after its header
pub under : (P : List ℕ → Type 0) (prefix : List ℕ) (file left : Option (List ℕ)) → Consumes file left (prefix ++ header Second)
    → IfSome left (λ bytes. P (prefix ++ (header Second ++ bytes))) → IfSome file P
under P prefix file left read p = grind (arith, append_assoc)

pub under_err : {T : Type 0} (P : FileError → List ℕ → Type 0) (prefix : List ℕ) (file left : Option (List ℕ)) (r : Result T FileError) → Consumes file left (prefix ++ header Second)
    → IfErr r (λ e. IfSome left (λ bytes. P e (prefix ++ (header Second ++ bytes)))) → IfErr r (λ e. IfSome file (P e))
under_err P prefix file left r read p = grind (arith, under)

-- all of the contents, as a part
abbrev pub all : ContentsRange
all = record { position = first_position Second; skip = 0; length = 18446744073709551615 }

-- it is all of the messages that fit
all_of : (ms : List (List ℕ)) → start_at (position_after (first_position Second) ms) ≤ MAX_AEAD_BYTES → part_of all ms ≡ concat ms
all_of ms fits = take_all 18446744073709551615 (concat ms) (omega (arith, fits, start_after (first_position Second) ms, concat-short ms))

file_fails : (key prefix context bytes rest begun more : List ℕ) (ms : List (List ℕ)) (flag : ℕ) (old new : Option (List ℕ)) (e : FileError) → length prefix ≡ 24
    → AreFrom key prefix context (first_position Second) flag ms rest bytes → Appends old new begun → concat ms ≡ begun ++ more → (more ≡ []) ⊎ IsWriteError e
    → ((following : List (List ℕ)) (contents : List ℕ) → AreContentsFrom key prefix context (first_position Second) following contents bytes → (after : List ℕ) × (part_of_contents all contents ≡ begun ++ after))
    → RefusesFile key context (prefix ++ (header Second ++ bytes)) e → FailsWith key context (prefix ++ (header Second ++ bytes)) old new e
file_fails key prefix context bytes rest begun more ms flag old new e long records written is all_written contents_is refuses = record {
  begun = begun;
  written = written;
  verified = inr (ms, record { prefix = prefix; long = long; bytes = bytes; file_is = refl; flag = flag; rest = rest; records = records }, more, is, all_written);
  beginning = λ contents it.
      let part = contents_is it.is.messages contents (contents_from key prefix context contents bytes long it) in
      let others : List ℕ = drop 18446744073709551615 contents in
      (part.0 ++ others, sym (take-append-drop 18446744073709551615 contents) ∙ ap (λ (l : List ℕ). l ++ others) part.1 ∙ append_assoc begun part.0 others);
  refuses = refuses;
}

pub fails_within : (key prefix context : List ℕ) (left old new : Option (List ℕ)) (e : FileError) → length prefix ≡ 24
    → IfSome left (λ bytes. StopsRange key prefix context all bytes old new e) → IfSome left (λ bytes. FailsWith key context (prefix ++ (header Second ++ bytes)) old new e)
fails_within key prefix context left old new e long why = some_with left _ _ (λ bytes s.
    file_fails key prefix context bytes s.rest s.begun s.of_messages.0 s.messages s.flag old new e long s.records s.written (sym (all_of s.messages s.fits) ∙ s.of_messages.1) s.of_messages.2
    s.of_contents (refuses_file key prefix context bytes e long s.refuses)) why

-- ---- the last record was opened

-- a part of so many bytes ends with the last record
is_last : (key prefix context bytes : List ℕ) (opened : OpenedRange) (left old new : Option (List ℕ)) → OpensRange key prefix context all opened bytes left old new → opened.is_last ≡ true
is_last key prefix context bytes opened left old new o = elim o.whole [
  | inl last ↦ last
  | inr full ↦ absurd (omega (
    arith,
    full.0,
    o.count,
    o.fits,
    ap start_at o.ended,
    start_after (first_position Second) o.messages,
    concat-short o.messages,
    length-take 18446744073709551615 (concat o.messages),
  ))
]

pub ends_file : {T : Type 0} (key prefix context : List ℕ) (opened : OpenedRange) (file left left' old new : Option (List ℕ)) (r : Result T FileError) → length prefix ≡ 24
    → Consumes file left (prefix ++ header Second) → IfSome left (λ bytes. OpensRange key prefix context all opened bytes left' old new)
    → OnOk r (IsAtEnd left') → OnOk r (IfSome file (λ f. (contents : List ℕ) × Appends old new contents × IsSealedFile key context contents f))
ends_file key prefix context opened file left left' old new (Err e) long read o end = tt
ends_file key prefix context opened file left left' old new (Ok x) long read o end = under _ prefix file left read (some_with left _ _ whole o)
  where
    whole : (bytes : List ℕ) → OpensRange key prefix context all opened bytes left' old new
        → (contents : List ℕ) × Appends old new contents × IsSealedFile key context contents (prefix ++ (header Second ++ bytes))
    whole bytes s =
        let last = is_last key prefix context bytes opened left' old new s in
        let fits = subst (λ q. start_at q ≤ MAX_AEAD_BYTES) s.ended s.fits in
        let nothing = at_end s.rest left' s.read end in
        let records = subst (λ (l : List ℕ). AreFrom key prefix context (first_position Second) (last_flag opened.is_last) s.messages l bytes) nothing s.records in (
          concat s.messages,
          subst (Appends old new) (all_of s.messages fits) s.written,
          record {
            prefix = prefix;
            long = long;
            is = record {
              messages = s.messages;
              stream = header Second ++ bytes;
              are = all_records key prefix context (last_flag opened.is_last) s.messages bytes records (rw last refl);
              contents_is = refl;
              file_is = refl;
            };
          },
        )

-- its stream is within the limit
pub ends_within : {T : Type 0} (key prefix context : List ℕ) (opened : OpenedRange) (file left left' old new : Option (List ℕ)) (r : Result T FileError) → length prefix ≡ 24
    → Consumes file left (prefix ++ header Second) → IfSome left (λ bytes. OpensRange key prefix context all opened bytes left' old new)
    → OnOk r (IsAtEnd left') → OnOk r (IfSome file (λ f. length f ≤ 24 + MAX_AEAD_BYTES))
ends_within key prefix context opened file left left' old new (Err e) long read o end = tt
ends_within key prefix context opened file left left' old new (Ok x) long read o end = under _ prefix file left read (some_with left _ _ (λ bytes s.
    omega (
      arith,
      long,
      s.fits,
      ap start_at s.ended,
      start_after (first_position Second) s.messages,
      ap length s.records.are,
      ap length (at_end s.rest left' s.read end),
      length-frames (sealed key prefix context) (sealed-is key prefix context) (first_position Second) (last_flag opened.is_last) s.messages,
      length-append (frames (sealed key prefix context) (first_position Second) (last_flag opened.is_last) s.messages) s.rest,
      length-append (header Second) bytes,
      length-append prefix (header Second ++ bytes),
    )) o)

pub fails_end : {T : Type 0} (key prefix context : List ℕ) (opened : OpenedRange) (file left left' old new : Option (List ℕ)) (r : Result T FileError) → length prefix ≡ 24
    → Consumes file left (prefix ++ header Second) → IfSome left (λ bytes. OpensRange key prefix context all opened bytes left' old new) → IfErr r (LeavesSome left')
    → IfErr r (λ e. IfSome file (λ f. FailsWith key context f old new e))
fails_end key prefix context opened file left left' old new (Ok x) long read o why = tt
fails_end key prefix context opened file left left' old new (Err e) long read o why = under _ prefix file left read (some_with left _ _ fails o)
  where
    fails : (bytes : List ℕ) → OpensRange key prefix context all opened bytes left' old new → FailsWith key context (prefix ++ (header Second ++ bytes)) old new e
    fails bytes s =
        let fits = subst (λ q. start_at q ≤ MAX_AEAD_BYTES) s.ended s.fits in
        file_fails key prefix context bytes s.rest (part_of all s.messages) [] s.messages (last_flag opened.is_last) old new e long s.records s.written
        (sym (all_of s.messages fits) ∙ sym (append-nil (part_of all s.messages))) (inl refl)
        (λ following contents t. ([], sym (s.of_contents following contents t) ∙ sym (append-nil (part_of all s.messages))))
        (refuses_more key prefix context bytes s.rest s.messages (last_flag opened.is_last) left' e long s.records
        (rw (is_last key prefix context bytes opened left' old new s) refl) s.read why)
