-- A range that is opened: the facts that hold between two of its records, and those that hold if it fails.
use Rattle.std.proofs.Common.{◌≡◌, ◌⊎◌, ℕ, ◌+◌, ◌-◌, ◌<◌, ◌≤◌, Bool, true, false, List, [], ◌∷◌, ◌++◌, Option, Some, IfSome, drop, length, take, refl, sym, ap, subst, ◌∙◌, append_assoc, arith, inl, inr}
use Rattle.std.proofs.KnownBytes.{Appends-nil, Appends-trans, Consumes-nil, Consumes-trans}
use Rattle.std.proofs.Math.Seq.{drop-append-add}
use Rattle.std.proofs.lemmas.List.Folds.{concat-append}
use Rattle.std.proofs.lemmas.List.{append-nil, append_cancel_left, length-append, length-take, take_at, take-append-drop}
use Rattle.std.specs.Io.KnownBytes.{Appends, Consumes}
use Rattle.std.specs.List.{concat}
use Rattle.aegis_base.specs.declared.error.TheConstants.{MAX_AEAD_BYTES}
use Rattle.aegis.specs.declared.record.error.RecordError.{RecordError}
use Rattle.aegis.specs.declared.record.error.RecordError.TheVariants as errors
use Rattle.aegis.specs.declared.record.position.RecordPosition.{RecordPosition}
use Rattle.aegis.specs.RecordResults.{AreRecordsOfSomeVersion, Begun, Progress, last_flag, progress_at, record_of, sealing_in, start_of}
use Rattle.aegis.specs.RecordStream.{IsFault, IsFaultAt, Sealing, frames, position_after, sealed, start_at}
use Rattle.aegis.proofs.Frames.{one_fault}
use Rattle.aegis.proofs.Sealed.{sealed-is}
use Rattle.aegis.proofs.Stepwise.{begun_all, begun_beginning, begun_whole, sealed_one_stream}
use Rattle.aegis_files.specs.declared.error.FileError.{FileError}
use Rattle.aegis_files.specs.declared.error.FileError.TheVariants.{Stream, TooLong}
use Rattle.aegis_files.specs.declared.range.OpenedRange.{OpenedRange}
use Rattle.aegis_files.specs.declared.range.ContentsRange.{ContentsRange}
use Rattle.aegis_files.specs.Opening.{AreContentsFrom, AreFrom, IsFaultFrom, IsWriteError, OpensRange, RefusesFrom, StopsRange, part_of, part_of_contents}
use Rattle.aegis_files.specs.Private.{FailsNext, ReadsNext, Long, NoMemory, Refused, Unread}
use Rattle.aegis_files.proofs.Reaching.{Reaches, are_from, reaches_more, reaches_none, reaches_size}
use Rattle.aegis_files.proofs.Pieces.{concat-push, counted, part-append, part_nil, read_some}

-- ---- the contents

-- the messages that follow in the contents' stream are those that were read, and others unless the last record was
pub record GoesOn (flag : ℕ) (messages following : List (List ℕ)) : Type 0 where
  pub others : List (List ℕ)
  pub are : following ≡ messages ++ others
  pub ends : flag ≡ 1 → others ≡ []

pub goes_on : (key prefix context : List ℕ) (at : RecordPosition) (flag : ℕ) (messages : List (List ℕ)) (rest f : List ℕ) (following : List (List ℕ)) (contents : List ℕ)
    → AreFrom key prefix context at flag messages rest f → AreContentsFrom key prefix context at following contents f → GoesOn flag messages following
goes_on key prefix context at flag messages rest f following contents r t = go r.known
  where
    s : Sealing
    s = sealed key prefix context

    bytes : (n : ℕ) → flag ≡ n → t.before ++ f ≡ (t.before ++ frames s at n messages) ++ rest
    bytes n e = ap (λ (l : List ℕ). t.before ++ l) (r.are ∙ ap (λ (n : ℕ). frames s at n messages ++ rest) e) ∙ sym (append_assoc t.before (frames s at n messages) rest)

    go : (flag ≡ 0) ⊎ ((flag ≡ 1) × (0 < length messages)) → GoesOn flag messages following
    go (inl zero) =
        let other = begun_beginning (progress_at key prefix context (position_after at messages)) (t.messages ++ messages) (t.before ++ frames s at 0 messages)
        (begun_all key prefix context at messages r.within t.messages t.before t.begun) (t.messages ++ following) rest
        (subst (AreRecordsOfSomeVersion key prefix context (t.messages ++ following)) (bytes 0 zero) t.are) in
        record {
          others = other.0;
          are = append_cancel_left t.messages following (messages ++ other.0) (other.1 ∙ append_assoc t.messages messages other.0);
          ends = λ one. absurd (omega (arith, zero, one));
        }
    go (inr (one, some)) =
        let only = sealed_one_stream key prefix context t.are.0 at.version (t.messages ++ following) (t.messages ++ messages) (t.before ++ f)
        (t.before ++ frames s at 1 messages) [] rest t.are.1 (begun_whole key prefix context at messages r.within some t.messages t.before t.begun)
        (append-nil (t.before ++ f) ∙ bytes 1 one) in
        record {
          others = [];
          are = append_cancel_left t.messages following (messages ++ []) (only.1 ∙ ap (λ (l : List (List ℕ)). t.messages ++ l) (sym (append-nil messages)));
          ends = λ _. refl;
        }

-- the part of the contents is that of the messages, and of what follows them
contents_part : (key prefix context : List ℕ) (range : ContentsRange) (messages following : List (List ℕ)) (contents f : List ℕ) (flag : ℕ)
    → (t : AreContentsFrom key prefix context range.position following contents f) → (on : GoesOn flag messages following)
    → part_of_contents range contents ≡ part_of range messages ++ take (range.length - length (part_of range messages)) (drop (range.skip - length (concat messages)) (concat on.others))
contents_part key prefix context range messages following contents f flag t on =
    grind (arith, concat-append, counted, drop-append-add, part-append)

-- ---- why it fails

pub refuses_from : (key prefix context : List ℕ) (at : RecordPosition) (f : List ℕ) (e : FileError)
    → ((why : RecordError) → e ≡ Stream why → (why ≡ errors.OutOfMemory) ⊎ IsFaultFrom key prefix context at f why) → (e ≡ TooLong → MAX_AEAD_BYTES < start_at at + length f)
    → RefusesFrom key prefix context at f e
refuses_from key prefix context at f e refused too_long = record {
  refused = refused;
  accepted = λ following contents t why is. elim (refused why is) [
    | inl none ↦ none
    | inr fault ↦ absurd ((one_fault (sealed key prefix context) (sealed-is key prefix context)).1 (t.before ++ f) t.are.0 (t.messages ++ following) why t.are.1
        (fault t.messages t.before t.begun))
  ];
  too_long = too_long;
}

pub unwritten : (key prefix context : List ℕ) (at : RecordPosition) (f : List ℕ) (e : FileError) → IsWriteError e → RefusesFrom key prefix context at f e
unwritten key prefix context at f e why = grind (arith, refuses_from)

-- the fault of the rest is that of all
faults_more : (key prefix context : List ℕ) (at : RecordPosition) (p : Progress) (messages : List (List ℕ)) (taken rest f : List ℕ) (why : RecordError)
    → Reaches key prefix context at p false messages taken → f ≡ taken ++ rest
    → ((ms : List (List ℕ)) (before : List ℕ) → Begun p ms before → IsFault p.key p.prefix p.context (before ++ rest) why) → IsFaultFrom key prefix context at f why
faults_more key prefix context at p messages taken rest f why r is fault ms before b =
    subst (λ (l : List ℕ). IsFault key prefix context l why) (append_assoc before taken rest ∙ ap (λ (l : List ℕ). before ++ l) (sym is))
    (subst (λ (q : Progress). IsFault q.key q.prefix q.context ((before ++ taken) ++ rest) why) r.reached
    (fault (ms ++ messages) (before ++ taken) (rw (r.reached, r.are) (begun_all key prefix context at messages r.within ms before b))))

pub fails_from : (key prefix context : List ℕ) (at : RecordPosition) (p : Progress) (messages : List (List ℕ)) (taken rest f : List ℕ) (e : FileError)
    → Reaches key prefix context at p false messages taken → f ≡ taken ++ rest → FailsNext p (Some rest) e → RefusesFrom key prefix context at f e
fails_from key prefix context at p messages taken rest f e r is (Unread read) = grind (arith, refuses_from)
fails_from key prefix context at p messages taken rest f e r is (NoMemory none) = grind (arith, refuses_from)
fails_from key prefix context at p messages taken rest f e r is (Refused why it fault here) =
    let faults = faults_more key prefix context at p messages taken rest f why r is fault in grind (arith, refuses_from)
fails_from key prefix context at p messages taken rest f e r is (Long it past) =
    let size = reaches_size key prefix context at p false messages taken r in grind (arith, refuses_from, length-append)

-- it is the fault of the record after those that were opened
abbrev IsFaultAfter : (key prefix context : List ℕ) (at : RecordPosition) (messages : List (List ℕ)) (rest : List ℕ) (e : FileError) → Type 0
IsFaultAfter key prefix context at messages rest e =
    (why : RecordError) → e ≡ Stream why → (why ≡ errors.OutOfMemory) ⊎ IsFaultAt (sealed key prefix context) (position_after at messages) rest why

fault_after : (key prefix context : List ℕ) (at : RecordPosition) (p : Progress) (messages : List (List ℕ)) (taken rest : List ℕ) (e : FileError)
    → Reaches key prefix context at p false messages taken → FailsNext p (Some rest) e → IsFaultAfter key prefix context at messages rest e
fault_after key prefix context at p messages taken rest e r (Unread read) why is = absurd cc
fault_after key prefix context at p messages taken rest e r (NoMemory none) why is = inl cc
fault_after key prefix context at p messages taken rest e r (Refused other it fault here) why is =
    let same : other ≡ why = cc in
    let reached = subst (λ (q : Progress). q.ended ≡ false → IsFaultAt (sealing_in q) q.position rest other) r.reached here refl in
    inr (subst (λ (f : RecordError). IsFaultAt (sealed key prefix context) (position_after at messages) rest f) same reached)
fault_after key prefix context at p messages taken rest e r (Long it past) why is = absurd cc

no_fault : (key prefix context : List ℕ) (at : RecordPosition) (messages : List (List ℕ)) (rest : List ℕ) (e : FileError) → IsWriteError e → IsFaultAfter key prefix context at messages rest e
no_fault key prefix context at messages rest e written why is = absurd cc

-- ---- between records

-- The messages were read, and the range's part of them was written. `skip` bytes more are left out, and `more` are to be written.
pub record RangeSome (key prefix context : List ℕ) (range : ContentsRange) (p : Progress) (is_last : Bool) (skip more : ℕ) (stream left old new : Option (List ℕ)) : Type 0 where
  pub messages : List (List ℕ)
  pub taken : List ℕ
  pub reads : Reaches key prefix context range.position p is_last messages taken
  pub fits : start_of p ≤ MAX_AEAD_BYTES
  pub read : Consumes stream left taken
  pub written : Appends old new (part_of range messages)
  pub skip_is : skip ≡ range.skip - length (concat messages)
  pub more_is : more ≡ range.length - length (part_of range messages)
  pub needed : (ms : List (List ℕ)) (m : List ℕ) → messages ≡ ms ++ m ∷ [] → 0 < length ms
      → (length (part_of range ms) < range.length) ⊎ (length (concat ms) < range.skip)

-- the same, and one more record is needed
pub record RangeMore (key prefix context : List ℕ) (range : ContentsRange) (p : Progress) (skip more : ℕ) (stream left old new : Option (List ℕ)) : Type 0 where
  pub some : RangeSome key prefix context range p false skip more stream left old new
  pub on : 0 < length some.messages → (0 < more) ⊎ (0 < skip)

pub range_begin : (key prefix context : List ℕ) (range : ContentsRange) (p : Progress) (stream old : Option (List ℕ)) → p ≡ progress_at key prefix context range.position
    → start_at range.position ≤ MAX_AEAD_BYTES → RangeMore key prefix context range p range.skip range.length stream stream old old
range_begin key prefix context range p stream old is fits =
    let none : part_of range [] ≡ [] = part_nil range.skip range.length in
    record {
      some = record {
        messages = [];
        taken = [];
        reads = reaches_none key prefix context range.position p is;
        fits = rw is fits;
        read = Consumes-nil stream;
        written = subst (Appends old old) (sym none) (Appends-nil old);
        skip_is = omega arith;
        more_is = omega (arith, ap length none);
        needed = λ ms m e some. absurd (omega (arith, ap length e, length-append ms (m ∷ [])));
      };
      on = λ some. absurd (omega (arith, some));
    }

-- what is in front of the last of two equal lists
beginning_one : (a b : List (List ℕ)) (x y : List ℕ) → a ++ x ∷ [] ≡ b ++ y ∷ [] → a ≡ b
beginning_one a b x y e =
    let size : length b ≡ length a = omega (arith, ap length e, length-append a (x ∷ []), length-append b (y ∷ [])) in
    sym (take_at a (x ∷ []) (length a) refl) ∙ ap (take (length a)) e ∙ take_at b (y ∷ []) (length a) size

-- the part of messages, and of one more
part_more : (range : ContentsRange) (messages : List (List ℕ)) (m piece : List ℕ) (skip len : ℕ) → skip ≡ range.skip - length (concat messages)
    → len ≡ range.length - length (part_of range messages) → piece ≡ take len (drop skip m) → part_of range (messages ++ m ∷ []) ≡ part_of range messages ++ piece
part_more range messages m piece skip len s l is = grind (arith, concat-push, part-append)

pub range_more : (key prefix context : List ℕ) (range : ContentsRange) (p q : Progress) (is_last : Bool) (skip skip' more more' : ℕ) (stream left left' old new new' : Option (List ℕ)) (m piece : List ℕ)
    → RangeMore key prefix context range p skip more stream left old new → ReadsNext p q left left' is_last m → start_of q ≤ MAX_AEAD_BYTES → piece ≡ take more (drop skip m)
    → Appends new new' piece → skip' ≡ skip - length m → more' ≡ more - length piece
    → (next : RangeSome key prefix context range q is_last skip' more' stream left' old new') × (0 < length next.messages)
range_more key prefix context range p q is_last skip skip' more more' stream left left' old new new' m piece before next fits piece_is written skip_is more_is =
    let s = before.some in
    let parts : part_of range (s.messages ++ m ∷ []) ≡ part_of range s.messages ++ piece = part_more range s.messages m piece skip more s.skip_is s.more_is piece_is in (
      record {
        messages = s.messages ++ m ∷ [];
        taken = s.taken ++ record_of p (last_flag is_last) m;
        reads = reaches_more key prefix context range.position p q is_last s.messages s.taken m s.reads next.progress next.within;
        fits = fits;
        read = Consumes-trans stream left left' s.taken (record_of p (last_flag is_last) m) s.read next.read;
        written = subst (Appends old new') (sym parts) (Appends-trans old new new' (part_of range s.messages) piece s.written written);
        skip_is = omega (arith, skip_is, s.skip_is, ap length (concat-push s.messages m), length-append (concat s.messages) m);
        more_is = omega (arith, more_is, s.more_is, ap length parts, length-append (part_of range s.messages) piece);
        needed = λ ms n e some. needed ms (beginning_one s.messages ms m n e) some;
      },
      omega (arith, length-append s.messages (m ∷ [])),
    )
  where
    needed : (ms : List (List ℕ)) → before.some.messages ≡ ms → 0 < length ms → (length (part_of range ms) < range.length) ⊎ (length (concat ms) < range.skip)
    needed ms is some =
        let on = before.on in
        let left_out = before.some.skip_is in
        let to_write = before.some.more_is in
        grind arith

pub range_end : (key prefix context : List ℕ) (range : ContentsRange) (p : Progress) (is_last : Bool) (skip more : ℕ) (opened : OpenedRange) (stream left old new : Option (List ℕ))
    → (s : RangeSome key prefix context range p is_last skip more stream left old new) → 0 < length s.messages → (is_last ≡ true) ⊎ ((more ≡ 0) × (skip ≡ 0))
    → opened.length ≡ range.length - more → opened.end ≡ p.position → opened.is_last ≡ is_last
    → IfSome stream (λ f. OpensRange key prefix context range opened f left old new)
range_end key prefix context range p is_last skip more opened stream left old new s some done written_is end_is last_is = read_some stream left s.taken _ s.read opens
  where
    whole : (opened.is_last ≡ true) ⊎ ((opened.length ≡ range.length) × (range.skip ≤ length (concat s.messages)))
    whole = let left_out = s.skip_is in grind arith

    no_more : (others : List (List ℕ)) → (last_flag is_last ≡ 1 → others ≡ [])
        → take (range.length - length (part_of range s.messages)) (drop (range.skip - length (concat s.messages)) (concat others)) ≡ []
    no_more others ends = let to_write = s.more_is in grind (arith, part_nil)

    opens : (f rest : List ℕ) → stream ≡ Some f → f ≡ s.taken ++ rest → left ≡ Some rest → OpensRange key prefix context range opened f left old new
    opens f rest known is after =
        let records = are_from key prefix context range.position p is_last s.messages s.taken rest f s.reads is in
        let end : opened.end ≡ position_after range.position s.messages = end_is ∙ ap (λ (q : Progress). q.position) s.reads.reached in
        record {
          messages = s.messages;
          rest = rest;
          records = subst (λ (b : Bool). AreFrom key prefix context range.position (last_flag b) s.messages rest f) (sym last_is) records;
          some = some;
          written = s.written;
          count = omega (arith, written_is, s.more_is, length-take range.length (drop range.skip (concat s.messages)));
          ended = end;
          fits = rw end_is s.fits;
          whole = whole;
          read = after;
          needed = s.needed;
          of_contents = λ following contents t.
              let on = goes_on key prefix context range.position (last_flag is_last) s.messages rest f following contents records t in
              sym (contents_part key prefix context range s.messages following contents f (last_flag is_last) t on ∙ ap (λ (l : List ℕ). part_of range s.messages ++ l) (no_more on.others on.ends)
              ∙ append-nil (part_of range s.messages));
        }

-- ---- it fails

stopped : (key prefix context : List ℕ) (range : ContentsRange) (p : Progress) (is_last : Bool) (messages : List (List ℕ)) (taken f rest begun more : List ℕ) (old new : Option (List ℕ)) (e : FileError)
    → Reaches key prefix context range.position p is_last messages taken → start_of p ≤ MAX_AEAD_BYTES → f ≡ taken ++ rest → Appends old new begun
    → part_of range messages ≡ begun ++ more → (more ≡ []) ⊎ IsWriteError e → IsFaultAfter key prefix context range.position messages rest e
    → RefusesFrom key prefix context range.position f e → StopsRange key prefix context range f old new e
stopped key prefix context range p is_last messages taken f rest begun more old new e r fits is written parts all fault refuses =
    let records = are_from key prefix context range.position p is_last messages taken rest f r is in
    record {
      messages = messages;
      flag = last_flag is_last;
      rest = rest;
      records = records;
      fits = subst (λ (q : Progress). start_of q ≤ MAX_AEAD_BYTES) r.reached fits;
      begun = begun;
      written = written;
      of_messages = (more, parts, all);
      of_contents = λ following contents t.
          let on = goes_on key prefix context range.position (last_flag is_last) messages rest f following contents records t in
          let others : List ℕ = take (range.length - length (part_of range messages)) (drop (range.skip - length (concat messages)) (concat on.others)) in (
            more ++ others,
            contents_part key prefix context range messages following contents f (last_flag is_last) t on ∙ ap (λ (l : List ℕ). l ++ others) parts ∙ append_assoc begun more others,
          );
      fault = fault;
      refuses = refuses;
    }

pub stops_next : (key prefix context : List ℕ) (range : ContentsRange) (p : Progress) (skip more : ℕ) (stream left old new : Option (List ℕ)) (e : FileError)
    → RangeSome key prefix context range p false skip more stream left old new → FailsNext p left e
    → IfSome stream (λ f. StopsRange key prefix context range f old new e)
stops_next key prefix context range p skip more stream left old new e s why = read_some stream left s.taken _ s.read (λ f rest known is after.
    stopped key prefix context range p false s.messages s.taken f rest (part_of range s.messages) [] old new e s.reads s.fits is s.written
    (sym (append-nil (part_of range s.messages))) (inl refl)
    (fault_after key prefix context range.position p s.messages s.taken rest e s.reads (subst (λ l. FailsNext p l e) after why))
    (fails_from key prefix context range.position p s.messages s.taken rest f e s.reads is (subst (λ l. FailsNext p l e) after why)))

pub stops_write : (key prefix context : List ℕ) (range : ContentsRange) (p q : Progress) (is_last : Bool) (skip more n : ℕ) (stream left left' old new new' : Option (List ℕ)) (m piece : List ℕ) (e : FileError)
    → RangeMore key prefix context range p skip more stream left old new → ReadsNext p q left left' is_last m → start_of q ≤ MAX_AEAD_BYTES → piece ≡ take more (drop skip m)
    → Appends new new' (take n piece) → IsWriteError e → IfSome stream (λ f. StopsRange key prefix context range f old new' e)
stops_write key prefix context range p q is_last skip more n stream left left' old new new' m piece e before next fits piece_is written why =
    let s = before.some in
    let record_bytes : List ℕ = record_of p (last_flag is_last) m in
    let so_far : List ℕ = part_of range s.messages in
    read_some stream left' (s.taken ++ record_bytes) _ (Consumes-trans stream left left' s.taken record_bytes s.read next.read) (λ f rest known is after.
    stopped key prefix context range q is_last (s.messages ++ m ∷ []) (s.taken ++ record_bytes) f rest (so_far ++ take n piece) (drop n piece) old new' e
    (reaches_more key prefix context range.position p q is_last s.messages s.taken m s.reads next.progress next.within) fits is
    (Appends-trans old new new' so_far (take n piece) s.written written)
    (part_more range s.messages m piece skip more s.skip_is s.more_is piece_is ∙ ap (λ (l : List ℕ). so_far ++ l) (sym (take-append-drop n piece))
    ∙ sym (append_assoc so_far (take n piece) (drop n piece)))
    (inr why) (no_fault key prefix context range.position (s.messages ++ m ∷ []) rest e why) (unwritten key prefix context range.position f e why))
