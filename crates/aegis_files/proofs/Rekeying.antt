-- The facts that hold between two records that are sealed anew, and those that hold if that fails.
use Rattle.std.proofs.Common.{◌≡◌, ◌⊎◌, ℕ, ◌+◌, ◌≤◌, Bool, true, false, List, [], ◌∷◌, ◌++◌, Option, Some, IfSome, OnOk, Result, drop, length, take, refl, sym, ap, subst, ◌∙◌, append_assoc, arith, inl, inr}
use Rattle.std.proofs.KnownBytes.{Appends-nil, Appends-trans, Consumes-nil, Consumes-trans}
use Rattle.std.proofs.lemmas.List.{append-nil, length-append, take-append-drop}
use Rattle.std.specs.Io.KnownBytes.{Appends, Consumes, IsAtEnd}
use Rattle.std.specs.List.{concat}
use Rattle.aegis_base.specs.declared.error.TheConstants.{MAX_AEAD_BYTES}
use Rattle.aegis.specs.declared.record.error.RecordError.TheVariants as errors
use Rattle.aegis.specs.declared.record.length.TheConstants.{RECORD_BYTES}
use Rattle.aegis.specs.declared.record.version.Version.TheVariants.{Second}
use Rattle.aegis.specs.RecordResults.{Progress, progress_after, last_flag, progress_at, record_of, start_of}
use Rattle.aegis.specs.RecordStream.{AreWithin, beginning, first_position, header, limit, sealed}
use Rattle.aegis_files.specs.declared.error.FileError.{FileError}
use Rattle.aegis_files.specs.declared.error.FileError.TheVariants.{Stream}
use Rattle.aegis_files.specs.Opening.{AreFrom, AreInFile, IsFileWithPrefix, IsRekeyed, IsSealedFile, IsWriteError, RefusesFile, RekeysBeginning}
use Rattle.aegis_files.specs.Private.{FailsNext, LeavesSome, ReadsNext}
use Rattle.aegis_files.proofs.Files.{refuses_file, refuses_more, under, known_head, no_head, under_err}
use Rattle.aegis_files.proofs.Pieces.{at_end, read_some, some_with}
use Rattle.aegis_files.proofs.Ranges.{fails_from, refuses_from, unwritten}
use Rattle.aegis_files.proofs.Reaching.{Reaches, are_from, reaches_more, reaches_none, reaches_size, reaches_start, reaches_stream, reaches_version}
use Rattle.aegis_files.proofs.Sealing.{opens_whole}

-- The records `taken` of the old file were read. Their messages are sealed anew, as the records `made`: of the new prefix, the header
-- and these the bytes `sent` were written, and `pending` is not written yet.
pub record RekeysSome (p q : Progress) (key prefix new_key new_prefix context : List ℕ) (stream left old new : Option (List ℕ)) (pending : List ℕ) : Type 0 where
  pub messages : List (List ℕ)
  pub taken : List ℕ
  pub made : List ℕ
  pub sent : List ℕ
  pub opened : Reaches key prefix context (first_position Second) p false messages taken
  pub sealed : Reaches new_key new_prefix context (first_position Second) q false messages made
  pub read : Consumes stream left taken
  pub all : new_prefix ++ (header Second ++ made) ≡ sent ++ pending
  pub written : Appends old new sent

pub rekeys_begin : (p q : Progress) (key prefix new_key new_prefix context : List ℕ) (stream old : Option (List ℕ)) (pending : List ℕ) → p ≡ progress_at key prefix context (first_position Second)
    → q ≡ progress_at new_key new_prefix context (first_position Second) → pending ≡ new_prefix ++ header Second
    → RekeysSome p q key prefix new_key new_prefix context stream stream old old pending
rekeys_begin p q key prefix new_key new_prefix context stream old pending opened sealed is = record {
  messages = [];
  taken = [];
  made = [];
  sent = [];
  opened = reaches_none key prefix context (first_position Second) p opened;
  sealed = reaches_none new_key new_prefix context (first_position Second) q sealed;
  read = Consumes-nil stream;
  all = sym is;
  written = Appends-nil old;
}

-- The next record starts at the same byte in both streams, so it fits into the new one.
pub next_fits : (p p' q : Progress) (last : Bool) (key prefix new_key new_prefix context : List ℕ) (stream left left' old new : Option (List ℕ)) (pending m : List ℕ)
    → RekeysSome p q key prefix new_key new_prefix context stream left old new pending → ReadsNext p p' left left' last m → start_of p' ≤ MAX_AEAD_BYTES
    → start_of q + (RECORD_BYTES + length m) ≤ MAX_AEAD_BYTES
next_fits p p' q last key prefix new_key new_prefix context stream left left' old new pending m s next room =
    grind (arith, reaches_start)

-- one more record in either file
opened_next : (p p' q : Progress) (last : Bool) (key prefix new_key new_prefix context : List ℕ) (stream left left' old new : Option (List ℕ)) (pending m : List ℕ)
    → (s : RekeysSome p q key prefix new_key new_prefix context stream left old new pending) → ReadsNext p p' left left' last m
    → Reaches key prefix context (first_position Second) p' last (s.messages ++ m ∷ []) (s.taken ++ record_of p (last_flag last) m)
opened_next p p' q last key prefix new_key new_prefix context stream left left' old new pending m s next =
    reaches_more key prefix context (first_position Second) p p' last s.messages s.taken m s.opened next.progress next.within

sealed_next : (p p' q q' : Progress) (last : Bool) (key prefix new_key new_prefix context : List ℕ) (stream left left' old new : Option (List ℕ)) (pending m : List ℕ)
    → (s : RekeysSome p q key prefix new_key new_prefix context stream left old new pending) → ReadsNext p p' left left' last m → q' ≡ progress_after q last m
    → Reaches new_key new_prefix context (first_position Second) q' last (s.messages ++ m ∷ []) (s.made ++ record_of q (last_flag last) m)
sealed_next p p' q q' last key prefix new_key new_prefix context stream left left' old new pending m s next is =
    reaches_more new_key new_prefix context (first_position Second) q q' last s.messages s.made m s.sealed is
    (subst (λ v. length m ≤ limit v) (reaches_version key prefix context (first_position Second) p false s.messages s.taken s.opened
    ∙ sym (reaches_version new_key new_prefix context (first_position Second) q false s.messages s.made s.sealed)) next.within)

-- bytes that were pending are written before the record
joined : (new_prefix made sent pending bytes out : List ℕ) → new_prefix ++ (header Second ++ made) ≡ sent ++ pending → out ≡ pending ++ bytes
    → new_prefix ++ (header Second ++ (made ++ bytes)) ≡ sent ++ out
joined new_prefix made sent pending bytes out all is = grind (arith, append_assoc)

pub rekeys_more : (p p' q q' : Progress) (key prefix new_key new_prefix context : List ℕ) (stream left left' old new new' : Option (List ℕ)) (pending m out none : List ℕ)
    → RekeysSome p q key prefix new_key new_prefix context stream left old new pending → ReadsNext p p' left left' false m
    → q' ≡ progress_after q false m → out ≡ pending ++ record_of q 0 m → Appends new new' out → none ≡ []
    → RekeysSome p' q' key prefix new_key new_prefix context stream left' old new' none
rekeys_more p p' q q' key prefix new_key new_prefix context stream left left' old new new' pending m out none s next is out_is written cleared = record {
  messages = s.messages ++ m ∷ [];
  taken = s.taken ++ record_of p 0 m;
  made = s.made ++ record_of q 0 m;
  sent = s.sent ++ out;
  opened = opened_next p p' q false key prefix new_key new_prefix context stream left left' old new pending m s next;
  sealed = sealed_next p p' q q' false key prefix new_key new_prefix context stream left left' old new pending m s next is;
  read = Consumes-trans stream left left' s.taken (record_of p 0 m) s.read next.read;
  all = joined new_prefix s.made s.sent pending (record_of q 0 m) out s.all out_is ∙ sym (append-nil (s.sent ++ out)) ∙ ap (λ (l : List ℕ). (s.sent ++ out) ++ l) (sym cleared);
  written = Appends-trans old new new' s.sent out s.written written;
}

-- ---- the last record

-- all of the old file was read
whole_read : (p q p' : Progress) (key prefix new_key new_prefix context f : List ℕ) (stream left left' old new : Option (List ℕ)) (pending m rest : List ℕ)
    → (s : RekeysSome p q key prefix new_key new_prefix context stream left old new pending) → ReadsNext p p' left left' true m → IsAtEnd left'
    → f ≡ (s.taken ++ record_of p 1 m) ++ rest → left' ≡ Some rest
    → IsFileWithPrefix key prefix context (concat (s.messages ++ m ∷ [])) (prefix ++ (header Second ++ f))
whole_read p q p' key prefix new_key new_prefix context f stream left left' old new pending m rest s next end is known = record {
  messages = s.messages ++ m ∷ [];
  stream = header Second ++ f;
  are =
      let none = at_end rest left' known end in
      let r = opened_next p p' q true key prefix new_key new_prefix context stream left left' old new pending m s next in
      grind (arith, reaches_stream, append-nil);
  contents_is = refl;
  file_is = refl;
}

pub rekeys_end : (p p' q : Progress) (key prefix new_key new_prefix context : List ℕ) (stream left left' old new new' : Option (List ℕ)) (pending m out : List ℕ) → length prefix ≡ 24 → length new_prefix ≡ 24
    → RekeysSome p q key prefix new_key new_prefix context stream left old new pending → ReadsNext p p' left left' true m → start_of p' ≤ MAX_AEAD_BYTES
    → IsAtEnd left' → out ≡ pending ++ record_of q 1 m → Appends new new' out
    → IfSome stream (λ f. (file : List ℕ) × IsRekeyed key new_key new_prefix context (prefix ++ (header Second ++ f)) file × Appends old new' file)
unfolding whole_read
rekeys_end p p' q key prefix new_key new_prefix context stream left left' old new new' pending m out long new_long s next fits end out_is written =
    read_some stream left' taken _ (Consumes-trans stream left left' s.taken (record_of p 1 m) s.read next.read) (λ f rest known is after_it.
    let whole = whole_read p q p' key prefix new_key new_prefix context f stream left left' old new pending m rest s next end is after_it in
    let size : length f ≡ length taken = ap length (is ∙ ap (λ (l : List ℕ). taken ++ l) (at_end rest left' after_it end) ∙ append-nil taken) in (
      new_prefix ++ (header Second ++ made),
      record {
        contents = concat ms;
        old = record { prefix = prefix; long = long; is = whole };
        new = record {
          messages = ms;
          stream = header Second ++ made;
          are = reaches_stream new_key new_prefix context (progress_after q true m) ms made sealed_all;
          contents_is = refl;
          file_is = refl;
        };
        pieces = refl;
        size =
            omega (
              arith,
              long,
              new_long,
              size,
              same_size,
              length-append prefix (header Second ++ f),
              length-append (header Second) f,
              length-append new_prefix (header Second ++ made),
              length-append (header Second) made,
            );
        fits =
            omega (
              arith,
              long,
              size,
              fits,
              reaches_size key prefix context (first_position Second) p' true ms taken opened_all,
              length-append prefix (header Second ++ f),
              length-append (header Second) f,
            );
      },
      subst (Appends old new') (sym (joined new_prefix s.made s.sent pending (record_of q 1 m) out s.all out_is)) (Appends-trans old new new' s.sent out s.written written),
    ))
  where
    ms : List (List ℕ)
    ms = s.messages ++ m ∷ []

    taken : List ℕ
    taken = s.taken ++ record_of p 1 m

    made : List ℕ
    made = s.made ++ record_of q 1 m

    opened_all : Reaches key prefix context (first_position Second) p' true ms taken
    opened_all = opened_next p p' q true key prefix new_key new_prefix context stream left left' old new pending m s next

    sealed_all : Reaches new_key new_prefix context (first_position Second) (progress_after q true m) true ms made
    sealed_all = sealed_next p p' q (progress_after q true m) true key prefix new_key new_prefix context stream left left' old new pending m s next refl

    same_size : length taken ≡ length made
    same_size =
        omega (
          arith,
          reaches_size key prefix context (first_position Second) p' true ms taken opened_all,
          reaches_start key prefix context (first_position Second) p' true ms taken opened_all,
          reaches_size new_key new_prefix context (first_position Second) (progress_after q true m) true ms made sealed_all,
          reaches_start new_key new_prefix context (first_position Second) (progress_after q true m) true ms made sealed_all,
        )

-- ---- it fails

stops : (key new_key new_prefix context file begun rest : List ℕ) (ms : List (List ℕ)) (flag : ℕ) (old new : Option (List ℕ)) (e : FileError) → length new_prefix ≡ 24
    → AreWithin Second ms → new_prefix ++ beginning (sealed new_key new_prefix context) Second flag ms ≡ begun ++ rest → Appends old new begun
    → (ms ≡ []) ⊎ AreInFile key context file ms → (flag ≡ 0) ⊎ ((flag ≡ 1) × IsSealedFile key context (concat ms) file × IsWriteError e) → RefusesFile key context file e
    → RekeysBeginning key new_key new_prefix context file old new e
stops key new_key new_prefix context file begun rest ms flag old new e long within is written verified ends refuses = record {
  begun = begun;
  written = written;
  messages = ms;
  flag = flag;
  of_file = (rest, is);
  verified = verified;
  ends = ends;
  opens = λ other it.
      let whole = opens_whole new_key new_prefix context begun rest other ms flag (IsSealedFile key context (concat ms) file) (IsWriteError e) long within is ends it in
      (subst (λ (l : List ℕ). IsSealedFile key context l file) (sym whole.0) whole.1, whole.2);
  refuses = refuses;
}

pub nothing_sent : (key new_key new_prefix context file : List ℕ) (old : Option (List ℕ)) (e : FileError) → length new_prefix ≡ 24 → RefusesFile key context file e
    → RekeysBeginning key new_key new_prefix context file old old e
nothing_sent key new_key new_prefix context file old e long refuses =
    stops key new_key new_prefix context file [] _ [] 0 old old e long tt refl (Appends-nil old) (inl refl) (inl refl) refuses

in_file : (key prefix context f rest : List ℕ) (ms : List (List ℕ)) (flag : ℕ) → length prefix ≡ 24 → AreFrom key prefix context (first_position Second) flag ms rest f
    → AreInFile key context (prefix ++ (header Second ++ f)) ms
in_file key prefix context f rest ms flag long r = record { prefix = prefix; long = long; bytes = f; file_is = refl; flag = flag; rest = rest; records = r }

-- no memory
pub no_memory : (key prefix context f : List ℕ) (e : FileError) → length prefix ≡ 24 → e ≡ Stream errors.OutOfMemory → RefusesFile key context (prefix ++ (header Second ++ f)) e
no_memory key prefix context f e long is = refuses_file key prefix context f e long (refuses_from key prefix context (first_position Second) f e (λ d it. inl cc) (λ it. absurd cc))

pub none_at_first : (key prefix new_key new_prefix context : List ℕ) (stream old : Option (List ℕ)) (e : FileError) → length prefix ≡ 24 → length new_prefix ≡ 24 → e ≡ Stream errors.OutOfMemory
    → IfSome stream (λ f. RekeysBeginning key new_key new_prefix context (prefix ++ (header Second ++ f)) old old e)
none_at_first key prefix new_key new_prefix context stream old e long new_long is = grind (arith, nothing_sent, no_memory)

-- between two records
between : (p q : Progress) (key prefix new_key new_prefix context : List ℕ) (stream left old new : Option (List ℕ)) (pending f rest : List ℕ) (e : FileError) → length prefix ≡ 24 → length new_prefix ≡ 24
    → (s : RekeysSome p q key prefix new_key new_prefix context stream left old new pending) → f ≡ s.taken ++ rest → RefusesFile key context (prefix ++ (header Second ++ f)) e
    → RekeysBeginning key new_key new_prefix context (prefix ++ (header Second ++ f)) old new e
between p q key prefix new_key new_prefix context stream left old new pending f rest e long new_long s is refuses =
    grind (arith, stops, in_file, are_from)

pub stops_memory : (p q : Progress) (key prefix new_key new_prefix context : List ℕ) (stream left old new : Option (List ℕ)) (pending : List ℕ) (e : FileError) → length prefix ≡ 24 → length new_prefix ≡ 24
    → RekeysSome p q key prefix new_key new_prefix context stream left old new pending → e ≡ Stream errors.OutOfMemory
    → IfSome stream (λ f. RekeysBeginning key new_key new_prefix context (prefix ++ (header Second ++ f)) old new e)
stops_memory p q key prefix new_key new_prefix context stream left old new pending e long new_long s is = read_some stream left s.taken _ s.read (λ f rest known f_is after_it.
    between p q key prefix new_key new_prefix context stream left old new pending f rest e long new_long s f_is (no_memory key prefix context f e long is))

pub stops_next : (p q : Progress) (key prefix new_key new_prefix context : List ℕ) (stream left old new : Option (List ℕ)) (pending : List ℕ) (e : FileError) → length prefix ≡ 24 → length new_prefix ≡ 24
    → RekeysSome p q key prefix new_key new_prefix context stream left old new pending → FailsNext p left e
    → IfSome stream (λ f. RekeysBeginning key new_key new_prefix context (prefix ++ (header Second ++ f)) old new e)
stops_next p q key prefix new_key new_prefix context stream left old new pending e long new_long s why = read_some stream left s.taken _ s.read (λ f rest known is after_it.
    between p q key prefix new_key new_prefix context stream left old new pending f rest e long new_long s is (refuses_file key prefix context f e long
    (fails_from key prefix context (first_position Second) p s.messages s.taken rest f e s.opened is (subst (λ l. FailsNext p l e) after_it why))))

pub stops_end : (p p' q : Progress) (key prefix new_key new_prefix context : List ℕ) (stream left left' old new : Option (List ℕ)) (pending m : List ℕ) (e : FileError) → length prefix ≡ 24
    → length new_prefix ≡ 24 → RekeysSome p q key prefix new_key new_prefix context stream left old new pending → ReadsNext p p' left left' true m → LeavesSome left' e
    → IfSome stream (λ f. RekeysBeginning key new_key new_prefix context (prefix ++ (header Second ++ f)) old new e)
stops_end p p' q key prefix new_key new_prefix context stream left left' old new pending m e long new_long s next why =
    read_some stream left' (s.taken ++ record_of p 1 m) _ (Consumes-trans stream left left' s.taken (record_of p 1 m) s.read next.read) (λ f rest known is after_it.
    between p q key prefix new_key new_prefix context stream left old new pending f (record_of p 1 m ++ rest) e long new_long s (is ∙ append_assoc s.taken (record_of p 1 m) rest)
    (refuses_more key prefix context f rest (s.messages ++ m ∷ []) 1 left' e long
    (are_from key prefix context (first_position Second) p' true (s.messages ++ m ∷ []) (s.taken ++ record_of p 1 m) rest f
    (opened_next p p' q true key prefix new_key new_prefix context stream left left' old new pending m s next) is) refl after_it why))

-- at a record, of which n bytes were written with those that were pending
cut : (sent out : List ℕ) (n : ℕ) → sent ++ out ≡ (sent ++ take n out) ++ drop n out
cut sent out n = grind (arith, take-append-drop, append_assoc)

pub stops_writing : (p p' q : Progress) (last : Bool) (key prefix new_key new_prefix context : List ℕ) (stream left left' old new new' : Option (List ℕ)) (pending m out : List ℕ) (n : ℕ) (e : FileError)
    → length prefix ≡ 24 → length new_prefix ≡ 24 → RekeysSome p q key prefix new_key new_prefix context stream left old new pending → ReadsNext p p' left left' last m
    → (last ≡ true → IsAtEnd left') → out ≡ pending ++ record_of q (last_flag last) m → Appends new new' (take n out) → IsWriteError e
    → IfSome stream (λ f. RekeysBeginning key new_key new_prefix context (prefix ++ (header Second ++ f)) old new' e)
stops_writing p p' q last key prefix new_key new_prefix context stream left left' old new new' pending m out n e long new_long s next end out_is written why =
    let ms : List (List ℕ) = s.messages ++ m ∷ [] in
    let taken : List ℕ = s.taken ++ record_of p (last_flag last) m in
    let made = sealed_next p p' q (progress_after q last m) last key prefix new_key new_prefix context stream left left' old new pending m s next refl in
    let read = opened_next p p' q last key prefix new_key new_prefix context stream left left' old new pending m s next in
    read_some stream left' taken _ (Consumes-trans stream left left' s.taken (record_of p (last_flag last) m) s.read next.read) (λ f rest known is left_is.
    stops key new_key new_prefix context _ (s.sent ++ take n out) (drop n out) ms (last_flag last) old new' e new_long made.within
    (ap (λ (l : List ℕ). new_prefix ++ (header Second ++ l)) (sym made.are) ∙ joined new_prefix s.made s.sent pending (record_of q (last_flag last) m) out s.all out_is ∙ cut s.sent out n)
    (Appends-trans old new new' s.sent (take n out) s.written written)
    (inr (in_file key prefix context f rest ms (last_flag last) long (are_from key prefix context (first_position Second) p' last ms taken rest f read is)))
    (ends last next end f rest is left_is) (refuses_file key prefix context f e long (unwritten key prefix context (first_position Second) f e why)))
  where
    ends : (last : Bool) → ReadsNext p p' left left' last m → (last ≡ true → IsAtEnd left') → (f rest : List ℕ) → f ≡ (s.taken ++ record_of p (last_flag last) m) ++ rest → left' ≡ Some rest
        → (last_flag last ≡ 0) ⊎ ((last_flag last ≡ 1) × IsSealedFile key context (concat (s.messages ++ m ∷ [])) (prefix ++ (header Second ++ f)) × IsWriteError e)
    ends false next end f rest is left_is = inl refl
    ends true next end f rest is left_is =
        let whole = whole_read p q p' key prefix new_key new_prefix context f stream left left' old new pending m rest s next (end refl) is left_is in
        inr (refl, record { prefix = prefix; long = long; is = whole }, why)

-- ---- the old file

pub result_rekeyed : {T : Type 0} (key prefix new_key new_prefix context : List ℕ) (file left old new : Option (List ℕ)) (r : Result T FileError) → length prefix ≡ 24
    → Consumes file left (prefix ++ header Second)
    → OnOk r (IfSome left (λ f. (new_file : List ℕ) × IsRekeyed key new_key new_prefix context (prefix ++ (header Second ++ f)) new_file × Appends old new new_file))
    → OnOk r (IfSome file (λ f. (new_file : List ℕ) × IsRekeyed key new_key new_prefix context f new_file × Appends old new new_file))
result_rekeyed key prefix new_key new_prefix context file left old new r long read s = grind (arith, under, some_with)

-- what sealing a file anew uses
pub ruleset rekey_laws = (known_head, no_head, under_err, nothing_sent, result_rekeyed)
