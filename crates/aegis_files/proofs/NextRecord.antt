-- The next record is read, and opened where it lies.
use Rattle.std.proofs.Common.{◌≡◌, ℕ, ◌+◌, ◌<◌, ◌≤◌, Bool, false, List, [], ◌++◌, Option, Err, drop, length, take, refl, sym, ap, subst, ◌∙◌, arith}
use Rattle.std.proofs.lemmas.List.{append-nil, drop-append-le, length-append, length-drop, nil_from_length, take-append-drop, take-append-le, take-take}
use Rattle.std.specs.Bool.{OnFalse, OnTrue}
use Rattle.std.specs.Io.KnownBytes.{Consumes, IsAtEnd}
use Rattle.aegis.proofs.Reading.{fault_more}
use Rattle.aegis.proofs.Stepwise.{begun_parts, length-record}
use Rattle.aegis.specs.RecordResults.{IsFirstFault, IsRecordFault, OpensNext, Progress, last_flag, message_of, record_of, sealing_in}
use Rattle.aegis.specs.RecordStream.{IsFault, limit, parts}
use Rattle.aegis.specs.declared.record.error.RecordError.{RecordError}
use Rattle.aegis.specs.declared.record.error.RecordError.TheVariants as errors
use Rattle.aegis.specs.declared.record.record_opener.in_place.OpenedInPlace.{OpenedInPlace}
use Rattle.aegis.specs.declared.record.version.TheConstants.{MAX_MESSAGE_BYTES}
use Rattle.aegis.specs.declared.record.version.Version.{Version}
use Rattle.aegis_files.specs.declared.error.FileError.TheVariants.{Stream}
use Rattle.aegis_files.specs.Private.{FailsNext, ReadsNext, ReadsPart, Refused}
use Rattle.aegis_files.proofs.Pieces.{at_end, read_some}

-- ---- what was read

-- the head, and the bytes after it
pub begins : (n len : ℕ) (head old new : List ℕ) (left left' : Option (List ℕ)) → head ≡ take 5 old → ReadsPart old new 5 len n left left'
    → head ++ drop 5 (take n new) ≡ take n new
begins n len head old new left left' is r =
    ap (λ (l : List ℕ). l ++ drop 5 (take n new)) (is ∙ sym r.kept ∙ sym (take-take 5 n new r.above)) ∙ take-append-drop 5 (take n new)

-- no more bytes than the record has
pub only_record : (p : Progress) (flag : ℕ) (m rest all : List ℕ) (len : ℕ) → length all ≤ len → all ≡ record_of p flag m ++ rest → length (record_of p flag m) ≡ len
    → rest ≡ []
only_record p flag m rest all len within is long = grind (arith, length-append, nil_from_length)

pub too_short : (p : Progress) (flag : ℕ) (m rest all : List ℕ) → length all < 37 → all ≡ record_of p flag m ++ rest → rest ≡ []
too_short p flag m rest all short is = grind (arith, length-append, length-record)

pub within_limit : (v : Version) (n : ℕ) → n ≤ limit v → n ≤ MAX_MESSAGE_BYTES
within_limit v n low = grind arith

-- ---- the record is opened

flagged : (p : Progress) (last : Bool) (found m rest : List ℕ) → OnFalse last (found ≡ record_of p 0 m ++ rest) → OnTrue last (found ≡ record_of p 1 m ++ rest)
    → found ≡ record_of p (last_flag last) m ++ rest
flagged p last found m rest next whole = grind arith

pub reads_next : (p q : Progress) (last : Bool) (left left' : Option (List ℕ)) (found m rest : List ℕ) → Consumes left left' found → OpensNext p q found last m rest
    → ((flag : ℕ) → length m ≤ MAX_MESSAGE_BYTES → found ≡ record_of p flag m ++ rest → rest ≡ []) → ReadsNext p q left left' last m
reads_next p q last left left' found m rest read opens alone =
    let bytes : List ℕ = record_of p (last_flag last) m in
    let is = flagged p last found m rest opens.next opens.last in
    let none = alone (last_flag last) (within_limit p.position.version (length m) opens.within) is in
    let all : found ≡ bytes = is ∙ ap (λ (l : List ℕ). bytes ++ l) none ∙ append-nil bytes in
    record { read = subst (Consumes left left') all read; progress = opens.progress; within = opens.within }

-- the message in the record's part of the buffer
pub message_kept : (opened : OpenedInPlace) (part after : List ℕ) → 5 + opened.message_len ≤ length part → message_of opened part ≡ message_of opened (part ++ after)
message_kept opened part after fits = grind (arith, drop-append-le, take-append-le, length-drop)

-- ---- it is refused

pub head_refused : (p : Progress) (left left' : Option (List ℕ)) (head : List ℕ) (e : RecordError) → Consumes left left' head
    → ((body : List ℕ) → parts p.position.version (head ++ body) ≡ Err e) → FailsNext p left (Stream e)
head_refused p left left' head e read refused = Refused e refl (read_some left left' head _ read
    (λ all rest known is end ms before b. subst (λ (l : List ℕ). IsFault p.key p.prefix p.context (before ++ l) e) (sym is)
    (begun_parts p (head ++ rest) e (refused rest) ms before b)))
    (read_some left left' head _ read (λ all rest known is end unended. rw (is, refused rest) refl))

-- no bytes were left
parts_none : (v : Version) → parts v [] ≡ Err errors.Truncated
unfolding parts
parts_none v = refl

pub not_opened : (p : Progress) (left left' : Option (List ℕ)) (found : List ℕ) (e : RecordError) → Consumes left left' found → IsFirstFault p found e
    → (p.ended ≡ false → IsRecordFault p found e) → (e ≡ errors.Truncated → IsAtEnd left') → FailsNext p left (Stream e)
not_opened p left left' found e read fault here end = Refused e refl (read_some left left' found _ read
    (λ all rest known is after ms before b. subst (λ (l : List ℕ). IsFault p.key p.prefix p.context (before ++ l) e) (sym is)
    (fault ms before rest b (λ cut. at_end rest left' after (end cut)))))
    (read_some left left' found _ read (λ all rest known is after unended. subst (λ (l : List ℕ). IsRecordFault p l e) (sym is)
    (fault_more (sealing_in p) p.position found rest e (here unended) (λ cut. at_end rest left' after (end cut)))))

pub nothing_left : (p : Progress) (left left' : Option (List ℕ)) → Consumes left left' [] → (parts p.position.version [] ≡ Err errors.Truncated → IsAtEnd left')
    → FailsNext p left (Stream errors.Truncated)
nothing_left p left left' read end = not_opened p left left' [] errors.Truncated read
    (λ ms before more b none. begun_parts p more errors.Truncated (ap (parts p.position.version) (none refl) ∙ parts_none p.position.version) ms before b)
    (λ _. rw (parts_none p.position.version) refl)
    (λ _. end (parts_none p.position.version))
