-- A stream that is sealed or opened a record at a time: so far, and after one more record.
use Rattle.std.proofs.Common.{◌≡◌, ◌≢◌, ◌⊎◌, ℕ, zero, suc, ◌+◌, ◌==◌, ◌<◌, ◌≤◌, Bool, true, false, List, [], ◌∷◌, ◌++◌, length, take, drop, get_or, Result, Ok, Err, refl, sym, ap, subst, ◌∙◌, append_assoc, arith, inl, inr, nat_eq}
use Rattle.std.proofs.lemmas.Bool.{true≢false, cases_lt}
use Rattle.std.proofs.lemmas.Bool.Decides.{eqb_tells}
use Rattle.std.proofs.lemmas.List.{append-nil, length-append, nil_from_length, take-append-le, take_at}
use Rattle.std.proofs.lemmas.Nat.{from_le_bytes-to_le_bytes_4}
use Rattle.std.specs.Bool.{OnFalse, OnTrue}
use Rattle.std.specs.Int.{w32, from_le_bytes, to_le_bytes}
use Rattle.aegis.specs.declared.record.error.RecordError.{RecordError}
use Rattle.aegis.specs.declared.record.error.RecordError.TheVariants as errors
use Rattle.aegis.specs.declared.record.position.RecordPosition.{RecordPosition}
use Rattle.aegis.specs.declared.record.version.Version.{Version}
use Rattle.aegis.specs.RecordResults.{AcceptsNext, AreRecordsOfSomeVersion, Begun, IsFirstFault, IsRecord, IsRecordFault, OpensNext, Progress, progress_after, last_flag, progress_at, record_of, sealing_in, start_of}
use Rattle.aegis.specs.RecordStream.{AreRecords, AreWithin, AtEnd, AtHeader, AtRecord, HasFault, IsFault, IsFaultAt, IsFaultOf, IsOneRecordStream, Parts, Sealing, beginning, first_position, frame, frames, header, limit, parts, position_after, sealed}
use Rattle.aegis.specs.Private.{IsUnder}
use Rattle.aegis.proofs.Frames.{Closes, closes, frame_one, frame_sound, beginning_append, beginning_follows, beginning_push, header_size, one_record_stream, position_append, version_after, within_append}
use Rattle.aegis.proofs.Lengths.{length-begun, length-frame}
use Rattle.aegis.proofs.Reading.{fault_more, long_is, unknown_is, whole_is}
use Rattle.aegis.proofs.Sealed.{sealed-is}

-- ---- no record yet, one more, and the last one

pub begun_none : (key prefix context : List ℕ) (v : Version) (bytes : List ℕ) → bytes ≡ header v → Begun (progress_at key prefix context (first_position v)) [] bytes
unfolding Begun frames
begun_none key prefix context v bytes e = record { unended = refl; place = refl; within = tt; are = e ∙ sym (append-nil (header v)) }

pub begun_open : (p : Progress) (ms : List (List ℕ)) (before : List ℕ) → Begun p ms before → p.ended ≡ false
unfolding Begun
begun_open p ms before b = b.unended

grown : (p : Progress) (last : ℕ) (ms : List (List ℕ)) (m bytes : List ℕ) → Begun p ms bytes
    → bytes ++ record_of p last m ≡ beginning (sealing_in p) p.position.version last (ms ++ m ∷ [])
unfolding Begun
grown p last ms m bytes b = grind (arith, beginning_push)

-- the progress after a record of a message of n bytes
abbrev pub moved : Progress → Bool → ℕ → Progress
moved p is_last n = record {
  key = p.key;
  prefix = p.prefix;
  context = p.context;
  position = record { version = p.position.version; number = p.position.number + 1; before = p.position.before + n };
  ended = is_last;
}

pub begun_more : (p : Progress) (n : ℕ) (m : List ℕ) → n ≡ length m → length m ≤ limit p.position.version → (ms : List (List ℕ)) (bytes : List ℕ) → Begun p ms bytes
    → Begun (moved p false n) (ms ++ m ∷ []) (bytes ++ record_of p 0 m)
unfolding Begun
begun_more p n m size low ms bytes b = grind (arith, position_append, within_append, grown)

pub begun_last : (p : Progress) (m : List ℕ) → length m ≤ limit p.position.version → (ms : List (List ℕ)) (bytes : List ℕ) → Begun p ms bytes
    → AreRecords p.position.version p.key p.prefix p.context (ms ++ m ∷ []) (bytes ++ record_of p 1 m)
unfolding Begun
begun_last p m low ms bytes b = grind (arith, length-append, within_append, grown)

-- records of messages after those of a stream that has begun
pub begun_all : (key prefix context : List ℕ) (at : RecordPosition) (ns : List (List ℕ)) → AreWithin at.version ns → (ms : List (List ℕ)) (bytes : List ℕ)
    → Begun (progress_at key prefix context at) ms bytes
    → Begun (progress_at key prefix context (position_after at ns)) (ms ++ ns) (bytes ++ frames (sealed key prefix context) at 0 ns)
unfolding Begun
begun_all key prefix context at ns within ms bytes b =
    grind (arith, version_after, position_append, within_append, beginning_append)

pub begun_whole : (key prefix context : List ℕ) (at : RecordPosition) (ns : List (List ℕ)) → AreWithin at.version ns → 0 < length ns → (ms : List (List ℕ)) (bytes : List ℕ)
    → Begun (progress_at key prefix context at) ms bytes
    → AreRecords at.version key prefix context (ms ++ ns) (bytes ++ frames (sealed key prefix context) at 1 ns)
unfolding Begun
begun_whole key prefix context at ns within some ms bytes b = grind (arith, length-append, within_append, beginning_append)

-- the messages so far are a beginning of those of any stream that begins so
pub begun_beginning : (p : Progress) (ms : List (List ℕ)) (bytes : List ℕ) → Begun p ms bytes
    → (ns : List (List ℕ)) (more : List ℕ) → AreRecordsOfSomeVersion p.key p.prefix p.context ns (bytes ++ more)
    → (rest : List (List ℕ)) × (ns ≡ ms ++ rest) × (0 < length rest)
unfolding Begun
begun_beginning p ms bytes b ns more (w, s) =
    let v : Version = p.position.version in
    let c : Closes (sealing_in p) w ns (bytes ++ more) [] = closes (sealing_in p) w ns (bytes ++ more) [] s in
    let all : (bytes ++ more) ++ [] ≡ beginning (sealing_in p) v 0 ms ++ more = append-nil (bytes ++ more) ∙ ap (λ (l : List ℕ). l ++ more) b.are in
    let h = (beginning_follows (sealing_in p) (sealed-is p.key p.prefix p.context) ((bytes ++ more) ++ []) more v w ms c.before (Ok (c.last, [])) b.within all c.reads).1 in (
      h.more ++ c.last ∷ [],
      c.are ∙ ap (λ (l : List (List ℕ)). l ++ c.last ∷ []) h.are ∙ append_assoc ms h.more (c.last ∷ []),
      omega (arith, length-append h.more (c.last ∷ [])),
    )

-- ---- faults

pub header_fault : (key prefix context bytes more : List ℕ) → ((v : Version) → take 4 bytes ≢ header v)
    → (length bytes < 4 → more ≡ []) → IsFault key prefix context (bytes ++ more) errors.Header
unfolding IsFaultOf
header_fault key prefix context bytes more unknown cut = grind (arith, cases_lt, append-nil, take-append-le)

pub header_now : (key prefix context bytes : List ℕ) → ((v : Version) → take 4 bytes ≢ header v) → IsFault key prefix context bytes errors.Header
unfolding IsFaultOf
header_now key prefix context bytes unknown = AtHeader unknown refl

-- the fault of the next record is the stream's
pub begun_fault : (p : Progress) (bytes : List ℕ) (e : RecordError) → IsRecordFault p bytes e → IsFirstFault p bytes e
unfolding Begun IsFaultOf
begun_fault p bytes e h ms before more b cut =
    AtRecord p.position.version ms (bytes ++ more) b.within (ap (λ (l : List ℕ). l ++ (bytes ++ more)) b.are)
    (subst (λ at. IsFaultAt (sealing_in p) at (bytes ++ more) e) b.place (fault_more (sealing_in p) p.position bytes more e h cut))

pub begun_fault_or : (p : Progress) (bytes : List ℕ) (e : RecordError) → (e ≡ errors.OutOfMemory) ⊎ IsRecordFault p bytes e
    → (e ≡ errors.OutOfMemory) ⊎ IsFirstFault p bytes e
begun_fault_or p bytes e (inl memory) = inl memory
begun_fault_or p bytes e (inr fault) = inr (begun_fault p bytes e fault)

pub after_a_stream : (key prefix context : List ℕ) (ms : List (List ℕ)) (bytes rest : List ℕ) → AreRecordsOfSomeVersion key prefix context ms bytes
    → 0 < length rest → IsFault key prefix context (bytes ++ rest) errors.Trailing
unfolding IsFaultOf
after_a_stream key prefix context ms bytes rest (v, s) some = AtEnd v ms bytes rest s refl some refl

-- bytes that are cut off
cut_from : (s : Sealing) (at : RecordPosition) (r : Result Parts RecordError) (e : RecordError) → HasFault s at r e → e ≡ errors.Truncated → r ≡ Err errors.Truncated
cut_from s at (Err f) e h cut = ap (λ d. Err d) (sym h ∙ cut)
cut_from s at (Ok found) e h cut = let is = h.1 in absurd cc

pub cut_of : (s : Sealing) (at : RecordPosition) (bytes : List ℕ) (e : RecordError) → (e ≡ errors.OutOfMemory) ⊎ IsFaultAt s at bytes e
    → e ≡ errors.Truncated → parts at.version bytes ≡ Err errors.Truncated
cut_of s at bytes e (inl memory) cut = absurd cc
cut_of s at bytes e (inr fault) cut = cut_from s at (parts at.version bytes) e fault cut

pub sealed_one_stream : (key prefix context : List ℕ) → IsOneRecordStream (sealed key prefix context)
sealed_one_stream key prefix context = one_record_stream (sealed key prefix context) (sealed-is key prefix context)

-- what the start of an opening uses
pub ruleset begin_laws = (begun_none, header_fault, header_size, nil_from_length)

-- ---- the record that was read

pub length-record : (key prefix context : List ℕ) (at : RecordPosition) (flag : ℕ) (m : List ℕ) → length (frame (sealed key prefix context) at flag m) ≡ 37 + length m
length-record key prefix context at flag m = length-frame (sealed key prefix context) (sealed-is key prefix context) at flag m

pub record_long : (key prefix context : List ℕ) (at : RecordPosition) (flag : ℕ) (m rest bytes : List ℕ) → IsRecord (sealed key prefix context) at flag m rest bytes
    → length bytes ≡ 37 + length m + length rest
record_long key prefix context at flag m rest bytes r =
    omega (arith, ap length r.are, length-append (frame (sealed key prefix context) at flag m) rest, length-record key prefix context at flag m)

pub appended_long : (key prefix context : List ℕ) (at : RecordPosition) (flag : ℕ) (m old new : List ℕ) → new ≡ old ++ frame (sealed key prefix context) at flag m
    → length new ≡ length old + (37 + length m)
appended_long key prefix context at flag m old new is =
    omega (arith, ap length is, length-append old (frame (sealed key prefix context) at flag m), length-record key prefix context at flag m)

flag_is : (flag : ℕ) → flag ≤ 1 → flag ≡ last_flag (nat_eq flag 1)
flag_is zero low = refl
flag_is (suc zero) low = refl
flag_is (suc (suc n)) low = absurd (omega (arith, low))

on_false : (b : Bool) (A : Type 0) → (b ≡ false → A) → OnFalse b A
on_false true A f = tt
on_false false A f = f refl

on_true : (b : Bool) (A : Type 0) → (b ≡ true → A) → OnTrue b A
on_true true A f = f refl
on_true false A f = tt

-- a record was read: it is the next one, or the last one, and the progress is the one after it
pub opens_next : (p : Progress) (flag n : ℕ) (m rest bytes : List ℕ) → n ≡ length m → IsRecord (sealing_in p) p.position flag m rest bytes
    → OpensNext p (moved p (nat_eq flag 1) n) bytes (nat_eq flag 1) m rest
opens_next p flag n m rest bytes size r =
    let known = r.known in
    let is_last : Bool = nat_eq flag 1 in
    let are : bytes ≡ record_of p (last_flag is_last) m ++ rest = r.are ∙ ap (λ (f : ℕ). record_of p f m ++ rest) (flag_is flag known) in
    let other : (b : Bool) → is_last ≡ b → bytes ≡ record_of p (last_flag b) m ++ rest = λ (b : Bool) (is : is_last ≡ b). are ∙ ap (λ b. record_of p (last_flag b) m ++ rest) is in
    record {
      next = on_false is_last _ (other false);
      last = on_true is_last _ (other true);
      begun = on_false is_last _ (λ is. rw is (begun_more p n m size r.within));
      whole = on_true is_last _ (λ is ms before b. (p.position.version, begun_last p m r.within ms before b));
      progress = ap (moved p is_last) size;
      ended = refl;
      taken = let long = record_long p.key p.prefix p.context p.position flag m rest bytes r in omega arith;
      within = r.within;
    }

-- the bytes begin with no other record
pub record Same (flag : ℕ) (m rest : List ℕ) (is_last : Bool) (n after : List ℕ) : Type 0 where
  pub last : nat_eq flag 1 ≡ is_last
  pub message : m ≡ n
  pub others : rest ≡ after

flag_within : (is_last : Bool) → last_flag is_last ≤ 1
flag_within true = omega arith
flag_within false = omega arith

flag_tells : (is_last : Bool) (flag : ℕ) → flag ≡ last_flag is_last → nat_eq flag 1 ≡ is_last
flag_tells true flag e = rw e refl
flag_tells false flag e = rw e refl

read_one : (p : Progress) (flag : ℕ) (m rest bytes : List ℕ) → IsRecord (sealing_in p) p.position flag m rest bytes
    → (is_last : Bool) (n after : List ℕ) → length n ≤ limit p.position.version → bytes ≡ record_of p (last_flag is_last) n ++ after
    → Same flag m rest is_last n after
read_one p flag m rest bytes r is_last n after low e =
    let one = frame_one (sealing_in p) (sealed-is p.key p.prefix p.context) p.position flag (last_flag is_last) m n rest after
    r.known (flag_within is_last) r.within low (sym r.are ∙ e) in
    record { last = flag_tells is_last flag one.0; message = one.1; others = one.2 }

pub accepts_next : (p : Progress) (flag : ℕ) (m rest bytes : List ℕ) (Opens : Bool → List ℕ → List ℕ → Type 0) → IsRecord (sealing_in p) p.position flag m rest bytes
    → ((is_last : Bool) (n after : List ℕ) → Same flag m rest is_last n after → Opens is_last n after) → AcceptsNext p bytes Opens
accepts_next p flag m rest bytes Opens r answers = record {
  next = λ going n after low e. answers false n after (read_one p flag m rest bytes r false n after low e);
  last = λ going n after low e. answers true n after (read_one p flag m rest bytes r true n after low e);
}

-- bytes that begin with a record have no fault there
no_fault : (p : Progress) (bytes : List ℕ) (e : RecordError) → IsRecordFault p bytes e
    → (is_last : Bool) (n after : List ℕ) → length n ≤ limit p.position.version → bytes ≡ record_of p (last_flag is_last) n ++ after → ⊥
no_fault p bytes e fault is_last n after low is =
    frame_sound (sealing_in p) (sealed-is p.key p.prefix p.context) p.position (last_flag is_last) n after e (flag_within is_last) low (rw is at fault)

pub accepts_none : (p : Progress) (bytes : List ℕ) (e : RecordError) (Opens : Bool → List ℕ → List ℕ → Type 0) → IsRecordFault p bytes e → AcceptsNext p bytes Opens
accepts_none p bytes e Opens fault = record {
  next = λ going n after low is. absurd (no_fault p bytes e fault false n after low is);
  last = λ going n after low is. absurd (no_fault p bytes e fault true n after low is);
}

pub accepts_or : (p : Progress) (bytes : List ℕ) (e : RecordError) (Opens : Bool → List ℕ → List ℕ → Type 0) → (e ≡ errors.OutOfMemory) ⊎ IsRecordFault p bytes e
    → (e ≡ errors.OutOfMemory → (is_last : Bool) (n after : List ℕ) → Opens is_last n after) → AcceptsNext p bytes Opens
accepts_or p bytes e Opens (inl memory) answers = record { next = λ going n after low is. answers memory false n after; last = λ going n after low is. answers memory true n after }
accepts_or p bytes e Opens (inr fault) answers = accepts_none p bytes e Opens fault

-- ---- a reader of all of a stream's bytes

-- of the bytes the header and the records of these messages were read, and `rest` was not
pub record SoFar (key prefix context : List ℕ) (p : Progress) (ms : List (List ℕ)) (rest bytes : List ℕ) : Type 0 where
  pub before : List ℕ
  pub under : IsUnder key prefix context p
  pub begun : Begun p ms before
  pub all : bytes ≡ before ++ rest

pub so_far_none : (key prefix context : List ℕ) (v : Version) (rest bytes : List ℕ) → bytes ≡ header v ++ rest
    → SoFar key prefix context (progress_at key prefix context (first_position v)) [] rest bytes
so_far_none key prefix context v rest bytes e =
    record { before = header v; under = refl; begun = begun_none key prefix context v (header v) refl; all = e }

pub under_next : (key prefix context m : List ℕ) (p : Progress) → IsUnder key prefix context p → IsUnder key prefix context (progress_after p false m)
under_next key prefix context m p is = ap (λ (q : Progress). progress_after q false m) is

pub so_far_next : (key prefix context : List ℕ) (p : Progress) (ms : List (List ℕ)) (m rest more bytes : List ℕ) → SoFar key prefix context p ms rest bytes
    → length m ≤ limit p.position.version → rest ≡ record_of p 0 m ++ more → SoFar key prefix context (progress_after p false m) (ms ++ m ∷ []) more bytes
so_far_next key prefix context p ms m rest more bytes s low e = record {
  before = s.before ++ record_of p 0 m;
  under = under_next key prefix context m p s.under;
  begun = begun_more p (length m) m refl low ms s.before s.begun;
  all = s.all ∙ ap (λ (l : List ℕ). s.before ++ l) e ∙ sym (append_assoc s.before (record_of p 0 m) more);
}

pub so_far_long : (key prefix context : List ℕ) (p : Progress) (ms : List (List ℕ)) (rest bytes : List ℕ) → SoFar key prefix context p ms rest bytes
    → start_of p + length rest ≡ length bytes
so_far_long key prefix context p ms rest bytes s = omega (arith, ap length s.all, length-append s.before rest, length-begun p ms s.before s.begun)

-- a stream under the key, prefix and context of a progress
pub under_stream : (key prefix context : List ℕ) (p : Progress) (v : Version) (ms : List (List ℕ)) (bytes : List ℕ) → IsUnder key prefix context p
    → AreRecords v p.key p.prefix p.context ms bytes → AreRecords v key prefix context ms bytes
under_stream key prefix context p v ms bytes is = subst (λ (q : Progress). AreRecords v q.key q.prefix q.context ms bytes) is

-- the last record ends the stream
record Last (key prefix context : List ℕ) (p : Progress) (ms : List (List ℕ)) (m more bytes : List ℕ) : Type 0 where
  stream : List ℕ
  is : AreRecords p.position.version key prefix context (ms ++ m ∷ []) stream
  all : bytes ≡ stream ++ more

last_of : (key prefix context : List ℕ) (p : Progress) (ms : List (List ℕ)) (m rest more bytes : List ℕ) → SoFar key prefix context p ms rest bytes
    → length m ≤ limit p.position.version → rest ≡ record_of p 1 m ++ more → Last key prefix context p ms m more bytes
last_of key prefix context p ms m rest more bytes s low e = record {
  stream = s.before ++ record_of p 1 m;
  is = under_stream key prefix context p p.position.version _ _ s.under (begun_last p m low ms s.before s.begun);
  all = s.all ∙ ap (λ (l : List ℕ). s.before ++ l) e ∙ sym (append_assoc s.before (record_of p 1 m) more);
}

pub so_far_last : (key prefix context : List ℕ) (p : Progress) (ms : List (List ℕ)) (m rest more bytes : List ℕ) → SoFar key prefix context p ms rest bytes
    → length m ≤ limit p.position.version → rest ≡ record_of p 1 m ++ more → more ≡ [] → AreRecords p.position.version key prefix context (ms ++ m ∷ []) bytes
so_far_last key prefix context p ms m rest more bytes s low e none =
    let last = last_of key prefix context p ms m rest more bytes s low e in
    subst (AreRecords p.position.version key prefix context (ms ++ m ∷ []))
    (sym (last.all ∙ ap (λ (l : List ℕ). last.stream ++ l) none ∙ append-nil last.stream)) last.is

pub so_far_trailing : (key prefix context : List ℕ) (p : Progress) (ms : List (List ℕ)) (m rest more bytes : List ℕ) → SoFar key prefix context p ms rest bytes
    → length m ≤ limit p.position.version → rest ≡ record_of p 1 m ++ more → 0 < length more → IsFault key prefix context bytes errors.Trailing
so_far_trailing key prefix context p ms m rest more bytes s low e some =
    let last = last_of key prefix context p ms m rest more bytes s low e in
    subst (λ (l : List ℕ). IsFault key prefix context l errors.Trailing) (sym last.all)
    (after_a_stream key prefix context (ms ++ m ∷ []) last.stream more (p.position.version, last.is) some)

pub so_far_fault : (key prefix context : List ℕ) (p : Progress) (ms : List (List ℕ)) (rest bytes : List ℕ) (e : RecordError) → SoFar key prefix context p ms rest bytes
    → (e ≡ errors.OutOfMemory) ⊎ IsFirstFault p rest e → (e ≡ errors.OutOfMemory) ⊎ IsFault key prefix context bytes e
so_far_fault key prefix context p ms rest bytes e s (inl memory) = inl memory
so_far_fault key prefix context p ms rest bytes e s (inr fault) =
    inr (subst (λ (q : Progress). IsFault q.key q.prefix q.context bytes e) s.under
    (subst (λ (l : List ℕ). IsFault p.key p.prefix p.context l e) (ap (λ (l : List ℕ). s.before ++ l) (append-nil rest) ∙ sym s.all)
    (fault ms s.before [] s.begun (λ cut. refl))))

pub none_left : (l : List ℕ) (b : Bool) → b ≡ (length l == 0) → b ≡ true → l ≡ []
none_left [] b e t = refl
none_left (x ∷ xs) b e t = elim (eqb_tells (length (x ∷ xs)) 0) [
  | inl same ↦ let zero_long : length (x ∷ xs) ≡ 0 = same.1 in absurd (omega arith)
  | inr differs ↦ absurd (true≢false (sym t ∙ e ∙ differs.0))
]

pub some_left : (l : List ℕ) (b : Bool) → b ≡ (length l == 0) → b ≡ false → 0 < length l
some_left [] b e f = absurd (true≢false (sym e ∙ f))
some_left (x ∷ xs) b e f = omega arith

-- bytes whose parts have a fault, whatever follows them
pub begun_parts : (p : Progress) (bytes : List ℕ) (e : RecordError) → parts p.position.version bytes ≡ Err e
    → (ms : List (List ℕ)) (before : List ℕ) → Begun p ms before → IsFault p.key p.prefix p.context (before ++ bytes) e
begun_parts p bytes e is ms before b =
    subst (λ (l : List ℕ). IsFault p.key p.prefix p.context (before ++ l) e) (append-nil bytes) (begun_fault p bytes e (rw is refl) ms before [] b (λ cut. refl))

-- ---- the first five bytes of a record

-- the number in the four bytes after the first
abbrev pub told : List ℕ → ℕ
told head = from_le_bytes w32 (get_or head 1 0 ∷ get_or head 2 0 ∷ get_or head 3 0 ∷ get_or head 4 0 ∷ [])

five : (l : List ℕ) → length l ≡ 5 → l ≡ get_or l 0 0 ∷ get_or l 1 0 ∷ get_or l 2 0 ∷ get_or l 3 0 ∷ get_or l 4 0 ∷ []
five [] e = absurd (omega (arith, e))
five (a ∷ []) e = absurd (omega (arith, e))
five (a ∷ b ∷ []) e = absurd (omega (arith, e))
five (a ∷ b ∷ c ∷ []) e = absurd (omega (arith, e))
five (a ∷ b ∷ c ∷ d ∷ []) e = absurd (omega (arith, e))
five (a ∷ b ∷ c ∷ d ∷ f ∷ []) e = refl
five (a ∷ b ∷ c ∷ d ∷ f ∷ g ∷ l) e = absurd (omega (arith, e))

pub flag_fault : (v : Version) (head : List ℕ) → length head ≡ 5 → 1 < get_or head 0 0 → (body : List ℕ) → parts v (head ++ body) ≡ Err errors.Flag
unfolding parts
flag_fault v head size unknown body =
    subst (λ (l : List ℕ). parts v (l ++ body) ≡ Err errors.Flag) (sym (five head size)) (unknown_is v (get_or head 0 0) (get_or head 1 0 ∷ get_or head 2 0 ∷ get_or head 3 0 ∷ get_or head 4 0 ∷ body) unknown)

pub long_fault : (v : Version) (head : List ℕ) → length head ≡ 5 → get_or head 0 0 ≤ 1 → limit v < told head
    → (body : List ℕ) → parts v (head ++ body) ≡ Err errors.TooLong
unfolding parts
long_fault v head size known long body =
    subst (λ (l : List ℕ). parts v (l ++ body) ≡ Err errors.TooLong) (sym (five head size)) (long_is v (get_or head 0 0) (get_or head 1 0 ∷ get_or head 2 0 ∷ get_or head 3 0 ∷ get_or head 4 0 ∷ body) known (omega arith) long)

pub head_whole : (v : Version) (head : List ℕ) → length head ≡ 5 → get_or head 0 0 ≤ 1 → told head ≤ limit v
    → (body : List ℕ) → 37 + told head ≤ length (head ++ body) → parts v (head ++ body) ≢ Err errors.Truncated
unfolding parts
head_whole v head size known within body there e = grind (arith, whole_is, length-append, five)

pub head_len : (p : Progress) (head : List ℕ) → length head ≡ 5
    → (flag : ℕ) (m body rest : List ℕ) → length m ≤ 16777216 → head ++ body ≡ record_of p flag m ++ rest
    → length (record_of p flag m) ≡ 37 + told head
unfolding frame
head_len p head size flag m body rest low e =
    let le : List ℕ = to_le_bytes w32 (length m) in
    let body_m : List ℕ = sealed p.key p.prefix p.context p.position flag m in
    let four : List ℕ = get_or head 1 0 ∷ get_or head 2 0 ∷ get_or head 3 0 ∷ get_or head 4 0 ∷ [] in
    let spelled : get_or head 0 0 ∷ (four ++ body) ≡ flag ∷ ((le ++ body_m) ++ rest) = ap (λ (l : List ℕ). l ++ body) (sym (five head size)) ∙ e in
    let same : four ≡ le = ap (λ (l : List ℕ). take 4 (drop 1 l)) spelled ∙ ap (take 4) (append_assoc le body_m rest) ∙ take_at le (body_m ++ rest) 4 refl in
    let number : told head ≡ length m = ap (from_le_bytes w32) same ∙ from_le_bytes-to_le_bytes_4 (length m) (omega arith) in
    length-record p.key p.prefix p.context p.position flag m ∙ ap (λ (n : ℕ). 37 + n) (sym number)

-- what the length of a record by its first bytes uses
pub ruleset head_laws = (flag_fault, head_len, head_whole, long_fault)
