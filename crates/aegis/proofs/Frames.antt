-- Bytes are read in one way: no two streams have the same bytes, and no bytes have two faults.
use Rattle.std.proofs.Common.{◌≡◌, ◌≢◌, ◌⊎◌, ℕ, ◌<◌, ◌≤◌, List, [], ◌∷◌, ◌++◌, length, take, get_or, Result, Ok, Err, refl, sym, ap, subst, ◌∙◌, append_assoc, arith, inl, inr}
use Rattle.std.specs.Prelude.{IfErr, IfOk, Vec}
use Rattle.std.proofs.lemmas.List.{append_cancel_left, append-nil, take_at}
use Rattle.aegis.specs.declared.record.error.RecordError.{RecordError}
use Rattle.aegis.specs.declared.record.error.RecordError.TheVariants as errors
use Rattle.aegis.specs.declared.record.position.RecordPosition.{RecordPosition}
use Rattle.aegis.specs.declared.record.version.Version.{Version}
use Rattle.aegis.specs.declared.record.version.Version.TheVariants.{First, Second}
use Rattle.aegis.specs.RecordResults.{IsRefused, OpensTo, messages}
use Rattle.aegis.specs.RecordStream.{AtEnd, AtHeader, AtRecord, HasFault, IsFaultAt, IsFaultOf, IsOneFault, Parts, parts, AreWithin, IsOneRecordStream, IsRecordStream, Sealing, first_position, flag_before, frame, frames, beginning, header, limit, next_position, position_after}
use Rattle.aegis.specs.Private.{IsSealing}
use Rattle.aegis.proofs.Reading.{parts_frame}

-- ---- one record

abbrev done : {A : Type 0} → A → Result A RecordError
done a = Ok a

ok_is : {A : Type 0} (a b : A) → done a ≡ done b → a ≡ b
ok_is a b e = cc

pub frame_one : (s : Sealing) (is : IsSealing s) (at : RecordPosition) (f g : ℕ) (m n x y : List ℕ) → f ≤ 1 → g ≤ 1
    → length m ≤ limit at.version → length n ≤ limit at.version → frame s at f m ++ x ≡ frame s at g n ++ y
    → (f ≡ g) × (m ≡ n) × (x ≡ y)
frame_one s is at f g m n x y fk gk mw nw e =
    let same = ok_is (f, s at f m, x) (g, s at g n, y) (sym (parts_frame s is at f m x fk mw) ∙ ap (parts at.version) e ∙ parts_frame s is at g n y gk nw) in
    let flags : f ≡ g = ap (λ (q : Parts). q.0) same in
    let sealed : s at f m ≡ s at g n = ap (λ (q : Parts). q.1) same in
    (flags, is.one at f m n (sealed ∙ ap (λ (h : ℕ). s at h n) (sym flags)), ap (λ (q : Parts). q.2) same)

pub frame_sound : (s : Sealing) (is : IsSealing s) (at : RecordPosition) (flag : ℕ) (m x : List ℕ) (e : RecordError) → flag ≤ 1
    → length m ≤ limit at.version → IsFaultAt s at (frame s at flag m ++ x) e → ⊥
frame_sound s is at flag m x e known within fault = (rw (parts_frame s is at flag m x known within) at fault).0 m refl

-- ---- what follows the records with the flag 0

-- the message of the last record and the bytes after it, or the fault of the next record
abbrev pub End : Type 0
End = Result (List ℕ × List ℕ) RecordError

abbrev pub Ends : Sealing → RecordPosition → List ℕ → End → Type 0
Ends s at x (Ok last) = (length last.0 ≤ limit at.version) × (x ≡ frame s at 1 last.0 ++ last.1)
Ends s at x (Err e) = IsFaultAt s at x e

ends_one : (s : Sealing) (is : IsSealing s) (at : RecordPosition) (x : List ℕ) (a b : End) → Ends s at x a → Ends s at x b → a ≡ b
ends_one s is at x (Ok (m, y)) (Ok (n, z)) p q =
    let one = frame_one s is at 1 1 m n y z (omega arith) (omega arith) p.0 q.0 (sym p.1 ∙ q.1) in
    rw (one.1, one.2) refl
ends_one s is at x (Ok (m, y)) (Err e) p q = absurd (frame_sound s is at 1 m y e (omega arith) p.0 (rw p.1 at q))
ends_one s is at x (Err d) (Ok (n, z)) p q = absurd (frame_sound s is at 1 n z d (omega arith) q.0 (rw q.1 at p))
ends_one s is at x (Err d) (Err e) p q = ap (λ (f : RecordError). Err f) (same (parts at.version x) p q)
  where
    same : (found : Result Parts RecordError) → HasFault s at found d → HasFault s at found e → d ≡ e
    same (Err f) p q = p ∙ sym q
    same (Ok found) p q = p.1 ∙ sym q.1

-- it is no record with the flag 0
not_open : (s : Sealing) (is : IsSealing s) (at : RecordPosition) (x : List ℕ) (a : End) (m z : List ℕ) → Ends s at x a → length m ≤ limit at.version
    → x ≡ frame s at 0 m ++ z → ⊥
not_open s is at x (Ok (n, y)) m z p within e =
    let one = frame_one s is at 1 0 n m y z (omega arith) (omega arith) p.0 within (sym p.1 ∙ e) in
    absurd (omega (arith, one.0))
not_open s is at x (Err d) m z p within e = frame_sound s is at 0 m z d (omega arith) within (rw e at p)

flag_open : (ms : List (List ℕ)) → flag_before 0 ms ≡ 0
flag_open [] = refl
flag_open (m ∷ ms) = refl

frames_more : (s : Sealing) (at : RecordPosition) (m : List ℕ) (ms : List (List ℕ)) (x : List ℕ)
    → frames s at 0 (m ∷ ms) ++ x ≡ frame s at 0 m ++ (frames s (next_position at m) 0 ms ++ x)
unfolding frames
frames_more s at m ms x = grind (arith, append_assoc, flag_open)

-- the messages of one beginning and others are those of the longest one
pub record Follows (s : Sealing) (at : RecordPosition) (ms ns : List (List ℕ)) (x y : List ℕ) : Type 0 where
  pub more : List (List ℕ)
  pub are : ns ≡ ms ++ more
  pub within : AreWithin at.version more
  pub rest : x ≡ frames s (position_after at ms) 0 more ++ y

follows : (s : Sealing) (is : IsSealing s) (at : RecordPosition) (ms ns : List (List ℕ)) (x y : List ℕ) (b : End) → AreWithin at.version ms → AreWithin at.version ns
    → Ends s (position_after at ns) y b → frames s at 0 ms ++ x ≡ frames s at 0 ns ++ y → Follows s at ms ns x y
unfolding frames
follows s is at [] ns x y b mw nw q e = record { more = ns; are = refl; within = nw; rest = e }
follows s is at (m ∷ ms) [] x y b mw nw q e = absurd (not_open s is at y b m _ q mw.0 (sym e ∙ frames_more s at m ms x))
follows s is at (m ∷ ms) (n ∷ ns) x y b mw nw q e =
    let first = frame_one s is at 0 0 m n (frames s (next_position at m) 0 ms ++ x) (frames s (next_position at n) 0 ns ++ y)
    (omega arith) (omega arith) mw.0 nw.0 (sym (frames_more s at m ms x) ∙ e ∙ frames_more s at n ns y) in
    let same : n ≡ m = sym first.1 in
    let rest : Follows s (next_position at m) ms ns x y =
    follows s is (next_position at m) ms ns x y b mw.1 nw.1 (subst (λ (k : List ℕ). Ends s (position_after (next_position at k) ns) y b) same q)
    (first.2 ∙ ap (λ (k : List ℕ). frames s (next_position at k) 0 ns ++ y) same) in
    record {
      more = rest.more;
      are = ap (λ (k : List ℕ). k ∷ ns) same ∙ ap (λ (l : List (List ℕ)). m ∷ l) rest.are;
      within = rest.within;
      rest = rest.rest;
    }

pub version_after : (at : RecordPosition) (ms : List (List ℕ)) → (position_after at ms).version ≡ at.version
version_after at [] = refl
version_after at (m ∷ ms) = version_after (next_position at m) ms

-- ---- a header, the records with the flag 0, and what follows them

pub header_size : (v : Version) → length (header v) ≡ 4
header_size First = refl
header_size Second = refl

differ : (n : ℕ) → n ≡ 49 → n ≡ 50 → ⊥
differ n a b = absurd (omega arith)

header_one : (v w : Version) (a b : List ℕ) → header v ++ a ≡ header w ++ b → v ≡ w
header_one First First a b e = refl
header_one Second Second a b e = refl
header_one First Second a b e = absurd (differ 49 refl (ap (λ (l : List ℕ). get_or l 3 0) e))
header_one Second First a b e = absurd (differ 50 (ap (λ (l : List ℕ). get_or l 3 0) e) refl)

pub record Reads (s : Sealing) (bytes : List ℕ) (v : Version) (ms : List (List ℕ)) (end : End) : Type 0 where
  pub rest : List ℕ
  pub within : AreWithin v ms
  pub are : bytes ≡ beginning s v 0 ms ++ rest
  pub ends : Ends s (position_after (first_position v) ms) rest end

known : (s : Sealing) (bytes : List ℕ) (v : Version) (ms : List (List ℕ)) (end : End) → Reads s bytes v ms end → take 4 bytes ≡ header v
known s bytes v ms end p =
    ap (take 4) (p.are ∙ append_assoc (header v) (frames s (first_position v) 0 ms) p.rest) ∙ take_at (header v) (frames s (first_position v) 0 ms ++ p.rest) 4 (header_size v)

-- a beginning of records with the flag 0, of bytes that are read so
pub beginning_follows : (s : Sealing) (is : IsSealing s) (bytes x : List ℕ) (v w : Version) (ms ns : List (List ℕ)) (b : End) → AreWithin v ms → bytes ≡ beginning s v 0 ms ++ x
    → (q : Reads s bytes w ns b) → (v ≡ w) × Follows s (first_position v) ms ns x q.rest
beginning_follows s is bytes x v w ms ns b within e q = grind (arith, append_assoc, header_one, follows, append_cancel_left)

pub reads_one : (s : Sealing) (is : IsSealing s) (bytes : List ℕ) (v w : Version) (ms ns : List (List ℕ)) (a b : End) → Reads s bytes v ms a → Reads s bytes w ns b
    → (v ≡ w) × (ms ≡ ns) × (a ≡ b)
unfolding frames
reads_one s is bytes v w ms ns a b p q =
    let h = beginning_follows s is bytes p.rest v w ms ns b p.within p.are q in
    let all = no_more h.1.more h.1.are h.1.within h.1.rest in
    let ends = subst (λ u. Ends s (position_after (first_position u) ns) q.rest b) (sym h.0) q.ends in (
      h.0,
      sym all.0,
      ends_one s is (position_after (first_position v) ms) p.rest a b p.ends
          (subst (λ (l : List (List ℕ)). Ends s (position_after (first_position v) l) p.rest b) all.0 (rw all.1 ends)),
    )
  where
    no_more : (more : List (List ℕ)) → ns ≡ ms ++ more → AreWithin v more → p.rest ≡ frames s (position_after (first_position v) ms) 0 more ++ q.rest
        → (ns ≡ ms) × (p.rest ≡ q.rest)
    no_more [] e within rest = (e ∙ append-nil ms, rest)
    no_more (m ∷ more) e within rest =
        absurd (not_open s is (position_after (first_position v) ms) p.rest a m _ p.ends (rw (version_after (first_position v) ms) within.0) (rest ∙ frames_more s (position_after (first_position v) ms) m more q.rest))

-- ---- more records

pub position_append : (at : RecordPosition) (ms ns : List (List ℕ)) → position_after at (ms ++ ns) ≡ position_after (position_after at ms) ns
position_append at [] ns = refl
position_append at (m ∷ ms) ns = position_append (next_position at m) ms ns

frames_append : (s : Sealing) (at : RecordPosition) (last : ℕ) (ms ns : List (List ℕ)) → (last ≡ 0) ⊎ (0 < length ns)
    → frames s at last (ms ++ ns) ≡ frames s at 0 ms ++ frames s (position_after at ms) last ns
unfolding frames
frames_append s at last [] ns some = refl
frames_append s at last (m ∷ ms) ns some =
    ap (λ (f : ℕ). frame s at f m ++ frames s (next_position at m) last (ms ++ ns)) (flag_same ms ns some)
    ∙ ap (λ (l : List ℕ). frame s at (flag_before 0 ms) m ++ l) (frames_append s (next_position at m) last ms ns some)
    ∙ sym (append_assoc (frame s at (flag_before 0 ms) m) (frames s (next_position at m) 0 ms) (frames s (position_after at (m ∷ ms)) last ns))
  where
    flag_same : (ms ns : List (List ℕ)) → (last ≡ 0) ⊎ (0 < length ns) → flag_before last (ms ++ ns) ≡ flag_before 0 ms
    flag_same [] [] (inl zero) = zero
    flag_same [] [] (inr some) = absurd (omega arith)
    flag_same [] (n ∷ ns) some = refl
    flag_same (m ∷ ms) ns some = refl

pub beginning_append : (s : Sealing) (v : Version) (last : ℕ) (ms ns : List (List ℕ)) → (last ≡ 0) ⊎ (0 < length ns)
    → beginning s v last (ms ++ ns) ≡ beginning s v 0 ms ++ frames s (position_after (first_position v) ms) last ns
beginning_append s v last ms ns some = grind (arith, frames_append, append_assoc)

-- and one more
frames_one : (s : Sealing) (at : RecordPosition) (last : ℕ) (m : List ℕ) → frames s at last (m ∷ []) ≡ frame s at last m
unfolding frames
frames_one s at last m = append-nil (frame s at last m)

pub frames_push : (s : Sealing) (at : RecordPosition) (last : ℕ) (ms : List (List ℕ)) (m : List ℕ)
    → frames s at last (ms ++ m ∷ []) ≡ frames s at 0 ms ++ frame s (position_after at ms) last m
frames_push s at last ms m = frames_append s at last ms (m ∷ []) (inr (omega arith)) ∙ ap (λ (l : List ℕ). frames s at 0 ms ++ l) (frames_one s (position_after at ms) last m)

pub beginning_push : (s : Sealing) (v : Version) (last : ℕ) (ms : List (List ℕ)) (m : List ℕ)
    → beginning s v last (ms ++ m ∷ []) ≡ beginning s v 0 ms ++ frame s (position_after (first_position v) ms) last m
beginning_push s v last ms m =
    beginning_append s v last ms (m ∷ []) (inr (omega arith)) ∙ ap (λ (l : List ℕ). beginning s v 0 ms ++ l) (frames_one s (position_after (first_position v) ms) last m)

pub within_append : (v : Version) (ms ns : List (List ℕ)) → AreWithin v ms → AreWithin v ns → AreWithin v (ms ++ ns)
within_append v [] ns ws w = w
within_append v (m ∷ ms) ns ws w = (ws.0, within_append v ms ns ws.1 w)

-- ---- a stream is read so

pub record Closes (s : Sealing) (v : Version) (ms : List (List ℕ)) (bytes x : List ℕ) : Type 0 where
  pub before : List (List ℕ)
  pub last : List ℕ
  pub are : ms ≡ before ++ last ∷ []
  pub reads : Reads s (bytes ++ x) v before (Ok (last, x))

pub closes : (s : Sealing) (v : Version) (ms : List (List ℕ)) (bytes x : List ℕ) → IsRecordStream s v ms bytes → Closes s v ms bytes x
closes s v ms bytes x p =
    let cut = ending ms p.some in
    let within = within_pop cut.0 cut.1 (subst (AreWithin v) cut.2 p.within) in
    let at : RecordPosition = position_after (first_position v) cut.0 in
    record {
      before = cut.0;
      last = cut.1;
      are = cut.2;
      reads = record {
        rest = frame s at 1 cut.1 ++ x;
        within = within.0;
        are = ap (λ (l : List ℕ). l ++ x) (p.are ∙ ap (beginning s v 1) cut.2 ∙ beginning_push s v 1 cut.0 cut.1) ∙ append_assoc (beginning s v 0 cut.0) (frame s at 1 cut.1) x;
        ends = (rw (version_after (first_position v) cut.0) within.1, refl);
      };
    }
  where
    ending : (ms : List (List ℕ)) → 0 < length ms → (before : List (List ℕ)) × (last : List ℕ) × (ms ≡ before ++ last ∷ [])
    ending [] some = absurd (omega arith)
    ending (m ∷ []) some = ([], m, refl)
    ending (m ∷ n ∷ ms) some = let rest = ending (n ∷ ms) (omega arith) in (m ∷ rest.0, rest.1, ap (λ (l : List (List ℕ)). m ∷ l) rest.2)

    within_pop : (ms : List (List ℕ)) (m : List ℕ) → AreWithin v (ms ++ m ∷ []) → AreWithin v ms × (length m ≤ limit v)
    within_pop [] m w = (tt, w.0)
    within_pop (n ∷ ms) m w = let rest = within_pop ms m w.1 in ((w.0, rest.0), rest.1)

pub one_record_stream : (s : Sealing) → IsSealing s → IsOneRecordStream s
one_record_stream s is v w ms ns a b x y p q e =
    let c : Closes s v ms a x = closes s v ms a x p in
    let d : Closes s w ns b y = closes s w ns b y q in
    let one = reads_one s is (a ++ x) v w c.before d.before (Ok (c.last, x)) (Ok (d.last, y)) c.reads
    (subst (λ (l : List ℕ). Reads s l w d.before (Ok (d.last, y))) (sym e) d.reads) in
    let ends = ok_is (c.last, x) (d.last, y) one.2 in
    let last : c.last ≡ d.last = ap (λ (q : List ℕ × List ℕ). q.0) ends in
    (one.0, c.are ∙ ap (λ (l : List (List ℕ)). l ++ c.last ∷ []) one.1 ∙ ap (λ (m : List ℕ). d.before ++ m ∷ []) last ∙ sym d.are, ap (λ (q : List ℕ × List ℕ). q.1) ends)

-- ---- faults

-- the error of bytes that end so
abbrev IsErrorOf : End → RecordError → Type 0
IsErrorOf (Ok last) e = (0 < length last.1) × (e ≡ errors.Trailing)
IsErrorOf (Err f) e = e ≡ f

record Ended (s : Sealing) (bytes : List ℕ) (e : RecordError) : Type 0 where
  version : Version
  messages : List (List ℕ)
  end : End
  reads : Reads s bytes version messages end
  error : IsErrorOf end e

ended : (s : Sealing) (bytes : List ℕ) (e : RecordError) → IsFaultOf s bytes e → (((v : Version) → take 4 bytes ≢ header v) × (e ≡ errors.Header)) ⊎ Ended s bytes e
unfolding IsFaultOf
ended s bytes e (AtHeader unknown is) = inl (unknown, is)
ended s bytes e (AtRecord v ms rest within are fault) =
    inr (record { version = v; messages = ms; end = Err e; reads = record { rest = rest; within = within; are = are; ends = fault }; error = refl })
ended s bytes e (AtEnd v ms stream rest records are some is) =
    let c : Closes s v ms stream rest = closes s v ms stream rest records in
    inr (record {
      version = v;
      messages = c.before;
      end = Ok (c.last, rest);
      reads = subst (λ (l : List ℕ). Reads s l v c.before (Ok (c.last, rest))) (sym are) c.reads;
      error = (some, is);
    })

fault_one : (s : Sealing) (is : IsSealing s) (bytes : List ℕ) (d e : RecordError) → IsFaultOf s bytes d → IsFaultOf s bytes e → d ≡ e
fault_one s is bytes d e p q = both (ended s bytes d p) (ended s bytes e q)
  where
    same : (a : End) → IsErrorOf a d → IsErrorOf a e → d ≡ e
    same (Ok last) f g = f.1 ∙ sym g.1
    same (Err c) f g = f ∙ sym g

    both : (((v : Version) → take 4 bytes ≢ header v) × (d ≡ errors.Header)) ⊎ Ended s bytes d → (((v : Version) → take 4 bytes ≢ header v) × (e ≡ errors.Header)) ⊎ Ended s bytes e → d ≡ e
    both (inl a) (inl b) = a.1 ∙ sym b.1
    both (inl a) (inr b) = absurd (a.0 b.version (known s bytes b.version b.messages b.end b.reads))
    both (inr a) (inl b) = absurd (b.0 a.version (known s bytes a.version a.messages a.end a.reads))
    both (inr a) (inr b) =
        let one = reads_one s is bytes a.version b.version a.messages b.messages a.end b.end a.reads b.reads in
        same a.end a.error (subst (λ (k : End). IsErrorOf k e) (sym one.2) b.error)

not_both : (s : Sealing) (is : IsSealing s) (bytes : List ℕ) (v : Version) (ms : List (List ℕ)) (e : RecordError) → IsRecordStream s v ms bytes
    → IsFaultOf s bytes e → ⊥
not_both s is bytes v ms e p q = no (ended s bytes e q)
  where
    c : Closes s v ms bytes []
    c = closes s v ms bytes [] p

    here : Reads s bytes v c.before (Ok (c.last, []))
    here = subst (λ (l : List ℕ). Reads s l v c.before (Ok (c.last, []))) (append-nil bytes) c.reads

    no : (((v : Version) → take 4 bytes ≢ header v) × (e ≡ errors.Header)) ⊎ Ended s bytes e → ⊥
    no (inl a) = a.0 v (known s bytes v c.before (Ok (c.last, [])) here)
    no (inr b) =
        let one = reads_one s is bytes v b.version c.before b.messages (Ok (c.last, [])) b.end here b.reads in
        let wrong : IsErrorOf (Ok (c.last, [])) e = subst (λ (k : End). IsErrorOf k e) (sym one.2) b.error in
        absurd (omega (arith, wrong.0))

pub one_fault : (s : Sealing) → IsSealing s → IsOneFault s
one_fault s is = (fault_one s is, not_both s is)

-- if a call returns a stream's messages or its fault, a fault is what it returns
pub refused_by : {A : Type 0} (s : Sealing) → IsSealing s → (bytes : List ℕ) (r : Result A RecordError) (e : RecordError)
    → IsFaultOf s bytes e → IfOk r (λ a. (v : Version) × (ms : List (List ℕ)) × IsRecordStream s v ms bytes)
    → IfErr r (λ d. (d ≡ errors.OutOfMemory) ⊎ IsFaultOf s bytes d) → IsRefused e r
refused_by s is bytes (Ok a) e fault good bad = not_both s is bytes good.0 good.1 e good.2 fault
refused_by s is bytes (Err d) e fault good (inl memory) = inr memory
refused_by s is bytes (Err d) e fault good (inr other) = inl (fault_one s is bytes d e other fault)

-- if it returns a fault of a stream, memory ran out
pub only_memory : (s : Sealing) → IsSealing s → (v : Version) (ms : List (List ℕ)) (bytes : List ℕ) (e : RecordError) → IsRecordStream s v ms bytes
    → (e ≡ errors.OutOfMemory) ⊎ IsFaultOf s bytes e → e ≡ errors.OutOfMemory
only_memory s is v ms bytes e p (inl memory) = memory
only_memory s is v ms bytes e p (inr fault) = absurd (not_both s is bytes v ms e p fault)

-- and a stream is what it returns
pub opens_to : {A : Type 0} (s : Sealing) → IsSealing s → (v : Version) (ms : List (List ℕ)) (bytes : List ℕ) (r : Result (Vec (Vec ℕ A) A) RecordError)
    → IsRecordStream s v ms bytes → IfOk r (λ found. (w : Version) × IsRecordStream s w (messages found.items) bytes)
    → IfErr r (λ e. (e ≡ errors.OutOfMemory) ⊎ IsFaultOf s bytes e) → OpensTo ms r
opens_to s is v ms bytes (Ok found) p good bad = (one_record_stream s is good.0 v (messages found.items) ms bytes bytes [] [] good.1 p refl).1
opens_to s is v ms bytes (Err e) p good bad = only_memory s is v ms bytes e p bad
