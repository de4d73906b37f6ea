-- The parts of a record, and what its bytes are by them.
use Rattle.std.proofs.Common.{◌≡◌, ℕ, ◌+◌, ◌<◌, ◌≤◌, true, ltb, List, [], ◌∷◌, ◌++◌, length, take, drop, get_or, Ok, Err, refl, sym, ap, subst, ◌∙◌, arith, inl, inr, suc}
use Rattle.std.specs.Int.{w32, from_le_bytes, to_le_bytes}
use Rattle.std.proofs.lemmas.Bool.{cases_lt, le-ltb, lt-ltb}
use Rattle.std.proofs.lemmas.List.{append-nil, drop_at, drop-append-le, length-append, length-take, get_or-take, get_or_past, take_at, take-append-drop, take-append-le}
use Rattle.std.proofs.lemmas.Nat.{from_le_bytes-to_le_bytes_4, le_bytes_4}
use Rattle.aegis.specs.declared.record.error.RecordError.{RecordError}
use Rattle.aegis.specs.declared.record.error.RecordError.TheVariants as errors
use Rattle.aegis.specs.declared.record.position.RecordPosition.{RecordPosition}
use Rattle.aegis.specs.declared.record.version.Version.{Version}
use Rattle.aegis.specs.declared.record.version.Version.TheVariants.{First, Second}
use Rattle.aegis.specs.RecordResults.{IsRecord}
use Rattle.aegis.specs.RecordStream.{HasFault, IsFaultAt, Parts, length_at, parts, parts_after, Sealing, frame, limit}
use Rattle.aegis.specs.Private.{IsSealing}

pub limit-within : (v : Version) → limit v ≤ 16777216
limit-within First = omega arith
limit-within Second = omega arith

-- ---- which parts bytes after a flag have, and which fault

pub unknown_is : (v : Version) (f : ℕ) (bytes : List ℕ) → 1 < f → parts_after v f bytes ≡ Err errors.Flag
unknown_is v f bytes unknown = let flagged : ltb 1 f ≡ true = lt-ltb _ _ unknown in rw flagged refl

pub long_is : (v : Version) (f : ℕ) (bytes : List ℕ) → f ≤ 1 → 4 ≤ length bytes → limit v < length_at bytes → parts_after v f bytes ≡ Err errors.TooLong
long_is v f bytes known four long = grind (arith, le-ltb, lt-ltb)

abbrev found : ℕ → List ℕ → Parts
found f bytes = (f, take (length_at bytes + 32) (drop 4 bytes), drop (length_at bytes + 32) (drop 4 bytes))

pub whole_is : (v : Version) (f : ℕ) (bytes : List ℕ) → f ≤ 1 → 4 ≤ length bytes → length_at bytes ≤ limit v → length_at bytes + 32 ≤ length (drop 4 bytes)
    → parts_after v f bytes ≡ Ok (found f bytes)
whole_is v f bytes known four within there = grind (arith, le-ltb)

data Case (v : Version) (f : ℕ) (bytes : List ℕ) : Type 0 where
  Unknown : 1 < f → parts_after v f bytes ≡ Err errors.Flag → Case v f bytes
  Cut_off : parts_after v f bytes ≡ Err errors.Truncated → Case v f bytes
  Long : f ≤ 1 → 4 ≤ length bytes → limit v < length_at bytes → parts_after v f bytes ≡ Err errors.TooLong → Case v f bytes
  Whole : f ≤ 1 → 4 ≤ length bytes → length_at bytes ≤ limit v → length_at bytes + 32 ≤ length (drop 4 bytes)
      → parts_after v f bytes ≡ Ok (found f bytes) → Case v f bytes

case_of : (v : Version) (f : ℕ) (bytes : List ℕ) → Case v f bytes
case_of v f bytes = grind (arith, cases_lt, unknown_is, le-ltb, lt-ltb, long_is, whole_is)

-- where the bytes are cut into these parts
pub record Cut (v : Version) (p : Parts) (bytes : List ℕ) : Type 0 where
  pub known : p.0 ≤ 1
  pub five : 5 ≤ length bytes
  pub within : length_at (drop 1 bytes) ≤ limit v
  pub size : length p.1 ≡ length_at (drop 1 bytes) + 32
  pub head : take 5 bytes ≡ p.0 ∷ take 4 (drop 1 bytes)
  pub body : drop 5 bytes ≡ p.1 ++ p.2

pub parts_cut : (v : Version) (bytes : List ℕ) (p : Parts) → parts v bytes ≡ Ok p → Cut v p bytes
unfolding parts
parts_cut v [] p e = absurd cc
parts_cut v (f ∷ bytes) p e = by_case (case_of v f bytes)
  where
    by_case : Case v f bytes → Cut v p (f ∷ bytes)
    by_case (Unknown a is) = absurd cc
    by_case (Cut_off is) = absurd cc
    by_case (Long a b c is) = absurd cc
    by_case (Whole known four within there is) =
        let same : found f bytes ≡ p = cc in
        subst (λ (q : Parts). Cut v q (f ∷ bytes)) same (record {
          known = known;
          five = omega arith;
          within = within;
          size = omega (arith, length-take (length_at bytes + 32) (drop 4 bytes));
          head = refl;
          body = sym (take-append-drop (length_at bytes + 32) (drop 4 bytes));
        })

-- the fault of bytes that have no parts is not a wrong tag
pub parts_known : (v : Version) (bytes : List ℕ) (k : ℕ) → parts v bytes ≡ Err (errors.Damaged k) → ⊥
unfolding parts
parts_known v [] k e = absurd cc
parts_known v (f ∷ bytes) k e = by_case (case_of v f bytes)
  where
    by_case : Case v f bytes → ⊥
    by_case (Unknown a is) = absurd cc
    by_case (Cut_off is) = absurd cc
    by_case (Long a b c is) = absurd cc
    by_case (Whole a b c d is) = absurd cc

-- a fault other than missing bytes stays a fault for any bytes that follow
pub fault_more : (s : Sealing) (at : RecordPosition) (bytes more : List ℕ) (e : RecordError) → IsFaultAt s at bytes e
    → (e ≡ errors.Truncated → more ≡ []) → IsFaultAt s at (bytes ++ more) e
unfolding parts
fault_more s at [] more e h cut = rw (cut h) h
fault_more s at (f ∷ bytes) more e h cut = by_case (case_of at.version f bytes)
  where
    first : 4 ≤ length bytes → length_at (bytes ++ more) ≡ length_at bytes
    first four = ap (from_le_bytes w32) (take-append-le 4 bytes more four)

    by_case : Case at.version f bytes → HasFault s at (parts_after at.version f (bytes ++ more)) e
    by_case (Unknown unknown is) = rw (unknown_is at.version f (bytes ++ more) unknown) (rw is at h)
    by_case (Cut_off is) =
        let none = cut (rw is at h) in
        subst (λ (l : List ℕ). HasFault s at (parts_after at.version f l) e) (sym (ap (λ (l : List ℕ). bytes ++ l) none ∙ append-nil bytes)) h
    by_case (Long known four long is) =
        let same = first four in
        rw (long_is at.version f (bytes ++ more) known (omega (arith, length-append bytes more)) (omega (arith, same, long))) (rw is at h)
    by_case (Whole known four within there is) =
        let n : ℕ = length_at bytes + 32 in
        let same = first four in
        let others : drop 4 (bytes ++ more) ≡ drop 4 bytes ++ more = drop-append-le 4 bytes more four in
        let body : take (length_at (bytes ++ more) + 32) (drop 4 (bytes ++ more)) ≡ take n (drop 4 bytes) =
        rw (others, same) (take-append-le n (drop 4 bytes) more there) in
        let is_more = whole_is at.version f (bytes ++ more) known (omega (arith, length-append bytes more)) (omega (arith, same, within))
        (omega (arith, same, there, ap length others, length-append (drop 4 bytes) more)) in
        let fault = rw is at h in
        rw is_more (rw body fault.0, fault.1)

-- ---- a record is read as itself

pub parts_frame : (s : Sealing) (is : IsSealing s) (at : RecordPosition) (flag : ℕ) (m x : List ℕ) → flag ≤ 1 → length m ≤ limit at.version
    → parts at.version (frame s at flag m ++ x) ≡ Ok (flag, s at flag m, x)
unfolding parts frame
parts_frame s is at flag m x known within =
    grind (arith, limit-within, drop_at, take_at, from_le_bytes-to_le_bytes_4, whole_is, length-append)

-- bytes with these parts, of which the second is what a message is sealed to, begin with the record of the message
pub record_sound : (s : Sealing) (is : IsSealing s) (at : RecordPosition) (flag : ℕ) (m sealed after bytes : List ℕ)
    → ((i : ℕ) → i < 5 → get_or bytes i 0 < 256) → parts at.version bytes ≡ Ok (flag, sealed, after) → s at flag m ≡ sealed
    → IsRecord s at flag m after bytes
unfolding frame
record_sound s is at flag m sealed after bytes fits e opened =
    let cut : Cut at.version (flag, sealed, after) bytes = parts_cut at.version bytes (flag, sealed, after) e in
    let five = cut.five in
    let within = cut.within in
    let size = cut.size in
    let four : List ℕ = take 4 (drop 1 bytes) in
    let long : length m + 32 ≡ length sealed = sym (is.long at flag m) ∙ ap length opened in
    let number : to_le_bytes w32 (length m) ≡ four =
    ap (to_le_bytes w32) (omega arith) ∙ le_bytes_4 four (length_at (drop 1 bytes)) (ap length (first_four bytes five)) (small bytes five fits) refl in
    record {
      known = cut.known;
      within = omega arith;
      are = sym (take-append-drop 5 bytes) ∙ ap (λ (l : List ℕ). l ++ drop 5 bytes) cut.head ∙ ap (λ (l : List ℕ). (flag ∷ four) ++ l) cut.body
          ∙ ap (λ (l : List ℕ). (flag ∷ l) ++ (sealed ++ after)) (sym number)
          ∙ ap (λ (l : List ℕ). (flag ∷ to_le_bytes w32 (length m)) ++ (l ++ after)) (sym opened);
    }
  where
    first_four : (bytes : List ℕ) → 5 ≤ length bytes → take 4 (drop 1 bytes) ≡ get_or bytes 1 0 ∷ get_or bytes 2 0 ∷ get_or bytes 3 0 ∷ get_or bytes 4 0 ∷ []
    first_four [] h = absurd (omega arith)
    first_four (a ∷ []) h = absurd (omega arith)
    first_four (a ∷ b ∷ []) h = absurd (omega arith)
    first_four (a ∷ b ∷ c ∷ []) h = absurd (omega arith)
    first_four (a ∷ b ∷ c ∷ d ∷ []) h = absurd (omega arith)
    first_four (a ∷ b ∷ c ∷ d ∷ f ∷ l) h = refl

    small : (bytes : List ℕ) → 5 ≤ length bytes → ((i : ℕ) → i < 5 → get_or bytes i 0 < 256) → (i : ℕ) → get_or (take 4 (drop 1 bytes)) i 0 < 256
    small [] h fits i = absurd (omega arith)
    small (f ∷ bytes) h fits i = elim (cases_lt i 4) [
      | inl lt ↦ rw (get_or-take 4 bytes i 0 lt) (fits (suc i) (omega arith))
      | inr le ↦ rw (get_or_past (take 4 bytes) i 0 (omega (arith, length-take 4 bytes))) (omega arith)
    ]
