-- Contents that are cut into pieces: the messages so far are the first pieces, and at the end they are all of them.
use Rattle.std.proofs.Common.{◌≡◌, ◌⊎◌, ℕ, ◌+◌, ◌-◌, ◌*◌, ◌<◌, ◌≤◌, List, [], ◌∷◌, ◌++◌, Option, None, Some, IfSome, drop, length, map, take, refl, sym, ap, subst, ◌∙◌, append_assoc, arith, inl, inr}
use Rattle.std.proofs.lemmas.Bool.{cases_lt}
use Rattle.std.proofs.lemmas.List.{append-nil, drop_at, length-append, take-append-drop, take_all, take_at}
use Rattle.std.proofs.lemmas.List.FromFn.{map-range_with_len_more, take-map-range_with_len}
use Rattle.std.proofs.lemmas.Nat.{div_below, le-div}
use Rattle.std.specs.Io.KnownBytes.{Consumes, IsAtEnd}
use Rattle.std.specs.List.{concat, range_with_len}
use Rattle.std.specs.Prelude.{⊤}
use Rattle.aegis_files.specs.Opening.{messages_for, piece, piece_bytes, pieces_in, pieces_of}
use Rattle.aegis_files.proofs.Pieces.{concat-push}

-- The messages were read from t, and `rest` is left.
pub record AreFirst (t : List ℕ) (ms : List (List ℕ)) (rest : List ℕ) : Type 0 where
  pub are : ms ≡ map (piece t) (range_with_len 0 (length ms))
  pub some : length ms ≤ pieces_in (length t)
  pub short : length (concat ms) ≤ length ms * piece_bytes
  pub full : (length (concat ms) ≡ length ms * piece_bytes) ⊎ (rest ≡ [])

-- They are all of it.
pub record AreAll (t : List ℕ) (ms : List (List ℕ)) : Type 0 where
  pub whole : t ≡ concat ms
  pub are : ms ≡ pieces_of t
  pub count : length ms ≡ pieces_in (length t)

-- a message that was read and is not empty, before `left`
pub record IsNextPiece (m : List ℕ) (left : Option (List ℕ)) : Type 0 where
  pub some : 0 < length m
  pub within : length m ≤ piece_bytes
  pub end : length m < piece_bytes → IsAtEnd left

first_none : (t : List ℕ) → AreFirst t [] t
first_none t = record { are = refl; some = omega arith; short = omega arith; full = inl (omega arith) }

next_is : (t m rest : List ℕ) (ms : List (List ℕ)) → t ≡ concat ms ++ (m ++ rest) → length (concat ms) ≡ length ms * piece_bytes → length m ≤ piece_bytes
    → (length m < piece_bytes → rest ≡ []) → piece t (length ms) ≡ m
next_is t m rest ms is full within end =
    ap (λ (l : List ℕ). piece l (length ms)) is ∙ ap (take piece_bytes) (drop_at (concat ms) (m ++ rest) (length ms * piece_bytes) full)
    ∙ elim (cases_lt (length m) piece_bytes) [
      | inl short ↦ ap (λ (l : List ℕ). take piece_bytes (m ++ l)) (end short) ∙ ap (take piece_bytes) (append-nil m) ∙ take_all piece_bytes m within
      | inr long ↦ take_at m rest piece_bytes (omega (arith, long, within))
    ]

first_more : (t m rest : List ℕ) (ms : List (List ℕ)) → t ≡ concat ms ++ (m ++ rest) → AreFirst t ms (m ++ rest) → IsNextPiece m (Some rest) → AreFirst t (ms ++ m ∷ []) rest
first_more t m rest ms is f next = elim f.full [
  | inr none ↦ absurd (omega (arith, next.some, ap length none, length-append m rest))
  | inl full ↦ record {
    are = sym (ap (λ (k : ℕ). map (piece t) (range_with_len 0 k)) size ∙ map-range_with_len_more (piece t) 0 (length ms) (length ms) (omega arith)
        ∙ ap (λ (l : List (List ℕ)). l ++ piece t (length ms) ∷ []) (sym f.are) ∙ ap (λ (x : List ℕ). ms ++ x ∷ []) (next_is t m rest ms is full next.within next.end));
    some = le-div (length (ms ++ m ∷ [])) (length t + (piece_bytes - 1)) piece_bytes (omega arith) (omega (arith, size, full, next.some, sizes));
    short = omega (arith, size, full, next.within, joined);
    full = elim (cases_lt (length m) piece_bytes) [
      | inl short ↦ inr (next.end short)
      | inr long ↦ inl (omega (arith, size, full, long, next.within, joined))
    ];
  }
]
  where
    size : length (ms ++ m ∷ []) ≡ length ms + 1
    size = omega (arith, length-append ms (m ∷ []))

    joined : length (concat (ms ++ m ∷ [])) ≡ length (concat ms) + length m
    joined = ap length (concat-push ms m) ∙ length-append (concat ms) m

    sizes : length t ≡ length (concat ms) + (length m + length rest)
    sizes = ap length is ∙ length-append (concat ms) (m ++ rest) ∙ ap (λ (k : ℕ). length (concat ms) + k) (length-append m rest)

first_all : (t rest : List ℕ) (ms : List (List ℕ)) → t ≡ concat ms ++ rest → rest ≡ [] → AreFirst t ms rest → AreAll t ms
unfolding pieces_of
first_all t rest ms is none f = record { whole = whole; are = f.are ∙ ap (λ (k : ℕ). map (piece t) (range_with_len 0 k)) count; count = count }
  where
    whole : t ≡ concat ms
    whole = is ∙ ap (λ (l : List ℕ). concat ms ++ l) none ∙ append-nil (concat ms)

    count : length ms ≡ pieces_in (length t)
    count =
        let low = div_below (length t + (piece_bytes - 1)) piece_bytes (length ms + 1) (omega arith) (omega (arith, ap length whole, f.short)) in
        omega (arith, f.some, low)

-- the first pieces are the first messages of the file
pub first_messages : (t rest : List ℕ) (ms : List (List ℕ)) → AreFirst t ms rest → (more : List (List ℕ)) × (messages_for t ≡ ms ++ more)
unfolding pieces_of
first_messages t rest ms f =
    let all : List (List ℕ) = pieces_of t in
    let after : List (List ℕ) = drop (length ms) all ++ [] ∷ [] in (
      after,
      ap (λ (l : List (List ℕ)). l ++ [] ∷ []) (sym (take-append-drop (length ms) all)) ∙ append_assoc (take (length ms) all) (drop (length ms) all) ([] ∷ [])
          ∙ ap (λ (l : List (List ℕ)). l ++ after) (take-map-range_with_len (piece t) 0 (pieces_in (length t)) (length ms) f.some ∙ sym f.are),
    )

-- ---- of bytes that may be known

-- the same of contents that are known, of which `left` is left
abbrev pub IsCut : Option (List ℕ) → Option (List ℕ) → List (List ℕ) → Type 0
IsCut (Some t) (Some rest) ms = AreFirst t ms rest
IsCut contents left ms = ⊤

pub cut_none : (contents : Option (List ℕ)) → IsCut contents contents []
cut_none None = tt
cut_none (Some t) = first_none t

pub cut_more : (contents left left' : Option (List ℕ)) (ms : List (List ℕ)) (m : List ℕ) → Consumes contents left (concat ms) → Consumes left left' m → IsCut contents left ms
    → IsNextPiece m left' → IsCut contents left' (ms ++ m ∷ [])
cut_more None left left' ms m before read cut next = tt
cut_more (Some t) None left' ms m before read cut next = absurd before
cut_more (Some t) (Some all) None ms m before read cut next = absurd read
cut_more (Some t) (Some all) (Some rest) ms m before read cut next =
    first_more t m rest ms (before ∙ ap (λ (l : List ℕ). concat ms ++ l) read) (subst (AreFirst t ms) read cut) next

pub cut_end : (contents left left' : Option (List ℕ)) (ms : List (List ℕ)) → Consumes contents left (concat ms) → Consumes left left' [] → IsAtEnd left' → IsCut contents left ms
    → IfSome contents (λ t. AreAll t ms)
cut_end None left left' ms before read end cut = tt
cut_end (Some t) None left' ms before read end cut = absurd before
cut_end (Some t) (Some all) None ms before read end cut = absurd read
cut_end (Some t) (Some all) (Some rest) ms before read end cut = first_all t all ms before (read ∙ end) cut

-- what is known of the contents
pub known_cut : (contents left : Option (List ℕ)) (t rest : List ℕ) (ms : List (List ℕ)) → IsCut contents left ms → contents ≡ Some t → left ≡ Some rest → AreFirst t ms rest
known_cut contents left t rest ms cut known left_is = subst (λ c. IsCut c (Some rest) ms) known (subst (λ l. IsCut contents l ms) left_is cut)
