-- What the pieces of contents are.
use Rattle.std.proofs.Common.{◌≡◌, ℕ, zero, suc, ◌+◌, ◌-◌, ◌*◌, ◌<◌, ◌≤◌, List, [], ◌∷◌, ◌++◌, drop, length, map, take, refl, sym, ap, subst, ◌∙◌, arith}
use Rattle.std.proofs.Math.Seq.{take-add}
use Rattle.std.proofs.lemmas.List.{length-append, length-drop, length-take, take_all, take_at}
use Rattle.std.proofs.lemmas.List.FromFn.{length-map-range_with_len, map-range_with_len_more, take-map-range_with_len}
use Rattle.std.proofs.lemmas.Nat.{div-add-mod', mod_below}
use Rattle.std.specs.List.{AllByRecursion, concat, range_with_len}
use Rattle.aegis_files.specs.Opening.{piece, piece_bytes, pieces_in, pieces_of}
use Rattle.aegis_files.proofs.Pieces.{concat-push}

pub count_is : (t : List ℕ) → length (pieces_of t) ≡ pieces_in (length t)
unfolding pieces_of
count_is t = length-map-range_with_len (piece t) 0 (pieces_in (length t))

-- they have room for all of the contents, and fewer of them do not
rounded : (n : ℕ) → (n ≤ pieces_in n * piece_bytes) × (pieces_in n * piece_bytes ≤ n + (piece_bytes - 1))
rounded n =
    let all = div-add-mod' (n + (piece_bytes - 1)) piece_bytes in
    let rest = mod_below (n + (piece_bytes - 1)) piece_bytes (omega arith) in
    (omega (arith, all, rest), omega (arith, all))

joined_to : (t : List ℕ) (k : ℕ) → concat (map (piece t) (range_with_len 0 k)) ≡ take (k * piece_bytes) t
joined_to t zero = refl
joined_to t (suc k) =
    let next : suc k ≡ k + 1 = omega arith in
    let more : suc k * piece_bytes ≡ k * piece_bytes + piece_bytes = omega arith in
    ap (λ (n : ℕ). concat (map (piece t) (range_with_len 0 n))) next ∙ ap concat (map-range_with_len_more (piece t) 0 k k (omega arith))
    ∙ concat-push (map (piece t) (range_with_len 0 k)) (piece t k) ∙ ap (λ (l : List ℕ). l ++ piece t k) (joined_to t k)
    ∙ sym (take-add (k * piece_bytes) piece_bytes t) ∙ ap (λ (n : ℕ). take n t) (sym more)

pub joined_is : (t : List ℕ) → concat (pieces_of t) ≡ t
unfolding pieces_of
joined_is t = joined_to t (pieces_in (length t)) ∙ take_all (pieces_in (length t) * piece_bytes) t (rounded (length t)).0

-- a property of each element of a list that is made from numbers
all_made : (P : List ℕ → Type 0) (f : ℕ → List ℕ) (a n : ℕ) → ((k : ℕ) → k < a + n → P (f k)) → AllByRecursion P (map f (range_with_len a n))
all_made P f a zero each = tt
all_made P f a (suc n) each = (each a (omega arith), all_made P f (a + 1) n (λ k low. each k (omega (arith, low))))

pub all_within : (t : List ℕ) → AllByRecursion (λ m. (0 < length m) × (length m ≤ piece_bytes)) (pieces_of t)
unfolding pieces_of
all_within t = all_made _ (piece t) 0 (pieces_in (length t)) (λ k low.
    let size = length-take piece_bytes (drop (k * piece_bytes) t) in
    let left = length-drop (k * piece_bytes) t in
    let most = (rounded (length t)).1 in
    (omega (arith, low, size, left, most), omega (arith, size)))

pub all_full : (t : List ℕ) (before : List (List ℕ)) (last : List ℕ) → pieces_of t ≡ before ++ last ∷ [] → AllByRecursion (λ m. length m ≡ piece_bytes) before
unfolding pieces_of
all_full t before last is =
    let count : length before + 1 ≡ pieces_in (length t) = omega (arith, count_is t, ap length is, length-append before (last ∷ [])) in
    let most = (rounded (length t)).1 in
    let are : map (piece t) (range_with_len 0 (length before)) ≡ before =
    sym (take-map-range_with_len (piece t) 0 (pieces_in (length t)) (length before) (omega (arith, count))) ∙ ap (take (length before)) is ∙ take_at before (last ∷ []) (length before) refl in
    subst (AllByRecursion (λ m. length m ≡ piece_bytes)) are (all_made _ (piece t) 0 (length before) (λ k low.
    omega (arith, low, count, most, length-take piece_bytes (drop (k * piece_bytes) t), length-drop (k * piece_bytes) t)))
