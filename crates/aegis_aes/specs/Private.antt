-- What the bodies and their proofs use, and no public contract.
use Rattle.std.specs.Prelude.{◌≡◌, ℕ, zero, suc, ◌+◌, ◌<◌, ◌≤◌, List, ◌∷◌, slice_index, ◌++◌, drop, length, refl}
use Rattle.std.proofs.Common.{◌∙◌, sym, ap, arith}
use Rattle.std.proofs.lemmas.List.{append-nil, drop_all, drop_more}
use Rattle.aegis_aes.specs.Block.{block_at, bytes_at}

-- the bytes before place n are as they were
abbrev pub IsSameBefore : (n : ℕ) (old new : List ℕ) → Type 0
IsSameBefore n old new = (i : ℕ) → i < n → slice_index new i ≡ slice_index old i

-- the bytes from place n on are as they were
abbrev pub IsSameFrom : (n : ℕ) (old new : List ℕ) → Type 0
IsSameFrom n old new = (i : ℕ) → n ≤ i → slice_index new i ≡ slice_index old i

-- the n bytes from place i on, and then the rest of the list
front : (xs : List ℕ) (i n : ℕ) → i + n ≤ length xs → bytes_at xs i n ++ drop (i + n) xs ≡ drop i xs
unfolding bytes_at
front xs i zero room = let none : i + 0 ≡ i = omega arith in rw none refl
front xs i (suc n) room =
    let next : i + suc n ≡ (i + 1) + n = omega arith in
    let rest = front xs (i + 1) n (omega arith) in
    rw next ((λ k. slice_index xs i ∷ rest k) ∙ sym (drop_more xs i 0 (omega arith)))

last : (xs : List ℕ) (i : ℕ) → length xs ≡ i + 16 → block_at xs i ≡ drop i xs
last xs i long =
    sym (append-nil (block_at xs i)) ∙ ap (λ t. block_at xs i ++ t) (sym (drop_all (i + 16) xs (omega (arith, long)))) ∙ front xs i 16 (omega (arith, long))

-- 32 bytes are their first block and then their second
pub two_blocks : (xs : List ℕ) → length xs ≡ 32 → block_at xs 0 ++ block_at xs 16 ≡ xs
two_blocks xs long = ap (λ t. block_at xs 0 ++ t) (last xs 16 long) ∙ front xs 0 16 (omega (arith, long))
