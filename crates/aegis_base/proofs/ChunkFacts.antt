-- The bytes of chunks, chunk by chunk.
use Rattle.std.proofs.Common.{◌≡◌, ◌∙◌, sym, ap, refl, ℕ, ◌+◌, ◌<◌, ◌≤◌, List, [], ◌++◌, length, get_or, take, drop, arith}
use Rattle.std.specs.Borrow.{Bor}
use Rattle.std.proofs.lemmas.List.{take_more, take-append-drop, map-append, append-nil, length-append}
use Rattle.std.proofs.lemmas.List.Folds.{concat-append}
use Rattle.aegis_base.specs.Chunks.{joined}

-- a chunk past the end
abbrev pub no_chunk : Bor (List ℕ)
no_chunk = record { ref_ptr = (0, 0); now = [] }

pub joined-append : (beginning rest : List (Bor (List ℕ))) → joined (beginning ++ rest) ≡ joined beginning ++ joined rest
joined-append beginning rest = rw (map-append, concat-append) refl

pub joined-more : (chunks : List (Bor (List ℕ))) (i : ℕ) → i < length chunks
    → joined (take (i + 1) chunks) ≡ joined (take i chunks) ++ (get_or chunks i no_chunk).now
joined-more chunks i low = rw (take_more chunks i no_chunk low, map-append, concat-append, append-nil) refl

-- the first chunks have no more bytes than all
pub joined-within : (chunks : List (Bor (List ℕ))) (i : ℕ) → length (joined (take i chunks)) ≤ length (joined chunks)
joined-within chunks i =
    let all : joined chunks ≡ joined (take i chunks) ++ joined (drop i chunks) =
    ap joined (sym (take-append-drop i chunks)) ∙ joined-append (take i chunks) (drop i chunks) in
    omega (arith, ap length all, length-append (joined (take i chunks)) (joined (drop i chunks)))

-- the first chunks and the next one have no more bytes than all
pub chunk-within : (chunks : List (Bor (List ℕ))) (i : ℕ) → i < length chunks
    → length (joined (take i chunks)) + length (get_or chunks i no_chunk).now ≤ length (joined chunks)
chunk-within chunks i low =
    omega (arith, ap length (joined-more chunks i low), length-append (joined (take i chunks)) (get_or chunks i no_chunk).now, joined-within chunks (i + 1))

-- what a count of the bytes of chunks uses
pub ruleset chunk_laws = (joined-more, joined-within, length-append)
