-- A destination as long as all chunks together keeps all of them.
use Rattle.std.proofs.Common.{◌≡◌, ◌∙◌, ◌+◌, ◌≤◌, ℕ, List, [], ◌∷◌, ◌++◌, length, refl, append_assoc, append-nil, arith}
use Rattle.std.specs.Borrow.{Bor}
use Rattle.std.proofs.lemmas.Bool.{le-leb}
use Rattle.std.proofs.lemmas.List.{length-append}
use Rattle.aegis_base.specs.Chunks.{accepted, accepted_after, joined, keep_chunk}
use Rattle.aegis_base.specs.declared.error.TheConstants.{MAX_AEAD_BYTES}

chunk_kept : (room : ℕ) (kept chunk : List ℕ) → length kept + length chunk ≤ room → room ≤ MAX_AEAD_BYTES → keep_chunk room kept chunk ≡ kept ++ chunk
chunk_kept room kept chunk low within =
    rw (le-leb (length kept + length chunk) room low, le-leb (length kept + length chunk) MAX_AEAD_BYTES (omega (arith, low, within))) refl

all_kept : (room : ℕ) (kept : List ℕ) (chunks : List (Bor (List ℕ))) → length kept + length (joined chunks) ≤ room → room ≤ MAX_AEAD_BYTES
    → accepted_after room kept chunks ≡ kept ++ joined chunks
unfolding accepted_after
all_kept room kept [] low within = rw append-nil refl
all_kept room kept (chunk ∷ chunks) low within =
    let parts : length (joined (chunk ∷ chunks)) ≡ length chunk.now + length (joined chunks) = length-append chunk.now (joined chunks) in
    let longer : length (kept ++ chunk.now) ≡ length kept + length chunk.now = length-append kept chunk.now in
    rw (chunk_kept room kept chunk.now (omega (arith, low, parts)) within)
    (all_kept room (kept ++ chunk.now) chunks (omega (arith, low, parts, longer)) within ∙ append_assoc kept chunk.now (joined chunks))

pub whole_accepted : (chunks : List (Bor (List ℕ))) (room : ℕ) → length (joined chunks) ≤ MAX_AEAD_BYTES → room ≡ length (joined chunks)
    → accepted room chunks ≡ joined chunks
whole_accepted chunks room within is = rw is (all_kept (length (joined chunks)) [] chunks (omega arith) within)
