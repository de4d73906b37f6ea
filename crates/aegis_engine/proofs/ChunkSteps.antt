-- What a destination keeps of chunks, after one more chunk.
use Rattle.std.proofs.Common.{◌≡◌, ◌∙◌, sym, ap, subst, refl, ℕ, ◌+◌, ◌<◌, ◌≤◌, ◌⊎◌, inl, inr, true, false, List, [], ◌∷◌, ◌++◌, length, get_or, take, Result, arith}
use lib.Dec.{T}
use Rattle.std.specs.Prelude.{◌↔◌, IsOk, OnOk, OnErr, leb}
use Rattle.std.specs.declared.result.Result.TheVariants.{Ok, Err}
use Rattle.std.specs.Borrow.{Bor}
use Rattle.std.proofs.lemmas.Bool.{le-leb}
use Rattle.std.proofs.lemmas.Bool.Decides.{leb_tells}
use Rattle.std.proofs.lemmas.List.{take_more, length-append}
use Rattle.aegis_base.specs.declared.error.TheConstants.{MAX_AEAD_BYTES}
use Rattle.aegis_base.specs.Chunks.{accepted_after, keep_chunk}
use Rattle.aegis_base.proofs.ChunkFacts.{no_chunk}

pub accepted-none : (room : ℕ) (kept : List ℕ) (chunks : List (Bor (List ℕ))) → accepted_after room kept (take 0 chunks) ≡ kept
unfolding accepted_after
accepted-none room kept chunks = refl

accepted-append : (room : ℕ) (kept : List ℕ) (chunks rest : List (Bor (List ℕ)))
    → accepted_after room kept (chunks ++ rest) ≡ accepted_after room (accepted_after room kept chunks) rest
unfolding accepted_after
accepted-append room kept [] rest = refl
accepted-append room kept (chunk ∷ chunks) rest = accepted-append room (keep_chunk room kept chunk.now) chunks rest

pub accepted-more : (room : ℕ) (kept : List ℕ) (chunks : List (Bor (List ℕ))) (i : ℕ) → i < length chunks
    → accepted_after room kept (take (i + 1) chunks) ≡ keep_chunk room (accepted_after room kept (take i chunks)) (get_or chunks i no_chunk).now
unfolding accepted_after
accepted-more room kept chunks i low =
    ap (accepted_after room kept) (take_more chunks i no_chunk low) ∙ accepted-append room kept (take i chunks) (get_or chunks i no_chunk ∷ [])

kept-whole : (room : ℕ) (kept chunk : List ℕ) → length kept + length chunk ≤ room → length kept + length chunk ≤ MAX_AEAD_BYTES
    → keep_chunk room kept chunk ≡ kept ++ chunk
kept-whole room kept chunk p q = rw (le-leb (length kept + length chunk) room p, le-leb (length kept + length chunk) MAX_AEAD_BYTES q) refl

left_out_by : (room : ℕ) (kept chunk : List ℕ) → ((length kept + length chunk ≤ room) × (length kept + length chunk ≤ MAX_AEAD_BYTES) → ⊥)
    → ((leb (length kept + length chunk) room ≡ true) × (length kept + length chunk ≤ room)) ⊎ ((leb (length kept + length chunk) room ≡ false) × (room < length kept + length chunk))
    → ((leb (length kept + length chunk) MAX_AEAD_BYTES ≡ true) × (length kept + length chunk ≤ MAX_AEAD_BYTES)) ⊎ ((leb (length kept + length chunk) MAX_AEAD_BYTES ≡ false) × (MAX_AEAD_BYTES < length kept + length chunk))
    → keep_chunk room kept chunk ≡ kept
left_out_by room kept chunk never (inl p) (inl q) = absurd (never (p.1, q.1))
left_out_by room kept chunk never (inl p) (inr q) = rw (p.0, q.0) refl
left_out_by room kept chunk never (inr p) q = rw p.0 refl

left-out : (room : ℕ) (kept chunk : List ℕ) → ((length kept + length chunk ≤ room) × (length kept + length chunk ≤ MAX_AEAD_BYTES) → ⊥)
    → keep_chunk room kept chunk ≡ kept
left-out room kept chunk never = left_out_by room kept chunk never (leb_tells (length kept + length chunk) room) (leb_tells (length kept + length chunk) MAX_AEAD_BYTES)

-- P holds exactly if a chunk of n bytes is kept after w bytes, in a destination of `here` bytes
abbrev pub TakesChunk : Type 0 → ℕ → ℕ → ℕ → Type 0
TakesChunk P w n here = P ↔ ((w + n ≤ here) × (w + n ≤ MAX_AEAD_BYTES))

takes_whole : (P : Type 0) (room w here : ℕ) (kept chunk : List ℕ) → length kept ≡ w → here ≡ room
    → TakesChunk P w (length chunk) here → P → keep_chunk room kept chunk ≡ kept ++ chunk
takes_whole P room w here kept chunk long same takes ok =
    let fits = takes.0 ok in kept-whole room kept chunk (omega (arith, long, same, fits.0)) (omega (arith, long, fits.1))

takes_none : (P : Type 0) (room w here : ℕ) (kept chunk : List ℕ) → length kept ≡ w → here ≡ room
    → TakesChunk P w (length chunk) here → (P → ⊥) → keep_chunk room kept chunk ≡ kept
takes_none P room w here kept chunk long same takes never =
    left-out room kept chunk (λ fits. never (takes.1 (omega (arith, long, same, fits.0), omega (arith, long, fits.1))))

pub kept-by : {T E : Type 0} (r : Result T E) (room w here : ℕ) (kept now chunk : List ℕ) → length kept ≡ w → here ≡ room
    → TakesChunk (IsOk r) w (length chunk) here → OnOk r (now ≡ kept ++ chunk) → OnErr r (now ≡ kept) → now ≡ keep_chunk room kept chunk
kept-by (Ok x) room w here kept now chunk long same takes is none =
    is ∙ sym (takes_whole (true ≡ true) room w here kept chunk long same takes refl)
kept-by (Err e) room w here kept now chunk long same takes is none =
    none ∙ sym (takes_none (false ≡ true) room w here kept chunk long same takes (λ ok. subst T (sym ok) tt))

pub counted-by : {T E : Type 0} (r : Result T E) (room w here more : ℕ) (kept chunk : List ℕ) → length kept ≡ w → here ≡ room
    → TakesChunk (IsOk r) w (length chunk) here → OnOk r (more ≡ w + length chunk) → OnErr r (more ≡ w) → more ≡ length (keep_chunk room kept chunk)
counted-by (Ok x) room w here more kept chunk long same takes is none =
    let whole = takes_whole (true ≡ true) room w here kept chunk long same takes refl in
    omega (arith, long, is, ap length whole, length-append kept chunk)
counted-by (Err e) room w here more kept chunk long same takes is none =
    let whole = takes_none (false ≡ true) room w here kept chunk long same takes (λ ok. subst T (sym ok) tt) in
    omega (arith, long, none, ap length whole)

pub on-ok : {T E P Q : Type 0} (r : Result T E) → OnOk r P → (P → Q) → OnOk r Q
on-ok (Ok x) p f = f p
on-ok (Err e) p f = tt

pub on-err : {T E P Q : Type 0} (r : Result T E) → OnErr r P → (P → Q) → OnErr r Q
on-err (Ok x) p f = tt
on-err (Err e) p f = f p
