-- Messages that come in chunks.
use Rattle.std.specs.Prelude.{ℕ, ◌+◌, ◌++◌, ◌&&◌, List, [], ◌∷◌, drop, if◌then◌else◌, leb, length, map, replicate}
use Rattle.std.specs.Borrow.{Bor}
use Rattle.std.specs.List.{concat}
use Rattle.aegis_base.specs.Message.{Opens}
use Rattle.aegis_base.specs.Context.{KeyAndNonce}
use Rattle.aegis_base.specs.Variant.{Variant, max_aead_bytes}

-- the bytes of each slice, without where it lies in memory
abbrev pub texts : List (Bor (List ℕ)) → List (List ℕ)
texts slices = map (λ slice. slice.now) slices

-- the bytes of chunks, one after the other
abbrev pub joined : List (Bor (List ℕ)) → List ℕ
joined chunks = concat (map (λ chunk. chunk.now) chunks)

-- the kept bytes, and then one more chunk if it fits in a destination of `room` bytes and within the limit on a message
abbrev pub keep_chunk : ℕ → List ℕ → List ℕ → List ℕ
keep_chunk room kept chunk =
    if leb (length kept + length chunk) room && leb (length kept + length chunk) max_aead_bytes then kept ++ chunk else kept

-- the kept bytes after all of these chunks
unfoldable pub accepted_after : ℕ → List ℕ → List (Bor (List ℕ)) → List ℕ
accepted_after room kept [] = kept
accepted_after room kept (chunk ∷ chunks) = accepted_after room (keep_chunk room kept chunk.now) chunks

-- what a destination of `room` bytes keeps of chunks, in order: a chunk that does not fit is left out whole
abbrev pub accepted : ℕ → List (Bor (List ℕ)) → List ℕ
accepted room chunks = accepted_after room [] chunks

-- sealing m, under a cipher's key and nonce, gives what a destination of `room` bytes keeps of these chunks, and this tag
abbrev pub OpensChunks : (variant : Variant) (tag_bytes : ℕ) (cipher : KeyAndNonce) (ad : List ℕ) (room : ℕ) (chunks : List (Bor (List ℕ)))
    (tag m : List ℕ) → Type 0
OpensChunks variant tag_bytes cipher ad room chunks tag m =
    Opens variant tag_bytes cipher.key cipher.nonce ad (accepted room chunks) tag m

-- a destination that was `old`, after the n bytes written to its beginning were refused: n zeros, and then old bytes
abbrev pub zeroed : (n : ℕ) (old : List ℕ) → List ℕ
zeroed n old = replicate n 0 ++ drop n old
