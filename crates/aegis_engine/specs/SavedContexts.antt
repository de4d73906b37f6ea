-- Saved contexts.
use Rattle.std.specs.Prelude.{◌≡◌, ℕ, ◌+◌, ◌/◌, List, ◌++◌}
use Rattle.aegis_base.specs.Variant.{Variant, rate}
use Rattle.aegis_base.specs.Message.{block_count, ciphertext}
use Rattle.aegis_base.specs.Context.{Held, Stands, held_by}
use Rattle.aegis_base.specs.SavedLanes.{saved_lane}
use Rattle.aegis_engine.specs.declared.saved.SavedContext.{SavedContext}

-- the mark of a context that was begun and has not ended: `aegis-ru` in ASCII
abbrev pub begun_mark : ℕ
begun_mark = 0x6165_6769_732d_7275

-- the values that a saved context holds; the number of updates is not saved, since it follows from the numbers of bytes
abbrev pub held_in : (variant : Variant) (context : SavedContext) → Held
held_in variant context =
    held_by variant (saved_lane variant context.rows) (block_count variant context.ad_bytes + context.message_bytes / rate variant)
    context.block context.ad_bytes context.message_bytes

-- `context` has the mark, and stands for this key, nonce, associated data and message so far
unfoldable pub IsSaved : (variant : Variant) (context : SavedContext) (key nonce ad m : List ℕ) → Type 0
IsSaved variant context key nonce ad m = (context.mark ≡ begun_mark) × Stands variant (held_in variant context) key nonce ad m

-- if `old` stands for some message, `new` stands for it with these bytes appended
abbrev pub HasTaken : (variant : Variant) (old new : SavedContext) (bytes : List ℕ) → Type 0
HasTaken variant old new bytes =
    (key nonce ad m : List ℕ) → IsSaved variant old key nonce ad m → IsSaved variant new key nonce ad (m ++ bytes)

-- the ciphertext of the message so far continues with `out` if the message continues with these bytes
abbrev pub HasSealed : (variant : Variant) (old : SavedContext) (bytes out : List ℕ) → Type 0
HasSealed variant old bytes out =
    (key nonce ad m : List ℕ) → IsSaved variant old key nonce ad m
    → ciphertext variant key nonce ad (m ++ bytes) ≡ ciphertext variant key nonce ad m ++ out

-- if `old` stands for some message, `new` stands for it with bytes appended, and its ciphertext has continued with c
abbrev pub HasChecked : (variant : Variant) (old new : SavedContext) (c : List ℕ) → Type 0
HasChecked variant old new c =
    (key nonce ad m : List ℕ) → IsSaved variant old key nonce ad m
    → ((p : List ℕ) × (IsSaved variant new key nonce ad (m ++ p))
    × (ciphertext variant key nonce ad (m ++ p) ≡ ciphertext variant key nonce ad m ++ c))
