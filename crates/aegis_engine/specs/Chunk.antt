-- A chunk of a ciphertext that is opened into the rest of a destination, after the message so far.
use Rattle.std.specs.Prelude.{◌≡◌, ℕ, ◌<◌, ◌≤◌, ◌↔◌, IsOk, List, Result, Err, drop, length, take}
use Rattle.aegis_base.specs.declared.error.Error.{Error}
use Rattle.aegis_base.specs.declared.error.Error.TheVariants as errors
use Rattle.aegis_base.specs.Variant.{max_aead_bytes}

-- The answer to a chunk with which the message would have so many bytes.
pub record AnswersChunk {A : Type 0} (message_bytes room : ℕ) (result : Result A Error) : Type 0 where
  -- the destination has no room for it
  pub too_small : (result ≡ Err errors.OutputBufferTooSmall) ↔ (room < message_bytes)
  -- there is room, but no message is so long
  pub too_long : (result ≡ Err errors.MessageTooLong) ↔ ((message_bytes ≤ room) × (max_aead_bytes < message_bytes))
  pub accepted : IsOk result ↔ ((message_bytes ≤ room) × (message_bytes ≤ max_aead_bytes))

-- A destination was `old` with a message of `before` bytes, and is `new` with one of `after` bytes. Nothing else has changed.
pub record AppendsChunk (old : List ℕ) (before : ℕ) (new : List ℕ) (after : ℕ) : Type 0 where
  pub grows : before ≤ after
  pub room : length new ≡ length old
  -- the message so far, and what lies after it
  pub beginning : take before new ≡ take before old
  pub rest : (n : ℕ) → after ≤ n → drop n new ≡ drop n old
