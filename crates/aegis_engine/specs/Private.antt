-- What the bodies and their proofs use, and no public contract.
use Rattle.std.specs.Prelude.{ℕ, ◌≤◌}
use Rattle.aegis_base.specs.Variant.{max_aead_bytes}

-- A message of so many bytes fits in a destination of `room` bytes.
pub record FitsRoom (message_bytes room : ℕ) : Type 0 where
  pub within : message_bytes ≤ room
  pub limit : message_bytes ≤ max_aead_bytes
