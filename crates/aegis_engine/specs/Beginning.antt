-- What a decryptor holds, the number of bytes of the message so far, and these bytes, the beginning of its destination.
use Rattle.std.specs.Prelude.{ℕ, List, take}
use Rattle.aegis_aes.specs.declared.row.Row as row
use Rattle.aegis_base.specs.Context.{Held}
use Rattle.aegis_base.specs.declared.state.LaneState as lane_state
use Rattle.aegis_engine.specs.declared.decryptor.Decryptor.{Decryptor}

module _ {S R : Type 0} {n : ℕ} {L : lane_state.Ghosts S R} {r : row.Ghosts R} where
  abbrev pub held : Decryptor S n R L r → Held
  held d = d.context

  abbrev pub filled : Decryptor S n R L r → ℕ
  filled d = d.context.message_bytes

  abbrev pub decrypted : Decryptor S n R L r → List ℕ
  decrypted d = take d.context.message_bytes d.dst.now
