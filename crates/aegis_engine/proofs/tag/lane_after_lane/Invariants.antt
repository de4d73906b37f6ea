use Rattle.std.proofs.Common.{◌≡◌, ℕ, ◌*◌, ◌<◌, ◌++◌}
use Rattle.aegis_aes.specs.Block.{bytes_at}
use Rattle.aegis_engine.proofs.tag.lane_after_lane.Given as goal

abbrev pub invariant-loop-lane : goal.invariant-loop-lane
invariant-loop-lane g l = (j : ℕ) → j < l.lane → bytes_at l.bytes (32 * j) 32 ≡ bytes_at l.firsts (16 * j) 16 ++ bytes_at l.seconds (16 * j) 16
