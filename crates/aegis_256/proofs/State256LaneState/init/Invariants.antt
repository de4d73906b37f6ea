use Rattle.std.proofs.Common.{◌≡◌, ℕ, ◌+◌, ◌<◌}
use Rattle.aegis_aes.specs.Lanes.{context_block}
use Rattle.aegis_256.specs.Rows.{lane}
use Rattle.aegis_256.proofs.Turns.{turned}
use Rattle.aegis_256.proofs.State256LaneState.init.Given as goal

abbrev pub invariant-loop-i : goal.invariant-loop-i
invariant-loop-i g l = record {
  lanes : (j : ℕ) → j < g.P.Row.Row.LANES → lane g.P.Pair.block l.self j ≡ turned (context_block j g.P.Row.Row.LANES) l.blocks (lane g.P.Pair.block l.initial.self j) l.i;
  updates : l.self.updates ≡ l.initial.self.updates + l.i;
}
