use Rattle.std.proofs.Common.{◌≡◌, ℕ, ◌+◌, ◌<◌}
use Rattle.aegis_aes.specs.Lanes.{context_block}
use Rattle.aegis_base.specs.Lane.{init_turn, times}
use Rattle.aegis_base.specs.Variant.{Family128}
use Rattle.aegis_128.specs.Rows.{lane}
use Rattle.aegis_128.proofs.State128LaneState.init.Given as goal

abbrev pub invariant-loop-turn : goal.invariant-loop-turn
invariant-loop-turn g l = record {
  lanes : (j : ℕ) → j < g.P.Row.Row.LANES
      → lane g.P.Pair.block l.self j
      ≡ times l._turn (init_turn Family128 l.key l.nonce (context_block j g.P.Row.Row.LANES)) (lane g.P.Pair.block l.initial.self j);
  updates : l.self.updates ≡ l.initial.self.updates + l._turn;
}
