use Rattle.std.proofs.Common.{◌≡◌, ℕ, ◌+◌, ◌<◌}
use Rattle.aegis_base.specs.Lane.{last_input, update, times}
use Rattle.aegis_base.proofs.state.LaneState.finalize.Given as goal

abbrev pub invariant-loop-turn : goal.invariant-loop-turn
invariant-loop-turn g l = record {
  updates : g.Self.LaneState.updates l.state ≡ g.Self.LaneState.updates l.initial.state + l._turn;
  lanes : (j : ℕ) → j < g.Self.LaneState.VARIANT.lanes
      → g.Self.LaneState.lane l.state j
      ≡ times l._turn (λ r. update g.Self.LaneState.VARIANT.family r (last_input g.Self.LaneState.VARIANT.family (g.Self.Row.Row.block l.last j))) (g.Self.LaneState.lane l.initial.state j);
}
