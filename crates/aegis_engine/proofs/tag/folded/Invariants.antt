use Rattle.std.proofs.Common.{◌≡◌, ℕ, ◌+◌, ◌*◌, ◌<◌, List, slice_index}
use Rattle.aegis_base.specs.Mac.{alone}
use Rattle.aegis_base.specs.Message.{lane_after}
use Rattle.aegis_engine.proofs.tag.folded.Given as goal

abbrev pub invariant-loop-turn : goal.invariant-loop-turn
invariant-loop-turn g l = record {
  updates : g.S.LaneState.updates l.state ≡ g.S.LaneState.updates l.initial.state + l.turn;
  first : (x : List ℕ) → ((i : ℕ) → i < l.turn * l.rate → slice_index x i ≡ slice_index l.tags (l.from + i))
      → g.S.LaneState.lane l.state 0 ≡ lane_after (alone g.S.LaneState.VARIANT) (g.S.LaneState.lane l.initial.state 0) 0 x l.turn;
}
