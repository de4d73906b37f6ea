use Rattle.std.proofs.Common.{◌≡◌, [], length, take}
use Rattle.aegis_base.specs.Chunks.{joined}
use Rattle.aegis_base.specs.Context.{Stands}
use Rattle.aegis_engine.proofs.context.begun.Given as goal

abbrev pub invariant-loop-piece : goal.invariant-loop-piece
invariant-loop-piece g l =
    let taken = joined (take l.piece-index l.ad) in
    record {
      counted : l.context.message_bytes ≡ length taken;
      stands : Stands g.S.LaneState.VARIANT l.context l.key l.nonce [] taken;
    }
