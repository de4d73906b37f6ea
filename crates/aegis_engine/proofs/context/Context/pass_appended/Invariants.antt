use Rattle.std.proofs.Common.{◌≡◌, ◌+◌, length}
use Rattle.std.specs.Slice.Iter.{chunks_rest}
use Rattle.aegis_engine.proofs.PieceFacts.{IsDone}
use Rattle.aegis_engine.proofs.context.Context.pass_appended.Given as goal

abbrev pub invariant-loop-piece : goal.invariant-loop-piece
invariant-loop-piece g l =
    let rest = chunks_rest l.piece-iterator in
    record {
      can_next : (goal.iterator-loop-piece g).can_next l.piece-iterator;
      is_finite : (goal.iterator-loop-piece g).is_finite l.piece-iterator;
      message_bytes : l.self.message_bytes + length rest ≡ l.initial.self.message_bytes + length l.source;
      done : IsDone g.S.LaneState.VARIANT l.initial.self l.self l.pass l.source rest l.out.items;
    }
