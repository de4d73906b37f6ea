-- One more piece.
use Rattle.aegis_lines.proofs.Pieces.{more_read}
use Rattle.aegis_lines.proofs.fields.bytes_of_each.Goals as goal

pub loop-piece-preserved : goal.loop-piece-preserved
loop-piece-preserved g c =
    rw c.in_ok-push.ensures.items (more_read c.args.pieces.now c.loop-piece.piece-index _ _ _ c.loop-piece-test.true c.in_ok-bytes.ensures c.loop-piece.invariant)
