-- One more piece.
use Rattle.std.proofs.Common.{arith}
use Rattle.aegis_lines.proofs.Pieces.{more_measured}
use Rattle.aegis_lines.proofs.table.measure.Goals as goal

pub loop-piece-preserved : goal.loop-piece-preserved
loop-piece-preserved c = record {
  are = more_measured _ _ _ _ _ _ _ _ _ c.loop-piece-test.true c.is_bytes.ensures c.bytes_len-len.ensures.value c.loop-piece.invariant.are;
  total = omega (arith, c.loop-piece.invariant.total, c.bytes_len-len.ensures.bound);
  records = omega (arith, c.loop-piece.invariant.records, c.bytes_len-len.ensures.bound);
}
