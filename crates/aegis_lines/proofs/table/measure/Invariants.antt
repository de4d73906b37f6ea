use Rattle.std.proofs.Common.{◌≤◌, ◌+◌, ◌*◌, ◌^◌}
use Rattle.aegis_lines.proofs.Pieces.{AreMeasured}
use Rattle.aegis_lines.proofs.table.measure.Given as goal

abbrev pub invariant-loop-piece : goal.invariant-loop-piece
invariant-loop-piece l = record {
  are : AreMeasured l.pieces l.piece-index l.are_bytes l.are_messages l.total l.records;
  total : l.total ≤ 2 ^ 63 * l.piece-index;
  records : l.records ≤ 4 + 2 ^ 64 * l.piece-index;
}
