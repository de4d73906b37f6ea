use Rattle.std.proofs.Common.{◌≡◌, map, take, vec_items}
use Rattle.aegis_base.specs.Chunks.{texts}
use Rattle.aegis_lines.specs.Answer.{bytes_of}
use Rattle.aegis_lines.proofs.fields.bytes_of_each.Given as goal

abbrev pub invariant-loop-piece : goal.invariant-loop-piece
invariant-loop-piece g l = map vec_items l.read.items ≡ map bytes_of (take l.piece-index (texts l.pieces))
