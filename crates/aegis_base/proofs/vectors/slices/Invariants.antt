use Rattle.std.proofs.Common.{◌≡◌, map, take, vec_items}
use Rattle.aegis_base.specs.Chunks.{texts}
use Rattle.aegis_base.proofs.vectors.slices.Given as goal

-- The slices are those of the vectors so far.
abbrev pub invariant-loop-vector : goal.invariant-loop-vector
invariant-loop-vector g l = texts l.slices.items ≡ map vec_items (take l.vector-index l.vectors)
