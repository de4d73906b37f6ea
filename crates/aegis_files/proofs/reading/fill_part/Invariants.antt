use Rattle.std.proofs.Common.{◌-◌, ◌≤◌}
use Rattle.aegis_files.specs.Private.{ReadsPart}
use Rattle.aegis_files.proofs.reading.fill_part.Given as goal

abbrev pub invariant-steps : goal.invariant-steps
invariant-steps g l = record {
  read : ReadsPart l.fn.buffer.items l.buffer.items l.fn.from l.end l.end (g.R.Read.remaining l.fn.input) (g.R.Read.remaining l.input);
  below : l.end ≤ l.to;
}

abbrev pub decreases-steps : goal.decreases-steps
decreases-steps g l = l.to - l.end
