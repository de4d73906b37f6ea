use Rattle.std.proofs.Common.{length}
use Rattle.aegis_lines.proofs.table.+first_fault.Given as goal

abbrev pub decreases-first_fault : goal.decreases-first_fault
decreases-first_fault g l = length l.kinds.now
