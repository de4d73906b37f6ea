use Rattle.std.proofs.Common.{◌≤◌, length, take}
use Rattle.std.specs.Io.KnownBytes.{Consumes}
use Rattle.aegis_files.proofs.reading.fill.Given as goal

abbrev pub invariant-reads : goal.invariant-reads
invariant-reads g l = record {
  within : l.filled ≤ length l.buffer;
  read : Consumes (g.R.Read.remaining l.fn.input) (g.R.Read.remaining l.input) (take l.filled l.buffer);
}
