use Rattle.std.proofs.Common.{◌≤◌, length, take}
use Rattle.std.specs.Io.KnownBytes.{Appends}
use Rattle.aegis_files.proofs.write.write_whole.Given as goal

abbrev pub invariant-writes : goal.invariant-writes
invariant-writes g l = record {
  within : l.sent ≤ length l.bytes;
  written : Appends (g.W.Write.contents l.fn.output) (g.W.Write.contents l.output) (take l.sent l.bytes);
}
