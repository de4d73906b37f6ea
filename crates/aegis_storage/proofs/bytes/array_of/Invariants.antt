use Rattle.std.proofs.Common.{◌≡◌, length, take}
use Rattle.aegis_base.specs.Chunks.{joined}
use Rattle.aegis_storage.proofs.bytes.array_of.Given as goal

-- the parts so far
abbrev pub invariant-loop-part : goal.invariant-loop-part
invariant-loop-part g l =
    let taken = joined (take l.part-index l.parts) in
    record {
      counted : l.done ≡ length taken;
      whole : length l.bytes ≡ g.row.N;
      beginning : take l.done l.bytes ≡ taken;
    }
