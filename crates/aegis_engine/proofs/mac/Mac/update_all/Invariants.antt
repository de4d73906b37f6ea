use Rattle.std.proofs.Common.{◌≡◌, ◌+◌, length, take}
use Rattle.aegis_base.specs.Chunks.{joined}
use Rattle.aegis_base.specs.Context.{Takes}
use Rattle.aegis_engine.proofs.mac.Mac.update_all.Given as goal

abbrev pub invariant-loop-chunk : goal.invariant-loop-chunk
invariant-loop-chunk g l = record {
  counted : l.self.message_bytes ≡ l.initial.self.message_bytes + length (joined (take l.chunk-index l.chunks));
  taken : Takes g.S.LaneState.VARIANT l.initial.self l.self (joined (take l.chunk-index l.chunks));
}
