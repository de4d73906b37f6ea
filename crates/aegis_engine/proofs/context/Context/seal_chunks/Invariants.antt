use Rattle.std.proofs.Common.{◌≡◌, ◌+◌, length, take}
use Rattle.aegis_base.specs.Chunks.{joined}
use Rattle.aegis_base.specs.Context.{Encrypts, Takes}
use Rattle.aegis_engine.proofs.context.Context.seal_chunks.Given as goal

abbrev pub invariant-loop-chunk : goal.invariant-loop-chunk
invariant-loop-chunk g l =
    let sealed = joined (take l.chunk-index l.chunks) in
    record {
      at : l.at ≡ length sealed;
      counted : l.self.message_bytes ≡ l.initial.self.message_bytes + l.at;
      taken : Takes g.S.LaneState.VARIANT l.initial.self l.self sealed;
      written : Encrypts g.S.LaneState.VARIANT l.initial.self sealed (take l.at l.out);
    }
