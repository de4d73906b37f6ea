use Rattle.std.proofs.Common.{◌∙◌, ap, ℕ, take, get_or, length, append_assoc, arith}
use Rattle.std.proofs.lemmas.List.{length-append}
use Rattle.aegis_base.specs.Chunks.{joined}
use Rattle.aegis_base.proofs.ChunkFacts.{chunk-within, joined-more, no_chunk}
use Rattle.aegis_engine.proofs.mac.Mac.update_all.Goals as goal

pub update-requires : goal.update-requires
update-requires g c =
    let within = chunk-within c.args.chunks.now c.loop-chunk.chunk-index c.loop-chunk-test.true in
    omega (arith, c.loop-chunk.invariant.counted, c.requires)

pub loop-chunk-preserved : goal.loop-chunk-preserved
loop-chunk-preserved g c =
    let chunks = c.args.chunks.now in let i : ℕ = c.loop-chunk.chunk-index in
    let more = joined-more chunks i c.loop-chunk-test.true in
    let long = ap length more ∙ length-append (joined (take i chunks)) (get_or chunks i no_chunk).now in
    record {
      counted = omega (arith, c.loop-chunk.invariant.counted, c.update.ensures.length);
      taken = λ key nonce ad x is.
          rw (more, ← append_assoc x (joined (take i chunks)) (get_or chunks i no_chunk).now) (c.update.ensures.taken key nonce ad _ (c.loop-chunk.invariant.taken key nonce ad x is));
    }
