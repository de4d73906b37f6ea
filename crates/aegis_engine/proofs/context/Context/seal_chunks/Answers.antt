use Rattle.std.proofs.Common.{◌≡◌, ◌∙◌, ap, ℕ, take, get_or, length, ◌++◌, append_assoc, arith}
use Rattle.std.proofs.lemmas.Grind.{common_steps}
use Rattle.std.proofs.lemmas.List.{length-append}
use Rattle.aegis_base.specs.Chunks.{joined}
use Rattle.aegis_base.specs.Message.{ciphertext}
use Rattle.aegis_base.proofs.ChunkFacts.{chunk-within, joined-more, no_chunk}
use Rattle.aegis_engine.proofs.context.Context.seal_chunks.Goals as goal

pub overflow_add-end : goal.overflow_add-end
overflow_add-end g c =
    let more = chunk-within c.args.chunks.now c.loop-chunk.chunk-index c.loop-chunk-test.true in
    omega (arith, c.loop-chunk.invariant.at, c.requires.lengths, c.requires.within)

pub slice_bounds-part-end : goal.slice_bounds-part-end
slice_bounds-part-end g c =
    let more = chunk-within c.args.chunks.now c.loop-chunk.chunk-index c.loop-chunk-test.true in
    omega (arith, c.loop-chunk.invariant.at, c.loop-chunk.auto.out, c.requires.lengths)

pub pass-requires-clause-within : goal.pass-requires-clause-within
pass-requires-clause-within g c =
    let more = chunk-within c.args.chunks.now c.loop-chunk.chunk-index c.loop-chunk-test.true in
    omega (arith, c.loop-chunk.invariant.at, c.loop-chunk.invariant.counted, c.requires.lengths, c.requires.within, c.message_bytes.ensures)

pub loop-chunk-preserved : goal.loop-chunk-preserved
loop-chunk-preserved g c =
    let chunks = c.args.chunks.now in let i : ℕ = c.loop-chunk.chunk-index in
    let before = c.loop-chunk.invariant in
    let more = joined-more chunks i c.loop-chunk-test.true in
    let long = ap length more ∙ length-append (joined (take i chunks)) (get_or chunks i no_chunk).now in
    record {
      at = omega (arith, before.at, long);
      counted = omega (arith, before.counted, c.pass.ensures.length);
      taken = λ key nonce ad m is.
          rw (more, ← append_assoc m (joined (take i chunks)) (get_or chunks i no_chunk).now)
          (c.pass.ensures.taken key nonce ad _ (before.taken key nonce ad m is));
      written = λ key nonce ad m is.
          let C = ciphertext g.S.LaneState.VARIANT key nonce ad in
          let next : C ((m ++ joined (take i chunks)) ++ (get_or chunks i no_chunk).now) ≡ (C m ++ take c.loop-chunk.at c.loop-chunk.out) ++ c.pass.new.mc =
          rw (before.written key nonce ad m is) at (c.pass.ensures.written key nonce ad _ (before.taken key nonce ad m is)) in
          rw (more, ← append_assoc m (joined (take i chunks)) (get_or chunks i no_chunk).now) (next ∙ grind (arith, common_steps));
    }
