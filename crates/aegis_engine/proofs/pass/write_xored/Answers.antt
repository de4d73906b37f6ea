use Rattle.std.proofs.Common.{◌≡◌, ◌∙◌, ap, ◌+◌, bit_xor, slice_index, arith}
use Rattle.aegis_base.specs.Message.{keystream_byte}
use Rattle.aegis_engine.proofs.pass.write_xored.Goals as goal

pub returns-clause-written : goal.returns-clause-written
returns-clause-written g c k low =
    let L = g.S.LaneState in
    let here : 0 + k ≡ k = omega arith in
    c.copy_part.ensures.written k (rw c.RATE.ensures low) ∙ c.xor_block.ensures.written k low
    ∙ ap (λ i. bit_xor (slice_index c.args.block.now i) (keystream_byte L.VARIANT (L.lane c.args.before) k)) here
