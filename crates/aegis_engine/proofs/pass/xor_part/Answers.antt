use Rattle.std.proofs.Common.{◌≡◌, ◌∙◌, ap, ℕ, ◌+◌, ◌%◌, bit_xor, arith}
use Rattle.aegis_base.specs.Message.{keystream_byte}
use Rattle.aegis_engine.proofs.pass.xor_part.Goals as goal

pub returns-clause-written : goal.returns-clause-written
returns-clause-written g c k low =
    let L = g.S.LaneState in
    let inside = c.requires.one_block in
    let read = c.RATE.ensures in
    let place : ℕ = c.args.total % c.RATE.result in
    let same : place ≡ c.args.total % L.RATE = ap (λ (r : ℕ). c.args.total % r) read in
    let from : 0 + (place + k) ≡ place + k = omega arith in
    rw (← same)
    (c.copy_part-2.ensures.written k low
    ∙ rw from at (c.xor_block.ensures.written (place + k) (omega arith))
    ∙ ap (λ (b : ℕ). bit_xor b (keystream_byte L.VARIANT (L.lane c.args.state.now) (place + k))) (c.copy_part.ensures.written k low))
