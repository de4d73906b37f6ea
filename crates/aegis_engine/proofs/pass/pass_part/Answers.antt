use Rattle.std.proofs.Common.{◌≡◌, ◌∙◌, sym, ◌+◌, length, refl, arith}
use Rattle.aegis_aes.specs.Block.{bytes_at}
use Rattle.aegis_engine.proofs.PassFacts.{part-passed, zeros-read}
use Rattle.aegis_engine.proofs.PieceFacts.{passed-none}
use Rattle.aegis_engine.proofs.pass.pass_part.Goals as goal

pub returns-then-count-eq0-clause-passed : goal.returns-then-count-eq0-clause-passed
unfolding bytes_at
returns-then-count-eq0-clause-passed g c ad_bytes =
    let here : c.args.total + 0 ≡ c.args.total = omega arith in
    rw (c.if-count-eq0.true, here) (passed-none g.S.LaneState.VARIANT _ c.args.pass)

pub returns-in-Seal-clause-passed : goal.returns-in-Seal-clause-passed
returns-in-Seal-clause-passed g c ad_bytes =
    let L = g.S.LaneState in
    part-passed L.VARIANT (L.lane c.args.state.now) (L.updates c.args.state.now) c.args.block.now ad_bytes c.args.total c.args.pass c.args.buffer.now c.xor_part.new.buffer
    c.args.at c.args.count g.met.S.LaneState.one_two_or_four (rw g.met.S.LaneState.rate_is at c.requires.one_block)
    (λ k low. rw g.met.S.LaneState.rate_is at (c.xor_part.ensures.written k low))
    _ c.copy_part.new.target 0
    (λ k low. rw c.in-Seal.is (c.copy_part.ensures.written k low))
    (c.absorb_part.ensures.taken ad_bytes)

pub returns-in-Open-clause-passed : goal.returns-in-Open-clause-passed
returns-in-Open-clause-passed g c ad_bytes =
    let L = g.S.LaneState in
    part-passed L.VARIANT (L.lane c.args.state.now) (L.updates c.args.state.now) c.args.block.now ad_bytes c.args.total c.args.pass c.args.buffer.now c.xor_part-in-Open.new.buffer
    c.args.at c.args.count g.met.S.LaneState.one_two_or_four (rw g.met.S.LaneState.rate_is at c.requires.one_block)
    (λ k low. rw g.met.S.LaneState.rate_is at (c.xor_part-in-Open.ensures.written k low))
    _ c.xor_part-in-Open.new.buffer c.args.at
    (λ k low. rw c.in-Open.is refl)
    (c.absorb_part-in-Open.ensures.taken ad_bytes)

pub returns-in-Keystream-clause-passed : goal.returns-in-Keystream-clause-passed
returns-in-Keystream-clause-passed g c ad_bytes =
    let L = g.S.LaneState in
    part-passed L.VARIANT (L.lane c.args.state.now) (L.updates c.args.state.now) c.args.block.now ad_bytes c.args.total c.args.pass c.args.buffer.now c.xor_part-in-Keystream.new.buffer
    c.args.at c.args.count g.met.S.LaneState.one_two_or_four (rw g.met.S.LaneState.rate_is at c.requires.one_block)
    (λ k low. rw g.met.S.LaneState.rate_is at (c.xor_part-in-Keystream.ensures.written k low))
    _ _ 0
    (λ k low. rw c.in-Keystream.is (zeros-read 128 (0 + k) ∙ sym (zeros-read (length c.args.buffer.now) (c.args.at + k))))
    (c.absorb_part-in-Keystream.ensures.taken ad_bytes)
