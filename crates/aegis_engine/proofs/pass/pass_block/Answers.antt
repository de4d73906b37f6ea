-- The lanes take in a local, whose bytes are those of the block before the xor, or after it, or zeros.
use Rattle.std.proofs.Common.{◌≡◌, ◌∙◌, ap, ◌+◌, arith}
use Rattle.aegis_base.specs.Lane.{update}
use Rattle.aegis_base.proofs.MessageFacts.{share_at-same}
use Rattle.aegis_engine.specs.Pass.{given}
use Rattle.aegis_engine.proofs.PassFacts.{absorbed-same}
use Rattle.aegis_engine.proofs.pass.pass_block.Goals as goal

pub returns-in-Seal-clause-lanes : goal.returns-in-Seal-clause-lanes
returns-in-Seal-clause-lanes g c j inside =
    let L = g.S.LaneState in
    let same = share_at-same L.VARIANT j c.copied_given-block.result (given c.args.source c.args.buffer.now) 0 c.args.at inside
    (λ k low. let here : 0 + k ≡ k = omega arith in rw here (c.copied_given-block.ensures k (rw g.met.S.LaneState.rate_is low))) in
    rw c.in-Seal.is (c.absorb.ensures.lanes j inside ∙ ap (update L.VARIANT.family (L.lane c.args.state.now j)) same)

pub returns-in_default-clause-lanes : goal.returns-in_default-clause-lanes
returns-in_default-clause-lanes g c j inside =
    let L = g.S.LaneState in
    let block = c.copied_given-block.result in let passed = c.write_xored-passed.result in
    let same = absorbed-same c.args.pass block passed (given c.args.source c.args.buffer.now) c.write_xored-passed.new.buffer 0 c.args.at L.RATE
    (λ k low. let here : 0 + k ≡ k = omega arith in rw here (c.copied_given-block.ensures k low))
    (λ k low. let here : 0 + k ≡ k = omega arith in rw here (c.write_xored-passed.ensures.result k low)) in
    c.absorb-in_default.ensures.lanes j inside
    ∙ ap (update L.VARIANT.family (L.lane c.args.state.now j)) (share_at-same L.VARIANT j c.selected.result _ 0 c.args.at inside
    (λ k low. rw c.selected.ensures (same k (rw g.met.S.LaneState.rate_is low))))
