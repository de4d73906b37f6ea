use Rattle.std.proofs.Common.{◌≡◌, ◌∙◌, sym, ap, ℕ, ◌+◌, ◌*◌, slice_index, arith}
use Rattle.aegis_base.specs.Mac.{alone}
use Rattle.aegis_base.proofs.ContextFacts.{block-lane}
use Rattle.aegis_base.proofs.LaneFacts.{count_positive}
use Rattle.aegis_base.proofs.MessageFacts.{after-none}
use Rattle.aegis_engine.proofs.tag.folded.Goals as goal

pub loop-turn-init : goal.loop-turn-init
loop-turn-init g c = record {
  updates = omega arith;
  first = λ x same. sym (after-none (alone g.S.LaneState.VARIANT) (g.S.LaneState.lane c.args.end 0) 0 x);
}

pub loop-turn-preserved : goal.loop-turn-preserved
loop-turn-preserved g c = record {
  updates = omega arith;
  first = λ x same.
      let L = g.S.LaneState in let r : ℕ = c.rate_of_one-rate.result in let n : ℕ = c.loop-turn.turn in
      let before = c.loop-turn.invariant.first x (λ i low. same i (omega arith)) in
      c.absorb_in_each.ensures.lanes 0 (count_positive L.VARIANT.lanes g.met.S.LaneState.one_two_or_four)
      ∙ block-lane (alone L.VARIANT) (λ _. L.lane c.args.end 0) (λ _. L.lane c.loop-turn.state 0) x n
      (λ j inside. let zero : j ≡ 0 = omega arith in rw zero before) c.args.tags.now (c.args.from + n * r) 0 (omega arith)
      (λ k low.
      let here : c.args.from + n * r + k ≡ c.args.from + (n * r + k) = omega arith in
      ap (slice_index c.args.tags.now) here ∙ sym (same (n * r + k) (omega arith)) ∙ ap (λ (q : ℕ). slice_index x (n * q + k)) c.rate_of_one-rate.ensures);
}

pub returns-clause-first : goal.returns-clause-first
returns-clause-first g c x same =
    let done : c.args.turns ≡ c.loop-turn.turn = omega arith in
    rw done (c.loop-turn.invariant.first x (λ i low. same i (rw (done, ← c.rate_of_one-rate.ensures) low)))
