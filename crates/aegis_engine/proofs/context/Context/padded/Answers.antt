use Rattle.std.proofs.Common.{◌≡◌, ◌∙◌, ap, refl, ℕ, ◌+◌, ◌%◌, length, arith}
use Rattle.aegis_base.specs.Variant.{rate}
use Rattle.aegis_base.specs.Message.{lane_before}
use Rattle.aegis_base.specs.Context.{Stands}
use Rattle.aegis_base.proofs.HeldFacts.{held-along}
use Rattle.aegis_base.proofs.MessageFacts.{block_count-part, block_count-whole, rate-positive}
use Rattle.aegis_base.proofs.ContextFacts.{padded-update, unpadded}
use Rattle.aegis_engine.proofs.PassFacts.{zeros-read}
use Rattle.aegis_engine.proofs.context.Context.padded.Goals as goal

pub returns-then-open-gt0-clause-lanes : goal.returns-then-open-gt0-clause-lanes
unfolding Stands
returns-then-open-gt0-clause-lanes g c key nonce ad m stands j inside =
    let L = g.S.LaneState in let s = c.self.inside in
    let is = rw (← c.self.view_is) at stands in
    let place : s.message_bytes % c.RATE.result ≡ length m % rate L.VARIANT =
    ap (λ (r : ℕ). s.message_bytes % r) (c.RATE.ensures ∙ g.met.S.LaneState.rate_is) ∙ ap (λ (n : ℕ). n % rate L.VARIANT) is.1 in
    let some = c.if-open-gt0.true in
    c.absorb_block.ensures.lanes j inside
    ∙ padded-update L.VARIANT (lane_before L.VARIANT key nonce ad) (L.lane s.state) s.block c.copy_part.new.target m g.met.S.LaneState.one_two_or_four
    (held-along L.VARIANT _ (L.lane s.state) s.block m _ is.3) (omega arith)
    (λ k low. let same : 0 + k ≡ k = omega arith in rw same at (c.copy_part.ensures.written k (omega arith)))
    (λ k high. c.copy_part.ensures.above k (omega arith) ∙ zeros-read 128 k)
    j inside

pub returns-then-open-gt0-clause-updates : goal.returns-then-open-gt0-clause-updates
unfolding Stands
returns-then-open-gt0-clause-updates g c key nonce ad m stands =
    let L = g.S.LaneState in let s = c.self.inside in
    let is = rw (← c.self.view_is) at stands in
    let place : s.message_bytes % c.RATE.result ≡ length m % rate L.VARIANT =
    ap (λ (r : ℕ). s.message_bytes % r) (c.RATE.ensures ∙ g.met.S.LaneState.rate_is) ∙ ap (λ (n : ℕ). n % rate L.VARIANT) is.1 in
    let some = c.if-open-gt0.true in
    let updated = is.2 in
    let last = block_count-part L.VARIANT (length m) (rate L.VARIANT) refl (rate-positive L.VARIANT g.met.S.LaneState.one_two_or_four) (omega arith) in
    omega (arith, c.absorb_block.ensures.updates)

pub returns-else-open-gt0-clause-lanes : goal.returns-else-open-gt0-clause-lanes
unfolding Stands
returns-else-open-gt0-clause-lanes g c key nonce ad m stands j inside =
    let L = g.S.LaneState in let s = c.self.inside in
    let is = rw (← c.self.view_is) at stands in
    let place : s.message_bytes % c.RATE.result ≡ length m % rate L.VARIANT =
    ap (λ (r : ℕ). s.message_bytes % r) (c.RATE.ensures ∙ g.met.S.LaneState.rate_is) ∙ ap (λ (n : ℕ). n % rate L.VARIANT) is.1 in
    let none = c.if-open-gt0.false in
    unpadded L.VARIANT (lane_before L.VARIANT key nonce ad) (L.lane s.state) s.block m g.met.S.LaneState.one_two_or_four
    (held-along L.VARIANT _ (L.lane s.state) s.block m _ is.3) (omega arith) j inside

pub returns-else-open-gt0-clause-updates : goal.returns-else-open-gt0-clause-updates
unfolding Stands
returns-else-open-gt0-clause-updates g c key nonce ad m stands =
    let L = g.S.LaneState in let s = c.self.inside in
    let is = rw (← c.self.view_is) at stands in
    let place : s.message_bytes % c.RATE.result ≡ length m % rate L.VARIANT =
    ap (λ (r : ℕ). s.message_bytes % r) (c.RATE.ensures ∙ g.met.S.LaneState.rate_is) ∙ ap (λ (n : ℕ). n % rate L.VARIANT) is.1 in
    let none = c.if-open-gt0.false in
    let updated = is.2 in
    let last = block_count-whole L.VARIANT (length m) (rate L.VARIANT) refl (rate-positive L.VARIANT g.met.S.LaneState.one_two_or_four) (omega arith) in
    omega arith
