-- The part that fills the open block, the whole rate blocks and the rest follow each other, and each leaves the others'
-- bytes of the buffer unchanged.
use Rattle.std.proofs.Common.{◌≡◌, ◌∙◌, sym, ap, List, ℕ, ◌+◌, ◌-◌, ◌*◌, ◌/◌, ◌≤◌, length, arith}
use Rattle.std.proofs.Math.Nat.{div-mul-le_self}
use Rattle.aegis_aes.specs.Block.{bytes_at}
use Rattle.aegis_base.specs.Context.{held_by}
use Rattle.aegis_base.proofs.LaneFacts.{bytes_at-same}
use Rattle.aegis_engine.specs.Pass.{IsPassed, given}
use Rattle.aegis_engine.proofs.PassFacts.{given-same, length-given, only-blocks, unopened-after}
use Rattle.aegis_engine.proofs.PieceFacts.{passed-all, passed-thrice}
use Rattle.aegis_engine.proofs.context.pass_bytes.Goals as goal

parts : (g : _) (c : goal.After-slice_known-6-1 g) (ad_bytes : ℕ)
    → IsPassed g.S.LaneState.VARIANT
    (held_by g.S.LaneState.VARIANT (g.S.LaneState.lane c.args.state) (g.S.LaneState.updates c.args.state) c.args.block.now ad_bytes c.args.total)
    (held_by g.S.LaneState.VARIANT (g.S.LaneState.lane c.pass_part-2.new.state) (g.S.LaneState.updates c.pass_part-2.new.state) c.pass_part-2.new.block ad_bytes
    (c.args.total + length c.args.mc.now)) c.args.pass (given c.args.source c.args.mc.now) c.pass_part-2.new.buffer
parts g c ad_bytes =
    let L = g.S.LaneState in let t : ℕ = c.args.total in let len : ℕ = length c.args.mc.now in
    let from = c.args.source in let old : List ℕ = c.args.mc.now in let source : List ℕ = given from old in
    let b0 : List ℕ = c.fill_part.new.buffer in let b1 : List ℕ = c.pass_part.new.buffer in let b2 : List ℕ = c.pass_whole-state.new.buffer in
    let b3 : List ℕ = c.fill_part-2.new.buffer in let out : List ℕ = c.pass_part-2.new.buffer in
    let first : ℕ = c.filling-first.result in let n : ℕ = (len - first) / c.RATE.result in
    let floor : n * c.RATE.result ≤ len - first = div-mul-le_self (len - first) c.RATE.result in
    let fits : n * L.RATE ≤ len - first = rw (← c.RATE.ensures) floor in
    let last : first + n * c.RATE-2.result ≡ first + n * L.RATE = ap (λ (r : ℕ). first + n * r) c.RATE-2.ensures in
    let place : t + (first + n * L.RATE) ≡ t + first + n * L.RATE = omega arith in
    let end : t + first + n * L.RATE + (len - (first + n * L.RATE)) ≡ t + len = omega arith in
    let size : length source ≡ len = length-given from old c.requires.lengths in
    let one : bytes_at b0 0 first ≡ bytes_at source 0 first = bytes_at-same b0 source 0 0 first (λ k low. c.fill_part.ensures.written k low) in
    let one' : bytes_at b1 0 first ≡ bytes_at out 0 first =
    bytes_at-same b1 out 0 0 first (λ k low. sym (c.pass_part-2.ensures.below (0 + k) (omega arith) ∙ c.fill_part-2.ensures.below (0 + k) (omega arith)
    ∙ c.pass_whole-state.ensures.below (0 + k) (omega arith))) in
    let two : bytes_at (given from b1) first (n * L.RATE) ≡ bytes_at source first (n * L.RATE) =
    bytes_at-same (given from b1) source first first (n * L.RATE) (λ k low. given-same from b1 old (first + k)
    (c.pass_part.ensures.above (first + k) (omega arith) ∙ c.fill_part.ensures.above (first + k) (omega arith))) in
    let two' : bytes_at b2 first (n * L.RATE) ≡ bytes_at out first (n * L.RATE) =
    bytes_at-same b2 out first first (n * L.RATE) (λ k low. sym (c.pass_part-2.ensures.below (first + k) (omega arith) ∙ c.fill_part-2.ensures.below (first + k) (omega arith))) in
    let three : bytes_at b3 (first + n * L.RATE) (len - (first + n * L.RATE)) ≡ bytes_at source (first + n * L.RATE) (len - (first + n * L.RATE)) =
    bytes_at-same b3 source (first + n * L.RATE) (first + n * L.RATE) (len - (first + n * L.RATE)) (λ k low.
    rw last at (c.fill_part-2.ensures.written k (rw last low)) ∙ given-same from b2 old (first + n * L.RATE + k)
    (c.pass_whole-state.ensures.above (first + n * L.RATE + k) (omega arith) ∙ c.pass_part.ensures.above (first + n * L.RATE + k) (omega arith)
    ∙ c.fill_part.ensures.above (first + n * L.RATE + k) (omega arith))) in
    passed-thrice L.VARIANT _ _ _ _ c.args.pass source out first (n * L.RATE) (len - (first + n * L.RATE)) (rw size (omega arith)) (rw size (omega arith))
    (rw (one, one') at (c.pass_part.ensures.passed ad_bytes))
    (rw (two, two') at (c.pass_whole-state.ensures.passed c.pass_part.new.block ad_bytes (t + first)
    (unopened-after t first len c.RATE.result L.RATE c.filling-first.ensures.fills)))
    (rw three at (rw (c.RATE-2.ensures, place, end) at (c.pass_part-2.ensures.passed ad_bytes)))

pub returns-clause-taken : goal.returns-clause-taken
returns-clause-taken g c ad_bytes = (parts g c ad_bytes).takes

pub returns-clause-written : goal.returns-clause-written
returns-clause-written g c ad_bytes = (parts g c ad_bytes).encrypts

-- a piece of whole rate blocks alone
blocks : (g : _) (c : goal.After-slice_known-then-first-rest-eq0-1 g) (ad_bytes : ℕ)
    → IsPassed g.S.LaneState.VARIANT
    (held_by g.S.LaneState.VARIANT (g.S.LaneState.lane c.args.state) (g.S.LaneState.updates c.args.state) c.args.block.now ad_bytes c.args.total)
    (held_by g.S.LaneState.VARIANT (g.S.LaneState.lane c.pass_whole.result) (g.S.LaneState.updates c.pass_whole.result) c.args.block.now ad_bytes
    (c.args.total + length c.args.mc.now)) c.args.pass (given c.args.source c.args.mc.now) c.pass_whole.new.buffer
blocks g c ad_bytes =
    let L = g.S.LaneState in let t : ℕ = c.args.total in let len : ℕ = length c.args.mc.now in
    let are = only-blocks t c.filling-first.result len c.RATE.result c.RATE-2.result L.RATE c.RATE.ensures c.RATE-2.ensures c.if-first-rest-eq0.true c.filling-first.ensures.fills in
    passed-all L.VARIANT _ _ c.args.pass (given c.args.source c.args.mc.now) c.pass_whole.new.buffer len
    (length-given c.args.source c.args.mc.now c.requires.lengths) c.pass_whole.auto.buffer
    (rw are.0 at (c.pass_whole.ensures.passed c.args.block.now ad_bytes t are.1))

pub returns-then-first-rest-eq0-clause-taken : goal.returns-then-first-rest-eq0-clause-taken
returns-then-first-rest-eq0-clause-taken g c ad_bytes = (blocks g c ad_bytes).takes

pub returns-then-first-rest-eq0-clause-written : goal.returns-then-first-rest-eq0-clause-written
returns-then-first-rest-eq0-clause-written g c ad_bytes = (blocks g c ad_bytes).encrypts
