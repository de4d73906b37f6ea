-- The part that fills the open block, the whole rate blocks and the rest follow each other.
use Rattle.std.proofs.Common.{◌≡◌, ℕ, ◌+◌, ◌-◌, ◌*◌, ◌/◌, ◌≤◌, length, arith}
use Rattle.std.proofs.Math.Nat.{div-mul-le_self}
use Rattle.aegis_base.proofs.LaneFacts.{bytes_at-all}
use Rattle.aegis_engine.proofs.PassFacts.{only-blocks, unopened-after}
use Rattle.aegis_engine.proofs.PieceFacts.{takes-thrice}
use Rattle.aegis_engine.proofs.context.absorb_bytes.Goals as goal

pub returns-clause-taken : goal.returns-clause-taken
returns-clause-taken g c ad_bytes =
    let L = g.S.LaneState in let t : ℕ = c.args.total in let len : ℕ = length c.args.bytes.now in
    let first : ℕ = c.filling-first.result in let n : ℕ = (len - first) / c.RATE.result in
    let floor : n * c.RATE.result ≤ len - first = div-mul-le_self (len - first) c.RATE.result in
    let fits : n * L.RATE ≤ len - first = rw (← c.RATE.ensures) floor in
    let place : t + (first + n * L.RATE) ≡ t + first + n * L.RATE = omega arith in
    let end : t + first + n * L.RATE + (len - (first + n * L.RATE)) ≡ t + len = omega arith in
    takes-thrice L.VARIANT _ _ _ _ c.args.bytes.now first (n * L.RATE) (len - (first + n * L.RATE)) (omega arith)
    (c.absorb_part.ensures.taken ad_bytes)
    (c.absorb_whole-state.ensures.taken c.absorb_part.new.block ad_bytes (t + first) (unopened-after t first len c.RATE.result L.RATE c.filling-first.ensures.fills))
    (rw (c.RATE-2.ensures, place, end) at (c.absorb_part-2.ensures.taken ad_bytes))

pub returns-then-first-rest-eq0-clause-taken : goal.returns-then-first-rest-eq0-clause-taken
returns-then-first-rest-eq0-clause-taken g c ad_bytes =
    let L = g.S.LaneState in let t : ℕ = c.args.total in let len : ℕ = length c.args.bytes.now in
    let are = only-blocks t c.filling-first.result len c.RATE.result c.RATE-2.result L.RATE c.RATE.ensures c.RATE-2.ensures c.if-first-rest-eq0.true c.filling-first.ensures.fills in
    rw (are.0, bytes_at-all c.args.bytes.now) at (c.absorb_whole.ensures.taken c.args.block.now ad_bytes t are.1)
