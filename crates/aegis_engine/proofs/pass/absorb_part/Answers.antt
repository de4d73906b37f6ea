use Rattle.std.proofs.Common.{◌≡◌, ◌∙◌, sym, ap, ◌+◌, ◌%◌, ◌<◌, List, length, arith, ℕ}
use Rattle.aegis_aes.specs.Block.{bytes_at}
use Rattle.aegis_aes.proofs.Places.{get_or-bytes_at, length-bytes_at}
use Rattle.aegis_base.specs.Variant.{rate}
use Rattle.aegis_base.proofs.HeldFacts.{stands-full, stands-open}
use Rattle.aegis_engine.proofs.pass.absorb_part.Goals as goal

pub returns-then-place-count-clause-taken : goal.returns-then-place-count-clause-taken
returns-then-place-count-clause-taken g c ad_bytes key nonce ad m is =
    let L = g.S.LaneState in let t : ℕ = c.args.total in let n : ℕ = c.args.count in let next : List ℕ = c.copy_part.new.target in
    let p : List ℕ = bytes_at c.args.bytes.now c.args.at n in
    let long : length p ≡ n = length-bytes_at c.args.bytes.now c.args.at n in
    let place : t % c.RATE.result ≡ t % rate L.VARIANT = ap (λ (r : ℕ). t % r) (c.RATE.ensures ∙ g.met.S.LaneState.rate_is) in
    let full : t % rate L.VARIANT + length p ≡ rate L.VARIANT = rw (long, ← place, ← g.met.S.LaneState.rate_is, ← c.RATE-2.ensures) c.if-place-count.true in
    rw long at (stands-full L.VARIANT (L.lane c.args.state.now) (L.updates c.args.state.now) c.args.block.now ad_bytes t key nonce ad m p is next next
    (L.lane c.absorb.new.self) (L.updates c.absorb.new.self) g.met.S.LaneState.one_two_or_four
    (record {
      kept = λ k low. c.copy_part.ensures.below k (rw place low);
      taken = λ k low.
          let under : k < n = rw long at low in
          rw (← place) (c.copy_part.ensures.written k under ∙ sym (get_or-bytes_at c.args.bytes.now c.args.at n k 0 under));
    })
    full c.absorb.ensures.updates c.absorb.ensures.lanes)

pub returns-else-place-count-clause-taken : goal.returns-else-place-count-clause-taken
returns-else-place-count-clause-taken g c ad_bytes key nonce ad m is =
    let L = g.S.LaneState in let t : ℕ = c.args.total in let n : ℕ = c.args.count in let next : List ℕ = c.copy_part.new.target in
    let p : List ℕ = bytes_at c.args.bytes.now c.args.at n in
    let long : length p ≡ n = length-bytes_at c.args.bytes.now c.args.at n in
    let place : t % c.RATE.result ≡ t % rate L.VARIANT = ap (λ (r : ℕ). t % r) (c.RATE.ensures ∙ g.met.S.LaneState.rate_is) in
    let short : t % c.RATE.result + n < c.RATE-2.result =
    (let within = rw (← c.RATE.ensures) at c.requires.one_block in let e = c.RATE.ensures ∙ sym c.RATE-2.ensures in omega arith) in
    rw long at (stands-open L.VARIANT (L.lane c.args.state.now) (L.updates c.args.state.now) c.args.block.now ad_bytes t key nonce ad m p is next
    (record {
      kept = λ k low. c.copy_part.ensures.below k (rw place low);
      taken = λ k low.
          let under : k < n = rw long at low in
          rw (← place) (c.copy_part.ensures.written k under ∙ sym (get_or-bytes_at c.args.bytes.now c.args.at n k 0 under));
    })
    (rw (long, ← place, ← g.met.S.LaneState.rate_is, ← c.RATE-2.ensures) short))
