use Rattle.std.proofs.Common.{◌≡◌, ◌∙◌, sym, ℕ, ◌+◌, ◌*◌, ◌%◌, ◌++◌, List, append_assoc, length, arith}
use Rattle.aegis_aes.specs.Block.{bytes_at}
use Rattle.aegis_aes.proofs.Places.{get_or-bytes_at, length-bytes_at}
use Rattle.aegis_base.specs.Variant.{rate}
use Rattle.aegis_base.proofs.HeldFacts.{stands-block}
use Rattle.aegis_base.proofs.LaneFacts.{bytes_at-append}
use Rattle.aegis_base.proofs.MessageFacts.{rate-positive}
use Rattle.aegis_engine.proofs.PassFacts.{block-start}
use Rattle.aegis_engine.proofs.PieceFacts.{takes-none}
use Rattle.aegis_engine.proofs.pass.absorb_whole.Goals as goal

pub loop-i-init : goal.loop-i-init
unfolding bytes_at
loop-i-init g c = record {
  updates = omega arith;
  taken = λ block ad_bytes total unopened.
      let none : 0 * c.RATE-rate.result ≡ 0 = omega arith in
      let here : total + 0 ≡ total = omega arith in
      rw (none, here) (takes-none g.S.LaneState.VARIANT _);
}

pub loop-i-preserved : goal.loop-i-preserved
loop-i-preserved g c = record {
  updates = omega arith;
  taken = λ block ad_bytes total unopened key nonce ad m is.
      let L = g.S.LaneState in let r : ℕ = c.RATE-rate.result in let i : ℕ = c.loop-i.i in let here : ℕ = c.args.at + i * r in
      let bytes : List ℕ = c.args.bytes.now in let p : List ℕ = bytes_at bytes here r in
      let long : length p ≡ r = length-bytes_at bytes here r in
      let rate_is : r ≡ rate L.VARIANT = c.RATE-rate.ensures ∙ g.met.S.LaneState.rate_is in
      let before = c.loop-i.invariant.taken block ad_bytes total unopened key nonce ad m is in
      let none : (total + i * r) % rate L.VARIANT ≡ 0 =
      rw rate_is (block-start total i (rate L.VARIANT) (rate-positive L.VARIANT g.met.S.LaneState.one_two_or_four) (rw rate_is at (unopened (omega arith)))) in
      let next = stands-block L.VARIANT (L.lane c.loop-i.state) (L.updates c.loop-i.state) block ad_bytes (total + i * r) key nonce ad (m ++ bytes_at bytes c.args.at (i * r)) p before
      bytes block here (L.lane c.absorb.new.self) (L.updates c.absorb.new.self) g.met.S.LaneState.one_two_or_four (long ∙ rate_is) none c.absorb.ensures.updates
      c.absorb.ensures.lanes (λ k low. sym (get_or-bytes_at bytes here r k 0 (rw rate_is low))) in
      let more : (i + 1) * r ≡ i * r + r = omega arith in
      let end : total + i * r + r ≡ total + (i * r + r) = omega arith in
      rw (more, ← bytes_at-append bytes c.args.at (i * r) r, ← append_assoc m (bytes_at bytes c.args.at (i * r)) p) (rw (long, end) at next);
}

pub returns-clause-taken : goal.returns-clause-taken
returns-clause-taken g c block ad_bytes total unopened =
    let done : c.args.count ≡ c.loop-i.i = omega arith in
    rw (← c.RATE-rate.ensures, done) (c.loop-i.invariant.taken block ad_bytes total (rw c.RATE-rate.ensures unopened))
