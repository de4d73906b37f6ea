use Rattle.std.proofs.Common.{◌≡◌, ◌∙◌, sym, refl, ℕ, ◌+◌, ◌*◌, ◌%◌, ◌<◌, List, length, bit_xor, slice_index, arith}
use Rattle.aegis_aes.specs.Private.{IsSameBefore, IsSameFrom}
use Rattle.aegis_aes.specs.Block.{bytes_at}
use Rattle.aegis_aes.proofs.Places.{length-bytes_at}
use Rattle.aegis_base.specs.Lane.{update}
use Rattle.aegis_base.specs.Message.{keystream_byte, share_at}
use Rattle.aegis_base.specs.Variant.{rate}
use Rattle.aegis_base.proofs.LaneFacts.{bytes_at-append, bytes_at-same}
use Rattle.aegis_base.proofs.MessageFacts.{rate-positive}
use Rattle.aegis_engine.specs.Pass.{absorbed, given}
use Rattle.aegis_engine.proofs.PassFacts.{block-passed, block-start, given-same}
use Rattle.aegis_engine.proofs.PieceFacts.{passed-more, passed-none}
use Rattle.aegis_engine.proofs.pass.pass_whole.Goals as goal

pub loop-i-init : goal.loop-i-init
unfolding bytes_at
loop-i-init g c = record {
  updates = omega arith;
  passed = λ block ad_bytes total unopened.
      let none : 0 * c.RATE-rate.result ≡ 0 = omega arith in
      let here : total + 0 ≡ total = omega arith in
      rw (none, here) (passed-none g.S.LaneState.VARIANT _ c.args.pass);
  below = λ i low. refl;
  above = λ i high. refl;
}

pub loop-i-preserved : goal.loop-i-preserved
loop-i-preserved g c =
    let L = g.S.LaneState in let r : ℕ = c.RATE-rate.result in let i : ℕ = c.loop-i.i in let inv = c.loop-i.invariant in
    let at : ℕ = c.args.at in let here : ℕ = at + i * r in
    let old : List ℕ = c.args.buffer.now in let now : List ℕ = c.loop-i.buffer in
    let new : List ℕ = c.pass_block.new.buffer in let source : List ℕ = given c.args.source old in let next : List ℕ = given c.args.source now in
    let turn = c.pass_block.ensures in
    let rate_is : r ≡ rate L.VARIANT = c.RATE-rate.ensures ∙ g.met.S.LaneState.rate_is in
    record {
      updates = omega arith;
      passed = λ block ad_bytes total unopened.
          let none : (total + i * r) % r ≡ 0 =
          block-start total i r (rw rate_is (rate-positive L.VARIANT g.met.S.LaneState.one_two_or_four)) (unopened (omega arith)) in
          let passed = block-passed L.VARIANT (L.lane c.loop-i.state) (L.lane c.pass_block.new.state) (L.updates c.loop-i.state) (L.updates c.pass_block.new.state)
          block ad_bytes (total + i * r) c.args.pass next new here r g.met.S.LaneState.one_two_or_four rate_is none turn.updates
          (λ k low. turn.written k (rw (← c.RATE-rate.ensures) low)) turn.lanes in
          let kept : bytes_at now at (i * r) ≡ bytes_at new at (i * r) = bytes_at-same now new at at (i * r) (λ k low. sym (turn.below (at + k) (omega arith))) in
          let fresh : bytes_at next here r ≡ bytes_at source here r =
          bytes_at-same next source here here r (λ k low. given-same c.args.source now old (here + k) (inv.above (here + k) (omega arith))) in
          let size : length (bytes_at new at (i * r)) ≡ length (bytes_at source at (i * r)) = length-bytes_at new at (i * r) ∙ sym (length-bytes_at source at (i * r)) in
          let more : (i + 1) * r ≡ i * r + r = omega arith in
          let end : total + i * r + r ≡ total + (i * r + r) = omega arith in
          rw (more, ← bytes_at-append source at (i * r) r, ← bytes_at-append new at (i * r) r)
          (passed-more L.VARIANT _ _ _ c.args.pass (bytes_at source at (i * r)) _ (bytes_at new at (i * r)) _ size (rw kept at (inv.passed block ad_bytes total unopened)) (rw (fresh, end) at passed));
      below = λ q low. turn.below q (omega arith) ∙ inv.below q low;
      above = λ q high.
          turn.above q (rw (← c.RATE-rate.ensures) (omega arith)) ∙ inv.above q (omega arith);
    }

pub returns-clause-passed : goal.returns-clause-passed
returns-clause-passed g c block ad_bytes total unopened =
    let done : c.args.count ≡ c.loop-i.i = omega arith in
    rw (← c.RATE-rate.ensures, done) (c.loop-i.invariant.passed block ad_bytes total (rw c.RATE-rate.ensures unopened))
