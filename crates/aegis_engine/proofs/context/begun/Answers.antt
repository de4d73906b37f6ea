-- The associated data is first the input of a context without associated data, and its end is the beginning of the
-- message.
use Rattle.std.proofs.Common.{◌≡◌, ◌∙◌, ap, refl, ℕ, [], List, get_or, length, take, arith}
use Rattle.std.proofs.Math.Nat.{div-eq_of_lt}
use Rattle.std.proofs.lemmas.List.{length-append, take_all}
use Rattle.aegis_base.specs.Chunks.{joined}
use Rattle.aegis_base.specs.Message.{after_all, block_count}
use Rattle.aegis_base.specs.Context.{Held}
use Rattle.aegis_base.proofs.ChunkFacts.{chunk-within, joined-more, no_chunk}
use Rattle.aegis_base.proofs.MessageFacts.{before-none, rate-positive}
use Rattle.aegis_engine.proofs.KeystreamFacts.{stands-started}
use Rattle.aegis_engine.proofs.context.begun.Goals as goal

pub loop-piece-init : goal.loop-piece-init
loop-piece-init g c =
    let L = g.S.LaneState in
    record {
      counted = refl;
      stands = stands-started L.VARIANT (L.lane c.new.result) (L.updates c.new.result) _ c.args.key.now c.args.nonce.now
          g.met.S.LaneState.one_two_or_four c.new.ensures.updates c.new.ensures.lanes;
    }

pub overflow_add-total : goal.overflow_add-total
overflow_add-total g c =
    let within = chunk-within c.args.ad.now c.loop-piece.piece-index c.loop-piece-test.true in
    omega (arith, c.loop-piece.invariant.counted, c.requires.associated_data_within, c.message_bytes.ensures)

pub absorb-requires-clause-within : goal.absorb-requires-clause-within
absorb-requires-clause-within g c =
    let within = chunk-within c.args.ad.now c.loop-piece.piece-index c.loop-piece-test.true in
    omega (arith, c.loop-piece.invariant.counted, c.requires.associated_data_within, c.message_bytes.ensures)

pub loop-piece-preserved : goal.loop-piece-preserved
loop-piece-preserved g c =
    let ad = c.args.ad.now in let i : ℕ = c.loop-piece.piece-index in
    let more = joined-more ad i c.loop-piece-test.true in
    let long = ap length more ∙ length-append (joined (take i ad)) (get_or ad i no_chunk).now in
    record {
      counted = omega (arith, c.loop-piece.invariant.counted, c.absorb.ensures.length);
      stands = rw more (c.absorb.ensures.taken c.args.key.now c.args.nonce.now [] _ c.loop-piece.invariant.stands);
    }

pub padded-requires : goal.padded-requires
padded-requires g c =
    let all = ap joined (take_all c.loop-piece.piece-index c.args.ad.now (omega (arith, c.loop-piece-test.false))) in
    omega (arith, c.loop-piece.invariant.counted, ap length all, c.requires.associated_data_within)

pub returns-clause-lanes : goal.returns-clause-lanes
returns-clause-lanes g c j inside =
    let L = g.S.LaneState in let key = c.args.key.now in let nonce = c.args.nonce.now in let ad = joined c.args.ad.now in
    let all = ap joined (take_all c.loop-piece.piece-index c.args.ad.now (omega (arith, c.loop-piece-test.false))) in
    c.padded.ensures.lanes key nonce [] ad (rw all at c.loop-piece.invariant.stands) j inside
    ∙ ap (λ (s : List (List ℕ)). after_all L.VARIANT s j ad) (before-none L.VARIANT key nonce j g.met.S.LaneState.one_two_or_four)

pub returns-clause-updates : goal.returns-clause-updates
returns-clause-updates g c =
    let L = g.S.LaneState in let ad = joined c.args.ad.now in
    let all = ap joined (take_all c.loop-piece.piece-index c.args.ad.now (omega (arith, c.loop-piece-test.false))) in
    let updated = c.padded.ensures.updates c.args.key.now c.args.nonce.now [] ad (rw all at c.loop-piece.invariant.stands) in
    let none : block_count L.VARIANT 0 ≡ 0 =
    div-eq_of_lt (let positive = rate-positive L.VARIANT g.met.S.LaneState.one_two_or_four in omega arith) in
    omega arith

pub returns-clause-ad_bytes : goal.returns-clause-ad_bytes
returns-clause-ad_bytes g c =
    let all = ap joined (take_all c.loop-piece.piece-index c.args.ad.now (omega (arith, c.loop-piece-test.false))) in
    omega (arith, c.loop-piece.invariant.counted, ap length all, ap (λ (h : Held). h.message_bytes) c.context.view_is)
