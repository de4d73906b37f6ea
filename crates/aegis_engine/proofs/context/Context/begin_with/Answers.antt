use Rattle.std.proofs.Common.{length, arith}
use Rattle.aegis_base.specs.Chunks.{joined}
use Rattle.aegis_base.proofs.AppendFacts.{ciphertext-none}
use Rattle.aegis_base.proofs.HeldFacts.{stands-begun}
use Rattle.aegis_base.proofs.MessageFacts.{block_count-below}
use Rattle.aegis_engine.proofs.context.Context.begin_with.Goals as goal

pub invariant_of-result : goal.invariant_of-result
invariant_of-result g c =
    let some = block_count-below g.S.LaneState.VARIANT (length (joined c.args.ad.now)) g.met.S.LaneState.one_two_or_four in
    (omega (arith, c.begun-state.ensures.updates, c.begun-state.ensures.ad_bytes), omega (arith, c.begun-state.ensures.ad_bytes, c.requires.associated_data_within))

pub returns-clause-stands : goal.returns-clause-stands
returns-clause-stands g c =
    let L = g.S.LaneState in
    stands-begun L.VARIANT (L.lane c.begun-state.result.0) (L.updates c.begun-state.result.0) _ _ c.args.key.now c.args.nonce.now (joined c.args.ad.now)
    c.begun-state.ensures.ad_bytes c.begun-state.ensures.updates c.begun-state.ensures.lanes

pub returns-clause-empty : goal.returns-clause-empty
returns-clause-empty g c = ciphertext-none g.S.LaneState.VARIANT _
