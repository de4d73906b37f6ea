use Rattle.std.proofs.Common.{◌∙◌}
use Rattle.aegis_engine.proofs.SavedFacts.{restored}
use Rattle.aegis_engine.proofs.saved.SavedContext.lanes.Goals as goal

pub returns-clause-stands : goal.returns-clause-stands
returns-clause-stands g c key nonce ad m is =
    let L = g.S.LaneState in
    restored L.VARIANT (L.lane c.restore.result) (L.updates c.restore.result) c.args.self.now key nonce ad m L.RATE g.met.S.LaneState.rate_is
    c.restore.ensures.lanes (c.restore.ensures.updates ∙ c.updates_along-count.ensures.value) is
