use Rattle.aegis_engine.proofs.SavedFacts.{saved}
use Rattle.aegis_engine.proofs.saved.SavedContext.keep.Goals as goal

pub returns-clause-stands : goal.returns-clause-stands
returns-clause-stands g c key nonce ad m stands marked =
    let L = g.S.LaneState in
    saved L.VARIANT (L.lane c.args.state) (L.updates c.args.state) _ key nonce ad m marked c.save.ensures stands
