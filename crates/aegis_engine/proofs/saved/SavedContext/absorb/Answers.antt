use Rattle.aegis_engine.proofs.SavedFacts.{mark-of}
use Rattle.aegis_engine.proofs.saved.SavedContext.absorb.Goals as goal

pub returns : goal.returns
returns g c key nonce ad x is =
    c.keep.ensures.stands key nonce ad _
    (rw c.counted_within-self.ensures (c.absorb_bytes-state.ensures.taken c.args.self.now.ad_bytes key nonce ad x (c.lanes-state.ensures.stands key nonce ad x is)))
    (mark-of g.S.LaneState.VARIANT c.args.self.now key nonce ad x is)
