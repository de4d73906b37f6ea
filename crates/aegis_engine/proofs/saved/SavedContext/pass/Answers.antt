use Rattle.aegis_engine.proofs.SavedFacts.{mark-of}
use Rattle.aegis_engine.proofs.saved.SavedContext.pass.Goals as goal

pub returns-clause-taken : goal.returns-clause-taken
returns-clause-taken g c key nonce ad m is =
    c.keep.ensures.stands key nonce ad _
    (rw (c.counted_within-self.ensures, c.pass_bytes-state.auto.mc) (c.pass_bytes-state.ensures.taken c.args.self.now.ad_bytes key nonce ad m (c.lanes-state.ensures.stands key nonce ad m is)))
    (mark-of g.S.LaneState.VARIANT c.args.self.now key nonce ad m is)

pub returns-clause-written : goal.returns-clause-written
returns-clause-written g c key nonce ad m is =
    c.pass_bytes-state.ensures.written c.args.self.now.ad_bytes key nonce ad m (c.lanes-state.ensures.stands key nonce ad m is)
