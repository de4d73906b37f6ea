use Rattle.aegis_base.proofs.MessageFacts.{keystream_blocks-reads}
use Rattle.aegis_engine.proofs.pass.xor_block.Goals as goal

pub returns-clause-written : goal.returns-clause-written
returns-clause-written g c k low =
    keystream_blocks-reads g.S.LaneState.VARIANT _ _ _ c.args.at k g.met.S.LaneState.one_two_or_four
    c.xor_keystream.ensures.written (rw (← g.met.S.LaneState.rate_is) low)
