use Rattle.aegis_base.specs.Message.{lane_before}
use Rattle.aegis_base.proofs.Bijection.{ciphertext-injective}
use Rattle.aegis_engine.proofs.decryptor.Decryptor.finalize_len.Goals as goal

pub returns-clause-only : goal.returns-clause-only
returns-clause-only g c key nonce ad m same =
    ciphertext-injective g.S.LaneState.VARIANT (lane_before g.S.LaneState.VARIANT key nonce ad) m _ g.met.S.LaneState.one_two_or_four same
