use Rattle.std.proofs.Common.{◌∙◌, ap}
use Rattle.aegis_base.specs.Lane.{lane_tag}
use Rattle.aegis_base.specs.Message.{tag}
use Rattle.aegis_base.proofs.LaneFacts.{xor_lanes_same}
use Rattle.aegis_engine.proofs.context.Context.tag.Goals as goal

pub returns : goal.returns
unfolding tag
returns g c key nonce ad m is =
    c.lanes_tag.ensures
    ∙ xor_lanes_same _ _ _ (λ j h. ap (lane_tag g.S.LaneState.VARIANT.family g.row.TAG_BYTES) (c.end.ensures.lanes key nonce ad m is j h))
