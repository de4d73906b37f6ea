use Rattle.std.proofs.Common.{◌∙◌, refl, sym}
use Rattle.aegis_base.proofs.LaneFacts.{xor_lanes-append, xor_lanes_same}
use Rattle.aegis_base.proofs.state.LaneState.long_tag.Goals as goal

pub returns : goal.returns
returns g c =
    let lanes_are = g.met.Self.LaneState.lanes_are in
    rw (c.xor_of_lanes.ensures.value, c.xor_of_lanes-2.ensures.value, ← lanes_are)
    (sym (xor_lanes-append _ _ 16 _ (λ j h. c.xor_of_lanes.ensures.sixteen j (rw (← lanes_are) h)))
    ∙ xor_lanes_same _ _ _ (λ j h. rw (c.long_tags-low.ensures.low j h, c.long_tags-low.ensures.high j h) refl))
