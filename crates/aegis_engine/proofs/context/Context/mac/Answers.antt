use Rattle.std.proofs.Common.{◌∙◌, ap, ℕ, ◌*◌, refl}
use Rattle.aegis_base.specs.Context.{Stands}
use Rattle.aegis_base.proofs.MacFacts.{mac-is}
use Rattle.aegis_engine.proofs.context.Context.mac.Goals as goal

pub returns : goal.returns
unfolding Stands
returns g c key nonce x stands =
    let L = g.S.LaneState in
    let is = rw (← c.self.view_is) at stands in
    c.folded_tag.ensures
    ∙ mac-is L.VARIANT g.row.TAG_BYTES (L.lane c.input_lanes.result) (L.lane c.finalize-end.result) key nonce x _ _ g.met.S.LaneState.one_two_or_four
    (c.input_lanes.ensures.lanes key nonce x stands) c.finalize-end.ensures.lanes (ap (λ (n : ℕ). 8 * n) is.1) refl
