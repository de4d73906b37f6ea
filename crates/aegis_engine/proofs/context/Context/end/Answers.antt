use Rattle.std.proofs.Common.{◌∙◌, ap, refl, ℕ, ◌*◌, List}
use Rattle.aegis_base.specs.Lane.{finalize}
use Rattle.aegis_base.specs.Context.{Stands}
use Rattle.aegis_engine.proofs.context.Context.end.Goals as goal

pub returns-clause-lanes : goal.returns-clause-lanes
unfolding Stands
returns-clause-lanes g c key nonce ad m stands j inside =
    let is = rw (← c.self.view_is) at stands in
    c.finalize.ensures.lanes j inside
    ∙ ap (λ (s : List (List ℕ)). finalize g.S.LaneState.VARIANT.family s (8 * c.self.inside.ad_bytes) (8 * c.self.inside.message_bytes))
    (c.padded.ensures.lanes key nonce ad m stands j inside)
    ∙ rw (is.0, is.1) refl
