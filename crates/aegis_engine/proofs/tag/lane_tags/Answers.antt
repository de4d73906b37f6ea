use Rattle.std.proofs.Common.{◌≡◌, ◌∙◌, ap₂, ⊎_elim, ℕ, ◌+◌, ◌*◌, ◌++◌, List, arith}
use Rattle.aegis_engine.proofs.tag.lane_tags.Goals as goal

pub returns-then-n-eq16 : goal.returns-then-n-eq16
returns-then-n-eq16 g c j inside =
    let place : 0 + 16 * j ≡ 16 * j = omega arith in
    rw c.if-n-eq16.true (rw place at (c.store.ensures.written j (rw (← g.met.S.LaneState.lanes_are) inside)) ∙ c.short_tags.ensures j inside)

pub returns-else-n-eq16 : goal.returns-else-n-eq16
returns-else-n-eq16 g c j inside =
    let is : c.args.n ≡ 32 = ⊎_elim (λ e. absurd (c.if-n-eq16.false e)) (λ e. e) c.requires in
    rw is (c.lane_after_lane.ensures j (rw (← g.met.S.LaneState.lanes_are) inside)
    ∙ ap₂ (λ (a b : List ℕ). a ++ b) (c.long_tags-low.ensures.low j inside) (c.long_tags-low.ensures.high j inside))
