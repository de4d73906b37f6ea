use Rattle.std.proofs.Common.{◌≡◌, ◌∙◌, sym, ap₂, ⊎_elim, ℕ, ◌+◌, ◌*◌, ◌<◌, ◌≤◌, ◌++◌, List, arith}
use Rattle.std.proofs.lemmas.Bool.{cases_lt}
use Rattle.aegis_base.proofs.LaneFacts.{bytes_at-append, bytes_at-same}
use Rattle.aegis_engine.proofs.tag.lane_after_lane.Goals as goal

pub loop-lane-preserved : goal.loop-lane-preserved
loop-lane-preserved g c j low =
    let old = c.loop-lane.bytes in let one = c.copy_part.new.target in let new = c.copy_part-in-loop-lane.new.target in let n : ℕ = c.loop-lane.lane in
    ⊎_elim
    (λ (before : j < n).
    bytes_at-same new old (32 * j) (32 * j) 32 (λ p h. c.copy_part-in-loop-lane.ensures.below (32 * j + p) (omega arith) ∙ c.copy_part.ensures.below (32 * j + p) (omega arith))
    ∙ c.loop-lane.invariant j before)
    (λ (here : n ≤ j).
    let same : j ≡ n = omega arith in
    rw same (sym (bytes_at-append new (32 * n) 16 16)
    ∙ ap₂ (λ (a b : List ℕ). a ++ b)
    (bytes_at-same new c.store.new.out (32 * n) (16 * n) 16 (λ p h. c.copy_part-in-loop-lane.ensures.below (32 * n + p) (omega arith) ∙ c.copy_part.ensures.written p h))
    (bytes_at-same new c.store-2.new.out (32 * n + 16) (16 * n) 16 (λ p h. c.copy_part-in-loop-lane.ensures.written p h))))
    (cases_lt j n)

pub returns : goal.returns
returns g c j inside =
    let done : c.loop-lane.lane ≡ g.R.Row.LANES = omega arith in
    let place : 0 + 16 * j ≡ 16 * j = omega arith in
    c.loop-lane.invariant j (omega arith)
    ∙ ap₂ (λ (a b : List ℕ). a ++ b) (rw place at (c.store.ensures.written j inside)) (rw place at (c.store-2.ensures.written j inside))
