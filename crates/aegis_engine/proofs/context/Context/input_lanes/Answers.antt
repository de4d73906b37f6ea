use Rattle.std.proofs.Common.{◌≡◌, ◌<◌, ◌∙◌, sym, ap, refl, ℕ, ◌+◌, ◌/◌, List, [], ◌∷◌, length, replicate, arith}
use Rattle.std.proofs.Math.Nat.{zero-div}
use Rattle.aegis_base.specs.Variant.{rate}
use Rattle.aegis_base.specs.Lane.{init, update}
use Rattle.aegis_base.specs.Mac.{mac_input}
use Rattle.aegis_base.specs.Message.{lane_after, after_all, lane_before, share_at}
use Rattle.aegis_base.specs.Context.{Stands}
use Rattle.aegis_base.proofs.HeldFacts.{held-along}
use Rattle.aegis_base.proofs.MacFacts.{mac_input-none, mac_input-some}
use Rattle.aegis_base.proofs.MessageFacts.{after-none, before-none}
use Rattle.aegis_engine.proofs.PassFacts.{zeros-read}
use Rattle.aegis_engine.proofs.context.Context.input_lanes.Goals as goal

empty : (x : List ℕ) → length x ≡ 0 → x ≡ []
empty [] e = refl
empty (byte ∷ rest) e = absurd (omega arith)

pub returns-then-self-eq0-clause-lanes : goal.returns-then-self-eq0-clause-lanes
unfolding Stands
returns-then-self-eq0-clause-lanes g c key nonce x stands j inside =
    let L = g.S.LaneState in let count = g.met.S.LaneState.one_two_or_four in let s = c.self.inside in
    let is = rw (← c.self.view_is) at stands in
    let none : x ≡ [] = empty x (sym is.1 ∙ c.if-self-eq0.true) in
    let zero_blocks : length x / rate L.VARIANT ≡ 0 =
    ap (λ (n : ℕ). n / rate L.VARIANT) (sym is.1 ∙ c.if-self-eq0.true) ∙ zero-div (rate L.VARIANT) in
    let begun : L.lane s.state j ≡ init L.VARIANT key nonce j =
    (held-along L.VARIANT _ (L.lane s.state) s.block x _ is.3).whole j inside ∙ ap (lane_after L.VARIANT (lane_before L.VARIANT key nonce [] j) j x) zero_blocks
    ∙ after-none L.VARIANT (lane_before L.VARIANT key nonce [] j) j x
    ∙ before-none L.VARIANT key nonce j count in
    c.absorb.ensures.lanes j inside
    ∙ ap (λ (s : List (List ℕ)). update L.VARIANT.family s (share_at L.VARIANT j (replicate 128 0) 0)) begun
    ∙ mac_input-none L.VARIANT (init L.VARIANT key nonce j) j (replicate 128 0) 0 count inside (λ k low. zeros-read 128 (0 + k))
    ∙ ap (λ (y : List ℕ). after_all L.VARIANT (init L.VARIANT key nonce j) j (mac_input L.VARIANT y)) (sym none)

pub returns-clause-lanes : goal.returns-clause-lanes
unfolding Stands
returns-clause-lanes g c key nonce x stands j inside =
    let L = g.S.LaneState in let count = g.met.S.LaneState.one_two_or_four in
    let is = rw (← c.self.view_is) at stands in
    let long = is.1 in let some = c.if-self-eq0.false in
    let has : 0 < length x = omega arith in
    c.padded.ensures.lanes key nonce [] x stands j inside
    ∙ ap (λ (s : List (List ℕ)). after_all L.VARIANT s j x) (before-none L.VARIANT key nonce j count)
    ∙ ap (λ (y : List ℕ). after_all L.VARIANT (init L.VARIANT key nonce j) j y) (sym (mac_input-some L.VARIANT x has))
