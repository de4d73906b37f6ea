use Rattle.std.proofs.Common.{◌≡◌, ◌∙◌, ◌⊎◌, sym, ap, ⊎_elim, ℕ, ◌-◌, ◌*◌, ◌/◌, ◌<◌, ◌≤◌, List, length, take, rules, arith}
use Rattle.aegis_aes.specs.Block.{bytes_at}
use Rattle.aegis_aes.proofs.Places.{bytes_at-part}
use Rattle.aegis_base.specs.Lane.{finalize, lane_tag}
use Rattle.aegis_base.specs.Mac.{alone, fold}
use Rattle.aegis_base.specs.Variant.{rate}
use Rattle.aegis_base.proofs.LaneFacts.{count_positive}
use Rattle.aegis_base.proofs.MacFacts.{fold-is, mac_tag-folded, mac_tag_one}
use Rattle.aegis_engine.proofs.TagFacts.{folds-whole}
use Rattle.aegis_engine.proofs.tag.folded_tag.Goals as goal

pub returns-then-lanes-eq1 : goal.returns-then-lanes-eq1
returns-then-lanes-eq1 g c =
    let L = g.S.LaneState in
    c.lanes_tag.ensures
    ∙ mac_tag_one L.VARIANT g.row.TAG_BYTES (L.lane c.args.end) (g.met.S.LaneState.lanes_are ∙ sym c.LANES-lanes.ensures ∙ c.if-lanes-eq1.true)

pub returns : goal.returns
returns g c =
    let L = g.S.LaneState in let n : ℕ = g.row.TAG_BYTES in let count = g.met.S.LaneState.one_two_or_four in
    let d : ℕ = c.LANES-lanes.result in let k : ℕ = c.first_folded-first.result in let r : ℕ = c.rate_of_one.result in
    let tags : List ℕ = c.lane_tags-2.result in
    let is : d ≡ L.VARIANT.lanes = c.LANES-lanes.ensures ∙ sym g.met.S.LaneState.lanes_are in
    let inside : 0 < L.VARIANT.lanes = count_positive L.VARIANT.lanes count in
    let several : (d ≡ 2) ⊎ (d ≡ 4) = rw is (⊎_elim (λ one. absurd (c.if-lanes-eq1.false (is ∙ one))) (λ more. more) count) in
    let whole : (d - k) * n / r * rate (alone L.VARIANT) ≡ (L.VARIANT.lanes - k) * n =
    rw (← c.rate_of_one.ensures, ← is) (folds-whole L.VARIANT.family n d k r c.requires.tag_bytes several c.first_folded-first.ensures c.rate_of_one.ensures) in
    let folded : L.lane c.folded-folded.result 0 ≡ fold L.VARIANT n (L.lane c.args.end) =
    fold-is L.VARIANT n (L.lane c.args.end) c.lane_tags.result k ((d - k) * n / r) (L.lane c.folded-folded.result 0) c.first_folded-first.ensures whole
    c.lane_tags.ensures c.folded-folded.ensures.first in
    let ended : L.lane c.finalize-ended.result 0 ≡ finalize L.VARIANT.family (fold L.VARIANT n (L.lane c.args.end)) L.VARIANT.lanes (8 * n) =
    c.finalize-ended.ensures.lanes 0 inside ∙ ap (λ (s : List (List ℕ)). finalize L.VARIANT.family s d (8 * n)) folded
    ∙ ap (λ (q : ℕ). finalize L.VARIANT.family (fold L.VARIANT n (L.lane c.args.end)) q (8 * n)) is in
    let low : n ≤ 128 = ⊎_elim (λ (e : n ≡ 16). omega arith) (λ (e : n ≡ 32). omega arith) c.requires.tag_bytes in
    let size : length tags ≡ 128 = search rules in
    let all : n - 0 ≡ n = omega arith in
    let cut : take n tags ≡ bytes_at tags 0 n = rw all at (bytes_at-part tags 0 n n (omega arith) (omega arith)) in
    let none : n * 0 ≡ 0 = omega arith in
    c.copy_from_slice.ensures.after ∙ cut ∙ rw none at (c.lane_tags-2.ensures 0 inside)
    ∙ ap (lane_tag L.VARIANT.family n) ended ∙ mac_tag-folded L.VARIANT n (L.lane c.args.end) count (λ one. c.if-lanes-eq1.false (is ∙ one))
