use Rattle.std.proofs.Common.{◌≡◌, ◌∙◌, ap, sym, List, ℕ, arith}
use Rattle.aegis_base.specs.Message.{lane_before}
use Rattle.aegis_base.proofs.Bijection.{ciphertext-injective}
use Rattle.aegis_engine.proofs.context.Context.has_tag.Goals as goal

pub returns-clause-only : goal.returns-clause-only
returns-clause-only g c key nonce ad m opened stands opens =
    let L = g.S.LaneState in
    ciphertext-injective L.VARIANT (lane_before L.VARIANT key nonce ad) m opened
    g.met.S.LaneState.one_two_or_four (sym (ap (λ (p : List ℕ × List ℕ). p.0) opens))

pub returns-clause-accepted : goal.returns-clause-accepted
returns-clause-accepted g c m key nonce ad opened stands opens =
    let one = returns-clause-only g c key nonce ad m opened stands opens in
    let same : c.tag.result ≡ c.args.tag.now = c.tag.ensures key nonce ad m stands ∙ rw one (ap (λ (p : List ℕ × List ℕ). p.1) opens) in
    let yes = c.same_bytes.ensures.1 same in
    grind arith
