use Rattle.std.proofs.Common.{◌≡◌, ℕ, ◌+◌, ◌*◌, ap, ◌∙◌, arith}
use Rattle.aegis_aes.specs.Block.{block_at}
use Rattle.aegis_aes.specs.Blocks.{block_of_four}
use Rattle.aegis_aes.proofs.Places.{all_four_lanes, block_at-kept}
use Rattle.aegis_aes.proofs.block4.AesBlock4Row.store.Goals as goal

-- the front stays as it was written, since the second write does not change the bytes below it
pub returns-clause-written : goal.returns-clause-written
returns-clause-written c =
    let at = c.args.at in
    let front = c.store.new.out in
    let both = c.store-2.new.out in
    let there : (p q : ℕ) → p ≡ q → block_at both p ≡ block_at both q = λ p q e. ap (block_at both) e in
    all_four_lanes (λ j. block_at both (at + 16 * j) ≡ block_of_four c.args.self j)
    (block_at-kept front both (at + 16 * 0) (at + 32) _ (omega arith) c.store-2.ensures.below (c.store.ensures.written 0 (omega arith)) ∙ ap (λ p. p.0) c.self.view_is)
    (block_at-kept front both (at + 16 * 1) (at + 32) _ (omega arith) c.store-2.ensures.below (c.store.ensures.written 1 (omega arith)) ∙ ap (λ p. p.1) c.self.view_is)
    (there _ _ (omega arith) ∙ c.store-2.ensures.written 0 (omega arith) ∙ ap (λ p. p.2) c.self.view_is)
    (there _ _ (omega arith) ∙ c.store-2.ensures.written 1 (omega arith) ∙ ap (λ p. p.3) c.self.view_is)
