use Rattle.std.proofs.Common.{ap₂, refl, ◌∙◌, arith}
use Rattle.aegis_aes.specs.Block.{bytes_at}
use Rattle.aegis_aes.proofs.Places.{block_at_all, block_at_first, block_at_second}
use Rattle.aegis_aes.proofs.block2.AesBlock2.from_blocks.Goals as goal

pub returns : goal.returns
unfolding bytes_at
returns c =
    let a = c.b0.inside.bytes in
    let b = c.b1.inside.bytes in
    ap₂ (λ x y. (x, y)) (block_at_first a b 0 (omega (arith, c.b0.invariant)) ∙ block_at_all a c.b0.invariant ∙ c.b0.view_is)
    (block_at_second a b 16 0 16 c.b0.invariant refl ∙ block_at_all b c.b1.invariant ∙ c.b1.view_is)
