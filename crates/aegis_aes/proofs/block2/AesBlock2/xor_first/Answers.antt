use Rattle.std.proofs.Common.{ℕ, List, ap, ap₂, ◌∙◌, arith}
use Rattle.aegis_aes.specs.Block.{block_at, xor}
use Rattle.aegis_aes.proofs.Places.{length-bytes_at, xor-zeros}
use Rattle.aegis_aes.proofs.block2.AesBlock2.xor_first.Goals as goal

pub returns : goal.returns
returns c =
    let s = c.self.inside.bytes in
    let both = c.both.view_is ∙ c.from_blocks-both.ensures ∙ ap (λ (z : List ℕ). (c.args.block, z)) c.default.ensures in
    let each = c.xor_each.ensures.each in
    ap₂ (λ x y. (x, y))
    (each 0 (omega arith) ∙ ap₂ xor (ap (λ (p : List ℕ × List ℕ). p.0) c.self.view_is) (ap (λ (p : List ℕ × List ℕ). p.0) both))
    (each 16 (omega arith) ∙ ap (xor (block_at s 16)) (ap (λ (p : List ℕ × List ℕ). p.1) both)
    ∙ xor-zeros (block_at s 16) 16 (omega (arith, length-bytes_at s 16 16)) ∙ ap (λ (p : List ℕ × List ℕ). p.1) c.self.view_is)
