use Rattle.std.proofs.Common.{◌≡◌, ap, ℕ, arith, List, length, refl, eq-eqb, below_more, slice_index}
use Rattle.std.proofs.lemmas.Grind.{same_number_lists}
use Rattle.std.proofs.lemmas.Bool.{eqb-true}
use lib.Bits.{xor_self}
use Rattle.aegis_engine.proofs.TagFacts.{or-left, or-right, xor-zero}
use Rattle.aegis_engine.proofs.tag.same_bytes.Goals as goal

pub loop-i-preserved : goal.loop-i-preserved
loop-i-preserved c = record {
  none = λ zero.
      below_more _ _ (c.loop-i.invariant.none (or-left _ _ zero)) (xor-zero _ _ (or-right _ _ zero));
  some = λ same.
      let here : slice_index c.args.a.now c.loop-i.i ≡ slice_index c.args.b.now c.loop-i.i = same c.loop-i.i (omega arith) in
      let before : c.loop-i.difference ≡ 0 = c.loop-i.invariant.some (λ k h. same k (omega arith)) in
      rw (before, here, xor_self) refl;
}

pub returns : goal.returns
returns c =
    let all : c.loop-i.i ≡ length c.args.a.now = omega arith in (
      λ zero. same_number_lists c.args.a.now c.args.b.now c.requires
          (λ k h. c.loop-i.invariant.none (eqb-true c.loop-i.difference 0 zero) k (omega arith)),
      λ same. eq-eqb c.loop-i.difference 0 (c.loop-i.invariant.some (λ k h. ap (λ (xs : List ℕ). slice_index xs k) same)),
    )
