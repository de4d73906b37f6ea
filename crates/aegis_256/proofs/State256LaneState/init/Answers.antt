use Rattle.std.proofs.Common.{◌≡◌, ℕ, List, ◌∷◌, [], refl, arith, rules}
use Rattle.aegis_aes.specs.Lanes.{context_block}
use Rattle.aegis_256.specs.Rows.{lane}
use Rattle.aegis_256.proofs.Turns.{all-turns, turn_blocks, turned-next}
use Rattle.aegis_256.proofs.State256LaneState.init.Goals as goal

pub loop-i-preserved : goal.loop-i-preserved
loop-i-preserved g c =
    let blocks : List (List ℕ) = c.low_half-low.result ∷ c.high_half-high.result ∷ c.xor.result ∷ c.xor-2.result ∷ [] in
    record {
      lanes = λ j inside.
          rw (turned-next (context_block j g.P.Row.Row.LANES) blocks (lane g.P.Pair.block c.args.self.now j) c.loop-i.i)
          (search rules);
      updates = omega arith;
    }

pub returns-clause-lanes : goal.returns-clause-lanes
returns-clause-lanes g c j inside =
    let done : c.loop-i.i ≡ 16 = omega arith in
    let blocks : List (List ℕ) = c.low_half-low.result ∷ c.high_half-high.result ∷ c.xor.result ∷ c.xor-2.result ∷ [] in
    let are : blocks ≡ turn_blocks c.args.key.now c.args.nonce.now =
    rw (c.xor.ensures, c.xor-2.ensures, c.low_half-low.ensures, c.high_half-high.ensures, c.low_half.ensures, c.high_half.ensures) refl in
    all-turns c.args.key.now c.args.nonce.now (context_block j g.P.Row.Row.LANES) blocks (lane g.P.Pair.block c.args.self.now j) _ c.loop-i.i done are
    (c.loop-i.invariant.lanes j inside)
