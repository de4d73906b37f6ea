use Rattle.std.proofs.Common.{◌≡◌, ℕ, ◌+◌, ◌*◌, List}
use Rattle.aegis_aes.specs.Private.{IsSameBefore, IsSameFrom}
use Rattle.aegis_aes.specs.Block.{bytes_at}
use Rattle.aegis_base.specs.Private.{IsUnopened}
use Rattle.aegis_base.specs.Context.{held_by}
use Rattle.aegis_engine.specs.Pass.{IsPassed, given}
use Rattle.aegis_engine.proofs.pass.pass_whole.Given as goal

abbrev pub invariant-loop-i : goal.invariant-loop-i
invariant-loop-i g l =
    let L = g.S.LaneState in record {
      updates : L.updates l.state ≡ L.updates l.initial.state + l.i;
      passed : (block : List ℕ) (ad_bytes total : ℕ) → IsUnopened total l.count l.rate
          → IsPassed L.VARIANT (held_by L.VARIANT (L.lane l.initial.state) (L.updates l.initial.state) block ad_bytes total)
          (held_by L.VARIANT (L.lane l.state) (L.updates l.state) block ad_bytes (total + l.i * l.rate)) l.pass
          (bytes_at (given l.source l.initial.buffer) l.at (l.i * l.rate)) (bytes_at l.buffer l.at (l.i * l.rate));
      below : IsSameBefore l.at l.initial.buffer l.buffer;
      above : IsSameFrom (l.at + l.i * l.rate) l.initial.buffer l.buffer;
    }
