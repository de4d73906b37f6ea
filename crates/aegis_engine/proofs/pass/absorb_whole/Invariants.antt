use Rattle.std.proofs.Common.{◌≡◌, ℕ, ◌+◌, ◌*◌, List}
use Rattle.aegis_aes.specs.Block.{bytes_at}
use Rattle.aegis_base.specs.Private.{IsUnopened}
use Rattle.aegis_base.specs.Context.{Takes, held_by}
use Rattle.aegis_engine.proofs.pass.absorb_whole.Given as goal

abbrev pub invariant-loop-i : goal.invariant-loop-i
invariant-loop-i g l =
    let L = g.S.LaneState in record {
      updates : L.updates l.state ≡ L.updates l.initial.state + l.i;
      taken : (block : List ℕ) (ad_bytes total : ℕ) → IsUnopened total l.count l.rate
          → Takes L.VARIANT (held_by L.VARIANT (L.lane l.initial.state) (L.updates l.initial.state) block ad_bytes total)
          (held_by L.VARIANT (L.lane l.state) (L.updates l.state) block ad_bytes (total + l.i * l.rate)) (bytes_at l.bytes l.at (l.i * l.rate));
    }
