use Rattle.std.proofs.Common.{List, ℕ, length, arith, rules, slice_range}
use Rattle.std.proofs.lemmas.Grind.{common_steps}
use Rattle.aegis_engine.proofs.PieceFacts.{done-more}
use Rattle.aegis_engine.proofs.context.Context.pass_appended.Goals as goal

pub loop-piece-preserved : goal.loop-piece-preserved
loop-piece-preserved g c =
    let piece : List ℕ = slice_range c.deref_mut.result.now c.len-at.result (length c.deref_mut.result.now) in
    record {
      can_next = search rules;
      is_finite = tt;
      message_bytes = grind (arith, common_steps);
      done = done-more piece c.pass.new.mc (grind (arith, common_steps)) (grind (arith, common_steps)) (grind (arith, common_steps))
          (record { takes = c.pass.ensures.taken; encrypts = c.pass.ensures.written }) c.loop-piece.invariant.done;
    }
