use Rattle.std.proofs.Common.{◌≡◌, ◌+◌, ◌-◌, ℕ, length, arith, rules}
use Rattle.std.proofs.lemmas.Grind.{common_steps}
use Rattle.aegis_engine.proofs.DestinationFacts.{rest-after}
use Rattle.aegis_engine.proofs.context.Context.open_chunk.Goals as goal

pub returns-clause-appends : goal.returns-clause-appends
returns-clause-appends g c =
    let at : ℕ = c.message_bytes-so_far.result in let k : ℕ = at + length c.args.chunk.now - at in
    let long : length c.pass.new.mc ≡ k = grind (arith, common_steps) in
    record {
      grows = omega arith;
      room = search rules;
      beginning = grind (arith, common_steps);
      rest = λ n high. rest-after c.args.dst.now c.pass.new.mc at k n (omega arith) long (omega arith);
    }
