use Rattle.std.proofs.Common.{◌∙◌, rules}
use Rattle.aegis_c_calls.proofs.Begun.{first_begun}
use Rattle.aegis_c_calls.specs.declared.record.state.TheConstants.{SEALING}
use Rattle.aegis_c_calls.proofs.record.begin.Goals as goal

pub returns : goal.returns
returns c = record {
  answered = search rules;
  written = λ _. c.copy_from_slice.ensures.after ∙ c.header.ensures;
  first = λ _. c.first.ensures;
  begun = λ _. first_begun c.first.result SEALING c.args.key.now c.args.prefix.now c.args.context.now c.copy_from_slice.new.self c.first.ensures
      (c.copy_from_slice.ensures.after ∙ c.header.ensures);
  kept = search rules;
}
