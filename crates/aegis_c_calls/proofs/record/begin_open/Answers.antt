use Rattle.std.proofs.Common.{rules}
use Rattle.aegis_c_calls.proofs.Begun.{first_begun}
use Rattle.aegis_c_calls.specs.declared.record.state.TheConstants.{OPENING}
use Rattle.aegis_c_calls.proofs.record.begin_open.Goals as goal

pub returns : goal.returns
returns c = record {
  answered = search rules;
  known = search rules;
  unknown = search rules;
  first = search rules;
  begun = λ _. first_begun c.first.result OPENING c.args.key.now c.args.prefix.now c.args.context.now c.args.header.now c.first.ensures (search rules);
  state_kept = search rules;
}
