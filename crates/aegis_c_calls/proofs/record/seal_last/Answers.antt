use Rattle.std.proofs.Common.{refl, rules}
use Rattle.aegis.specs.RecordResults.{message_in}
use Rattle.aegis_c_calls.proofs.Begun.{last_whole}
use Rattle.aegis_c_calls.proofs.record.seal_last.Goals as goal

pub returns : goal.returns
returns c = record {
  answered = search rules;
  sealed = λ _. c.seal_record.ensures;
  ended = λ _. refl;
  whole = λ _. last_whole c.args.st.now c.args.context.now (message_in c.args.bytes.now) c.seal_record.new.bytes
      (rw c.seal_record.auto.bytes c.in_ok-check_record.ensures.within) c.seal_record.ensures;
  kept = search rules;
}
