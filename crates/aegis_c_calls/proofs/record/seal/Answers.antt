use Rattle.std.proofs.Common.{◌∙◌, ap, refl, rules}
use Rattle.aegis.specs.RecordResults.{message_in}
use Rattle.aegis_c_calls.specs.Calls.{after_record}
use Rattle.aegis_c_calls.proofs.Begun.{next_begun}
use Rattle.aegis_c_calls.proofs.record.seal.Goals as goal

pub returns : goal.returns
returns c =
    let after = c.advance.ensures ∙ ap (after_record c.args.st.now) c.seal_record.auto.bytes in
    record {
      answered = search rules;
      sealed = λ _. c.seal_record.ensures;
      after = λ _. after;
      begun = λ _. next_begun c.args.st.now c.advance.new.st c.args.context.now _ (message_in c.args.bytes.now) c.seal_record.new.bytes c.advance.ensures refl
          (rw c.seal_record.auto.bytes c.in_ok-check_record.ensures.within) c.seal_record.ensures;
      kept = search rules;
    }
