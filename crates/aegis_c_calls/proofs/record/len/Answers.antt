use Rattle.std.proofs.Common.{◌+◌, ◌∙◌, [], ap, length, rules, sym}
use Rattle.std.proofs.lemmas.List.{append-nil}
use Rattle.aegis.specs.RecordResults.{record_of}
use Rattle.aegis.proofs.Stepwise.{head_len}
use Rattle.aegis_c_calls.specs.Calls.{progress_of}
use Rattle.aegis_c_calls.proofs.record.len.Goals as goal

pub returns : goal.returns
returns c = record {
  answered = search rules;
  found = search rules;
  is_length = λ _ context flag m body low e.
      let p = progress_of c.args.st.now context in
      ap (λ n. 37 + n) c.from_le_bytes-length.ensures
      ∙ sym (head_len p c.args.head.now c.told-head flag m body [] low (e ∙ sym (append-nil (record_of p flag m))))
      ∙ sym (ap length e);
  kept = search rules;
}
