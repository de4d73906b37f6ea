use Rattle.std.proofs.Common.{◌∙◌, ap, arith, refl, rules}
use Rattle.aegis.specs.RecordResults.{message_in}
use Rattle.aegis_c_calls.specs.Calls.{after_record}
use Rattle.aegis_c_calls.proofs.Begun.{last_whole, next_begun}
use Rattle.aegis_c_calls.proofs.record.open.Goals as goal

pub returns-then-found-eq1 : goal.returns-then-found-eq1
returns-then-found-eq1 c = record {
  answered = search rules;
  lengths = search rules;
  known = λ _. omega (arith, c.in-Some.ensures.known);
  opened = λ _. c.in-Some.ensures.opened;
  one = λ _. c.in-Some.ensures.one;
  written = λ _. c.in-Some.ensures.written;
  accepted = search rules;
  after = λ _ zero. absurd (omega (arith, c.if-found-eq1.true, zero));
  begun = λ _ zero. absurd (omega (arith, c.if-found-eq1.true, zero));
  ended = λ _ _. refl;
  whole = λ _ _. last_whole c.args.st.now c.args.context.now (message_in c.open_record.new.bytes) c.args.bytes.now
      c.in_ok-check_record.ensures.within (rw c.if-found-eq1.true at c.in-Some.ensures.opened);
  erased = search rules;
  kept = search rules;
  state_kept = search rules;
}

pub returns-else-found-eq1 : goal.returns-else-found-eq1
returns-else-found-eq1 c = record {
  answered = search rules;
  lengths = search rules;
  known = λ _. omega (arith, c.in-Some.ensures.known);
  opened = λ _. c.in-Some.ensures.opened;
  one = λ _. c.in-Some.ensures.one;
  written = λ _. c.in-Some.ensures.written;
  accepted = search rules;
  after = λ _ _. c.advance.ensures ∙ ap (after_record c.args.st.now) c.open_record.auto.bytes;
  begun = λ _ zero. next_begun c.args.st.now c.advance.new.st c.args.context.now _ (message_in c.open_record.new.bytes) c.args.bytes.now
      c.advance.ensures c.open_record.auto.bytes c.in_ok-check_record.ensures.within (rw zero at c.in-Some.ensures.opened);
  ended = λ _ one. absurd (c.if-found-eq1.false one);
  whole = λ _ one. absurd (c.if-found-eq1.false one);
  erased = search rules;
  kept = search rules;
  state_kept = search rules;
}
