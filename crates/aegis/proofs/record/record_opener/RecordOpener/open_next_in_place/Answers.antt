use Rattle.std.proofs.Common.{◌∙◌, ap, arith, length, rules, sym}
use Rattle.std.proofs.lemmas.Bool.{true≢false}
use Rattle.std.proofs.lemmas.Result.{err_from_is_err_and}
use Rattle.aegis.proofs.Stepwise.{accepts_next, accepts_none, begun_fault, begun_open, opens_next, record_long}
use Rattle.aegis.proofs.record.record_opener.RecordOpener.open_next_in_place.Goals as goal

pub returns-then-self-clause-refused : goal.returns-then-self-clause-refused
returns-then-self-clause-refused c = record {
  fault = λ going. absurd (true≢false (rw (← c.self.view_is, c.if-self.true) at going));
  first = λ ms before more b cut. absurd (true≢false (rw (← c.self.view_is, c.if-self.true) at (begun_open _ ms before b)));
  cut = search rules;
  unchanged = search rules;
  erased = search rules;
  kept = search rules;
}

pub returns-in_err-flag-clause-refused : goal.returns-in_err-flag-clause-refused
returns-in_err-flag-clause-refused c =
    let p = err_from_is_err_and c.from_residual.result c.from_residual.ensures.1 in
    let refused = c.in_err-flag.ensures.refused in
    rw (p.1, p.2, ← c.self.view_is) (record {
      fault = λ going. refused;
      first = begun_fault _ c.args.bytes.now _ refused;
      cut = search rules;
      unchanged = search rules;
      erased = c.in_err-flag.ensures.erased;
      kept = c.in_err-flag.ensures.kept;
    })

pub returns-in_err-flag-clause-accepted : goal.returns-in_err-flag-clause-accepted
returns-in_err-flag-clause-accepted c = rw (← c.self.view_is) (accepts_none _ c.args.bytes.now _ _ c.in_err-flag.ensures.refused)

pub invariant_of-self : goal.invariant_of-self
invariant_of-self c =
    let long = record_long _ _ _ _ _ _ _ _ c.in_ok-flag.ensures.opened in
    let fits = rw (← c.self.view_is) at c.requires in
    let size = c.in_ok-flag.ensures.message_len in
    (c.self.invariant.0, omega (arith, long, fits, size))

pub returns-clause-opened : goal.returns-clause-opened
returns-clause-opened c = rw (← c.self.view_is) (opens_next _ _ _ _ _ _ (sym c.in_ok-flag.ensures.message_len) c.in_ok-flag.ensures.opened)

pub returns-clause-written : goal.returns-clause-written
returns-clause-written c = record {
  message_len = c.in_ok-flag.ensures.message_len;
  written = c.in_ok-flag.ensures.written;
  size = omega (arith, record_long _ _ _ _ _ _ _ _ c.in_ok-flag.ensures.opened, c.in_ok-flag.ensures.message_len);
}

pub returns-clause-accepted : goal.returns-clause-accepted
returns-clause-accepted c =
    let size = sym c.in_ok-flag.ensures.message_len in
    rw (← c.self.view_is) (accepts_next _ _ _ _ c.args.bytes.now _ c.in_ok-flag.ensures.opened
    (λ is_last n after same. (same.last, size ∙ ap length same.message, same.message, same.others)))
