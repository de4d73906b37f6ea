use Rattle.std.proofs.Common.{◌∙◌, arith, inr, rules}
use Rattle.std.proofs.lemmas.Bool.{true≢false}
use Rattle.std.proofs.lemmas.Result.{err_from_is_err_and}
use Rattle.aegis.specs.RecordResults.{sealing_of}
use Rattle.aegis.proofs.Stepwise.{accepts_next, accepts_or, begun_fault_or, begun_open, cut_of, opens_next, record_long}
use Rattle.aegis.proofs.record.record_opener.RecordOpener.open_next.Goals as goal

pub returns-then-self-clause-refused : goal.returns-then-self-clause-refused
returns-then-self-clause-refused g c = record {
  fault = λ going. absurd (true≢false (rw (← c.self.view_is, c.if-self.true) at going));
  first = inr (λ ms before more b cut. absurd (true≢false (rw (← c.self.view_is, c.if-self.true) at (begun_open _ ms before b))));
  cut = search rules;
  unchanged = search rules;
}

pub returns-in_err-frame-clause-refused : goal.returns-in_err-frame-clause-refused
returns-in_err-frame-clause-refused g c =
    let p = err_from_is_err_and c.from_residual.result c.from_residual.ensures.1 in
    let refused = c.in_err-frame.ensures.refused in
    rw (p.1, p.2, ← c.self.view_is) (record {
      fault = λ going. refused;
      first = begun_fault_or _ c.args.bytes.now _ refused;
      cut = cut_of (sealing_of c.self.inside.cipher) c.self.inside.position c.args.bytes.now _ refused;
      unchanged = search rules;
    })

pub returns-in_err-frame-clause-accepted : goal.returns-in_err-frame-clause-accepted
returns-in_err-frame-clause-accepted g c =
    let p = err_from_is_err_and c.from_residual.result c.from_residual.ensures.1 in
    rw (p.1, p.2, ← c.self.view_is) (accepts_or _ c.args.bytes.now _ _ c.in_err-frame.ensures.refused (λ memory is_last n after. memory))

pub invariant_of-self : goal.invariant_of-self
invariant_of-self g c =
    let long = record_long _ _ _ _ _ _ _ _ c.in_ok-frame.ensures.opened in
    let fits = rw (← c.self.view_is) at c.requires in
    let size = c.len.ensures ∙ c.in_ok-frame.message.ok.0 in
    (c.self.invariant.0, omega (arith, long, fits, size))

pub returns-clause-opened : goal.returns-clause-opened
returns-clause-opened g c =
    rw (← c.self.view_is) (opens_next _ _ _ _ _ _ (c.len.ensures ∙ c.in_ok-frame.message.ok.0) c.in_ok-frame.ensures.opened)

pub returns-clause-accepted : goal.returns-clause-accepted
returns-clause-accepted g c =
    rw (← c.self.view_is) (accepts_next _ _ _ _ c.args.bytes.now _ c.in_ok-frame.ensures.opened (λ is_last n after same. (same.last, same.message, same.others)))
