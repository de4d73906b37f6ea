use Rattle.std.proofs.Common.{◌∙◌, List, ap, refl, rules, subst, sym, ℕ}
use Rattle.aegis_storage.specs.Journal.{entries}
use Rattle.aegis_c_calls.specs.PageCalls.{HoldsWrites}
use Rattle.aegis_c_calls.proofs.JournalFacts.{first_held, first_long, first_read, holds_one}
use Rattle.aegis_c_calls.proofs.journal.next.Goals as goal

pub returns-in_default : goal.returns-in_default
returns-in_default c = record {
  answered = search rules;
  found = search rules;
  within = search rules;
  long = search rules;
  one = λ write after holds. let held = holds_one _ write after holds in absurd (c.in_default.ensures.none write (entries after) held.0 held.1);
  kept = λ _. (refl, refl);
}

pub returns : goal.returns
returns c =
    let is = c.in-Some.ensures.some in
    let read = first_read c.args.writes.now c.in-Some.found c.in-Some.bytes.now c.in-Some._rest.now is in
    record {
      answered = search rules;
      found = λ _. rw (read.0, read.1) is;
      within = λ _. c.in-Some.ensures.within;
      long = λ _. first_long c.args.writes.now c.in-Some.found c.in-Some.bytes.now c.in-Some._rest.now is;
      one = λ write after holds.
          let first = first_held c.args.writes.now write after c.in-Some.found c.in-Some.bytes.now c.in-Some._rest.now holds c.in-Some.ensures.within is in
          (refl, ap (λ (l : List ℕ). (c.in-Some.found, l)) read.0 ∙ first.0, subst (HoldsWrites after) (sym read.1) first.1);
      kept = search rules;
    }
