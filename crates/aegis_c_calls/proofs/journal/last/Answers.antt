use Rattle.std.proofs.Common.{[], drop, refl, rules}
use Rattle.aegis_storage.specs.Journal.{authenticated, entries}
use Rattle.aegis_c_calls.proofs.JournalFacts.{all_written}
use Rattle.aegis_c_calls.specs.Private.{IsJournaled, IsWhole}
use Rattle.aegis_c_calls.proofs.journal.last.Goals as goal

pub returns-clause-call : goal.returns-clause-call
returns-clause-call c = record {
  answered = search rules;
  whole = λ key all before _ is. all_written key before all c.args.st.now _ is (c.mac.ensures key (drop 512 is.start) (authenticated [] (entries is.writes)) is.saved);
  ended = search rules;
  kept = search rules;
}

pub returns-clause-whole : goal.returns-clause-whole
unfolding IsJournaled IsWhole
returns-clause-whole c key all before is = (returns-clause-call c).whole key all before refl is
