use Rattle.std.proofs.Common.{◌≡◌, ◌++◌, ◌∙◌, List, ap, arith, length, refl, rules, ℕ}
use Rattle.std.proofs.lemmas.List.{append_assoc}
use Rattle.std.specs.Int.{to_le_bytes, w64}
use Rattle.aegis_storage.specs.Journal.{entry}
use Rattle.aegis_c_calls.proofs.JournalFacts.{head_is, one_more_written}
use Rattle.aegis_c_calls.specs.Private.{IsJournaled}
use Rattle.aegis_c_calls.proofs.journal.entry.Goals as goal

pub returns-clause-call : goal.returns-clause-call
returns-clause-call c =
    let bytes : List ℕ = c.args.bytes.now in
    let count : c.to_le_bytes-2.result ≡ to_le_bytes w64 (length bytes) = c.to_le_bytes-2.ensures ∙ ap (to_le_bytes w64) (grind arith) in
    let head : c.array_of.result ≡ to_le_bytes w64 c.args.place ++ to_le_bytes w64 (length bytes) =
    head_is c.array_of.result c.to_le_bytes.result c.to_le_bytes-2.result _ _ c.array_of.ensures c.to_le_bytes.ensures count in
    let is : c.array_of.result ++ bytes ≡ entry (c.args.place, bytes) =
    ap (λ (l : List ℕ). l ++ bytes) head ∙ append_assoc (to_le_bytes w64 c.args.place) (to_le_bytes w64 (length bytes)) bytes in
    record {
      answered = search rules;
      taken = λ key all rest before _ so_far.
          one_more_written key all rest c.args.st.now c.absorb.new.st c.absorb-2.new.st c.args.place c.array_of.result bytes before c.in_ok-check_entry.ensures.within c.in_ok-check_entry.ensures.input is
          c.absorb.ensures.taken c.absorb-2.ensures.taken so_far;
      written = λ _. is;
      kept = search rules;
    }

pub returns-clause-taken : goal.returns-clause-taken
unfolding IsJournaled
returns-clause-taken c key all rest before so_far = (returns-clause-call c).taken key all rest before refl so_far
