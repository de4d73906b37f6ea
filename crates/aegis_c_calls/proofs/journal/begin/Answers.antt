use Rattle.std.proofs.Common.{◌≡◌, ◌++◌, ◌∙◌, [], List, ap, arith, drop, refl, replicate, rules, ℕ}
use Rattle.std.proofs.lemmas.List.{append-nil, drop_at}
use Rattle.aegis_base.specs.Variant.{Aegis128L}
use Rattle.aegis_engine.specs.SavedContexts.{IsSaved}
use Rattle.aegis_pages.specs.Commits.{journal_key}
use Rattle.aegis_pages.specs.Layouts.{journal_beginning}
use Rattle.aegis_c_calls.specs.PageCalls.{file_of}
use Rattle.aegis_c_calls.proofs.JournalFacts.{head_is, none_written, saved_counts}
use Rattle.aegis_c_calls.specs.Private.{IsJournaled}
use Rattle.aegis_c_calls.proofs.journal.begin.Goals as goal

pub absorb-requires-clause-associated_data_within : goal.absorb-requires-clause-associated_data_within
absorb-requires-clause-associated_data_within g c =
    let counts = saved_counts Aegis128L c.begin.new.self _ _ _ _ c.begin.ensures.stands in omega (arith, counts.0)

pub absorb-requires-clause-message_within : goal.absorb-requires-clause-message_within
absorb-requires-clause-message_within g c =
    let counts = saved_counts Aegis128L c.begin.new.self _ _ _ _ c.begin.ensures.stands in omega (arith, counts.1)

pub returns-clause-call : goal.returns-clause-call
returns-clause-call g c =
    let variant = g.S.LaneState.VARIANT in
    let own : c.journal_key-journal_key.result ≡ journal_key variant c.args.k.now =
    c.journal_key-journal_key.ensures ∙ ap (journal_key variant) c.in_ok-key.ensures.key in
    let file : c.new-layout.result ≡ file_of variant c.args.k.now c.args.id.now c.args.page_bytes =
    c.new-layout.ensures ∙ ap (λ (k : List ℕ). file_of variant k c.args.id.now c.args.page_bytes) c.in_ok-key.ensures.key in
    let saved : IsSaved Aegis128L c.absorb.new.self c.journal_key-journal_key.result c.args.nonce.now [] (replicate 8 0) =
    c.absorb.ensures _ _ _ _ c.begin.ensures.stands in
    let written : c.array_of.result ≡ c.journal_beginning.result ++ c.args.nonce.now =
    c.array_of.ensures ∙ ap (λ (l : List ℕ). c.journal_beginning.result ++ l) (append-nil c.args.nonce.now) in
    let ends : drop 512 c.array_of.result ≡ c.args.nonce.now = ap (drop 512) written ∙ drop_at c.journal_beginning.result c.args.nonce.now 512 (omega arith) in
    record {
      answered = search rules;
      begun = λ all _. none_written (journal_key variant c.args.k.now) c.args.nonce.now c.array_of.result all _ (omega arith) ends (rw own at saved);
      written = λ _. head_is _ _ _ _ _ c.array_of.ensures (c.journal_beginning.ensures ∙ ap journal_beginning file) refl;
      kept = search rules;
    }

pub returns-clause-begun : goal.returns-clause-begun
unfolding IsJournaled
returns-clause-begun g c all = (returns-clause-call g c).begun all refl
