use Rattle.std.proofs.Common.{◌+◌, ◌++◌, ◌∙◌, ap, length, sym, ℕ}
use Rattle.std.proofs.lemmas.List.{length-append}
use Rattle.aegis_base.specs.Variant.{Aegis128L}
use Rattle.aegis_c_calls.proofs.JournalFacts.{recounted, saved_counts}
use Rattle.aegis_c_calls.proofs.journal.absorb.Goals as goal

pub returns-clause-taken : goal.returns-clause-taken
returns-clause-taken c key nonce ad m is =
    let counts = saved_counts Aegis128L c.args.st.now.context key nonce ad m is in
    recounted Aegis128L _ _ _ key nonce ad (m ++ c.args.input.now) (c.absorb.ensures key nonce ad m is) (sym c.requires.associated_data ∙ counts.0)
    (ap (λ (n : ℕ). n + length c.args.input.now) counts.1 ∙ sym (length-append m c.args.input.now))
