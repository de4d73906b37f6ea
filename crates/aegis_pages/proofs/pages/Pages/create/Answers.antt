use Rattle.std.proofs.Common.{◌+◌, ◌∙◌, ap, arith, rules, ℕ}
use Rattle.std.proofs.lemmas.Result.{err_from_is_err_and}
use Rattle.aegis_pages.specs.Layouts.{IsPageSize}
use Rattle.aegis_pages.specs.OpenFile.{HasContents, IsCommitted}
use Rattle.aegis_pages.proofs.KnownFacts.{create_begins, if_both, known_map}
use Rattle.aegis_pages.proofs.OpenFileFacts.{created_has, sealed_empty}
use Rattle.aegis_pages.proofs.pages.Pages.create.Goals as goal

pub returns-in_err-begin_journal-clause-refused : goal.returns-in_err-begin_journal-clause-refused
returns-in_err-begin_journal-clause-refused g c =
    let p = err_from_is_err_and c.from_residual.result c.from_residual.ensures.1 in
    let size : IsPageSize c.args.page_bytes = search rules in
    rw (p.1, p.2) (create_begins g.N.Nonces.errors c.args.page_bytes _ size _ c.in_err-begin_journal.ensures.refused)

pub invariant_of-result : goal.invariant_of-result
invariant_of-result g c =
    rw c.new-layout.ensures
    (c.in-Ok.ensures ∙ ap (λ (k : ℕ). c.args.page_bytes + (k + 32)) c.requires, c.new.ensures.size, omega arith, omega arith, g.met.L.LaneState.one_two_or_four)

pub returns-clause-created : goal.returns-clause-created
unfolding HasContents
returns-clause-created g c =
    known_map (g.S.Storage.bytes c.args.storage) _ _ (λ xs known. created_has c.new-layout.result c.new.result.entries _ c.new.ensures.none known) c.in_ok-begin_file.ensures.known

pub returns-clause-certain : goal.returns-clause-certain
unfolding IsCommitted
returns-clause-certain g c = if_both (g.S.Storage.disk c.args.storage) (g.J.Storage.disk c.args.journal) _ (λ disk journal_disk storage_is journal_is.
    let begun = c.in_ok-begin_file.ensures.certain disk storage_is in record {
      bytes = begun.bytes;
      rests = record { storage_is = begun.is; journal_is = c.in_ok-begin_journal.ensures.certain journal_disk journal_is };
      is = sealed_empty c.new-layout.result begun.bytes begun.so;
    })
