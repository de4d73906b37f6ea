use Rattle.std.proofs.Common.{◌∙◌, ap, Err, IsTrue, rules}
use Rattle.std.proofs.lemmas.Result.{err_from_is_err_and}
use Rattle.aegis_pages.specs.Commits.{IsJournalAccepted, IsLeftByCommit, journal_key}
use Rattle.aegis_pages.proofs.AcceptFacts.{accepts_all, fits_all, made_is_own, refused_all, was_read}
use Rattle.aegis_pages.proofs.KnownFacts.{never_left}
use Rattle.aegis_pages.proofs.RecoveryFacts.{kept_by_empty, recovers_again, rests_at_contents}
use Rattle.aegis_pages.proofs.opening.recover_file.Goals as goal

pub returns-in-Err-recover-clause-recovers : goal.returns-in-Err-recover-clause-recovers
returns-in-Err-recover-clause-recovers g c =
    let read = was_read (λ l. l.now) g.L.LaneState.VARIANT c.args.key.now (g.S.Storage.bytes c.args.storage.now) (g.J.Storage.bytes c.args.journal.now) c.in-Ok.content.items c.in_ok-header_block.header_block c.in_ok-header.header c.journaled_content-writes.result
    g.met.L.LaneState.one_two_or_four c.in-Ok.ensures.read c.in_ok-header.ensures.found c.in_ok-header.ensures.none c.in_ok-header_block.ensures.read c.in_ok-header_block.ensures.short
    (rw (c.deref.ensures.value, c.journal_key-journal_key.ensures) at c.journaled_content-writes.ensures.some) (rw (c.deref.ensures.value, c.journal_key-journal_key.ensures) at c.journaled_content-writes.ensures.none) in
    let yes : IsTrue c.is_accepted.result = search rules in
    let fit = fits_all _ _ _ _ _ _ _ _ read.1 (rw c.deref-2.ensures.value at ((c.is_accepted.ensures read.0 read.2).0 yes)) in
    λ before now batch made. recovers_again g.L.LaneState.VARIANT c.args.key.now _ _ _ _ (g.J.Storage.bytes c.args.journal.now) (rw c.journal_key-journal_key.ensures at c.recover.ensures.recovers) c.recover.ensures.beginning before now batch
    (made_is_own _ _ _ _ _ _ _ _ batch (g.met.S.Storage.possible c.args.storage.now) fit made)

pub returns-in_err-header-2-clause-recovers : goal.returns-in_err-header-2-clause-recovers
returns-in_err-header-2-clause-recovers g c =
    let read = was_read (λ l. l.now) g.L.LaneState.VARIANT c.args.key.now (g.S.Storage.bytes c.args.storage.now) (g.J.Storage.bytes c.args.journal.now) c.in-Ok.content.items c.in_ok-header_block.header_block c.in_ok-header.header c.journaled_content-writes.result
    g.met.L.LaneState.one_two_or_four c.in-Ok.ensures.read c.in_ok-header.ensures.found c.in_ok-header.ensures.none c.in_ok-header_block.ensures.read c.in_ok-header_block.ensures.short
    (rw (c.deref.ensures.value, c.journal_key-journal_key.ensures) at c.journaled_content-writes.ensures.some) (rw (c.deref.ensures.value, c.journal_key-journal_key.ensures) at c.journaled_content-writes.ensures.none) in
    let yes : IsTrue c.is_accepted.result = search rules in
    let fit = fits_all _ _ _ _ _ _ _ _ read.1 (rw c.deref-2.ensures.value at ((c.is_accepted.ensures read.0 read.2).0 yes)) in
    λ before now batch made. recovers_again g.L.LaneState.VARIANT c.args.key.now _ _ _ _ (g.J.Storage.bytes c.args.journal.now) (rw c.journal_key-journal_key.ensures at c.recover.ensures.recovers) c.recover.ensures.beginning before now batch
    (made_is_own _ _ _ _ _ _ _ _ batch (g.met.S.Storage.possible c.args.storage.now) fit made)

pub returns-in-Some-clause-recovers : goal.returns-in-Some-clause-recovers
returns-in-Some-clause-recovers g c =
    let read = was_read (λ l. l.now) g.L.LaneState.VARIANT c.args.key.now (g.S.Storage.bytes c.args.storage.now) (g.J.Storage.bytes c.args.journal.now) c.in-Ok.content.items c.in_ok-header_block.header_block c.in_ok-header.header c.journaled_content-writes.result
    g.met.L.LaneState.one_two_or_four c.in-Ok.ensures.read c.in_ok-header.ensures.found c.in_ok-header.ensures.none c.in_ok-header_block.ensures.read c.in_ok-header_block.ensures.short
    (rw (c.deref.ensures.value, c.journal_key-journal_key.ensures) at c.journaled_content-writes.ensures.some) (rw (c.deref.ensures.value, c.journal_key-journal_key.ensures) at c.journaled_content-writes.ensures.none) in
    let yes : IsTrue c.is_accepted.result = search rules in
    let fit = fits_all _ _ _ _ _ _ _ _ read.1 (rw c.deref-2.ensures.value at ((c.is_accepted.ensures read.0 read.2).0 yes)) in
    λ before now batch made. recovers_again g.L.LaneState.VARIANT c.args.key.now _ _ _ _ (g.J.Storage.bytes c.args.journal.now) (rw c.journal_key-journal_key.ensures at c.recover.ensures.recovers) c.recover.ensures.beginning before now batch
    (made_is_own _ _ _ _ _ _ _ _ batch (g.met.S.Storage.possible c.args.storage.now) fit made)

pub returns-clause-recovers : goal.returns-clause-recovers
returns-clause-recovers g c =
    let read = was_read (λ l. l.now) g.L.LaneState.VARIANT c.args.key.now (g.S.Storage.bytes c.args.storage.now) (g.J.Storage.bytes c.args.journal.now) c.in-Ok.content.items c.in_ok-header_block.header_block c.in_ok-header.header c.journaled_content-writes.result
    g.met.L.LaneState.one_two_or_four c.in-Ok.ensures.read c.in_ok-header.ensures.found c.in_ok-header.ensures.none c.in_ok-header_block.ensures.read c.in_ok-header_block.ensures.short
    (rw (c.deref.ensures.value, c.journal_key-journal_key.ensures) at c.journaled_content-writes.ensures.some) (rw (c.deref.ensures.value, c.journal_key-journal_key.ensures) at c.journaled_content-writes.ensures.none) in
    let yes : IsTrue c.is_accepted.result = search rules in
    let fit = fits_all _ _ _ _ _ _ _ _ read.1 (rw c.deref-2.ensures.value at ((c.is_accepted.ensures read.0 read.2).0 yes)) in
    λ before now batch made. recovers_again g.L.LaneState.VARIANT c.args.key.now _ _ _ _ (g.J.Storage.bytes c.args.journal.now) (rw c.journal_key-journal_key.ensures at c.recover.ensures.recovers) c.recover.ensures.beginning before now batch
    (made_is_own _ _ _ _ _ _ _ _ batch (g.met.S.Storage.possible c.args.storage.now) fit made)

pub returns-in-Some-clause-kept : goal.returns-in-Some-clause-kept
returns-in-Some-clause-kept g c empty = kept_by_empty _ _ _ _ _ c.in-Ok-recover.ensures.recovered empty

pub returns-in-Some-clause-rests : goal.returns-in-Some-clause-rests
returns-in-Some-clause-rests g c =
    let read = was_read (λ l. l.now) g.L.LaneState.VARIANT c.args.key.now (g.S.Storage.bytes c.args.storage.now) (g.J.Storage.bytes c.args.journal.now) c.in-Ok.content.items c.in_ok-header_block.header_block c.in_ok-header.header c.journaled_content-writes.result
    g.met.L.LaneState.one_two_or_four c.in-Ok.ensures.read c.in_ok-header.ensures.found c.in_ok-header.ensures.none c.in_ok-header_block.ensures.read c.in_ok-header_block.ensures.short
    (rw (c.deref.ensures.value, c.journal_key-journal_key.ensures) at c.journaled_content-writes.ensures.some) (rw (c.deref.ensures.value, c.journal_key-journal_key.ensures) at c.journaled_content-writes.ensures.none) in
    let yes : IsTrue c.is_accepted.result = search rules in
    let fit = fits_all _ _ _ _ _ _ _ _ read.1 (rw c.deref-2.ensures.value at ((c.is_accepted.ensures read.0 read.2).0 yes)) in
    λ before now batch made. rests_at_contents g.L.LaneState.VARIANT c.args.key.now _ _ _ _ (g.J.Storage.bytes c.args.journal.now) (rw c.journal_key-journal_key.ensures at c.in-Ok-recover.ensures.at_rest) before now batch
    (made_is_own _ _ _ _ _ _ _ _ batch (g.met.S.Storage.possible c.args.storage.now) fit made)

pub returns-in-Some-clause-fits : goal.returns-in-Some-clause-fits
returns-in-Some-clause-fits g c =
    let read = was_read (λ l. l.now) g.L.LaneState.VARIANT c.args.key.now (g.S.Storage.bytes c.args.storage.now) (g.J.Storage.bytes c.args.journal.now) c.in-Ok.content.items c.in_ok-header_block.header_block c.in_ok-header.header c.journaled_content-writes.result
    g.met.L.LaneState.one_two_or_four c.in-Ok.ensures.read c.in_ok-header.ensures.found c.in_ok-header.ensures.none c.in_ok-header_block.ensures.read c.in_ok-header_block.ensures.short
    (rw (c.deref.ensures.value, c.journal_key-journal_key.ensures) at c.journaled_content-writes.ensures.some) (rw (c.deref.ensures.value, c.journal_key-journal_key.ensures) at c.journaled_content-writes.ensures.none) in
    let yes : IsTrue c.is_accepted.result = search rules in
    let fit = fits_all _ _ _ _ _ _ _ _ read.1 (rw c.deref-2.ensures.value at ((c.is_accepted.ensures read.0 read.2).0 yes)) in
    fit

pub returns-in_err-header_block-clause-accepts : goal.returns-in_err-header_block-clause-accepts
returns-in_err-header_block-clause-accepts g c _ =
    let p = err_from_is_err_and c.from_residual.result c.from_residual.ensures.1 in
    never_left _ _ (p.1 ∙ ap Err p.2) c.in_err-header_block.ensures.refused

pub returns-in_err-header-clause-accepts : goal.returns-in_err-header-clause-accepts
returns-in_err-header-clause-accepts g c _ =
    let p = err_from_is_err_and c.from_residual-in_err-header.result c.from_residual-in_err-header.ensures.1 in
    never_left _ _ (p.1 ∙ ap Err p.2) c.in_err-header.ensures.refused

pub returns-in_err-header-2-clause-accepts : goal.returns-in_err-header-2-clause-accepts
returns-in_err-header-2-clause-accepts g c _ =
    let p = err_from_is_err_and c.from_residual-in_err-header-2.result c.from_residual-in_err-header-2.ensures.1 in
    never_left _ _ (p.1 ∙ ap Err p.2) c.in_err-header-2.ensures.refused

pub returns-then-not-is_accepted-clause-accepts : goal.returns-then-not-is_accepted-clause-accepts
unfolding IsLeftByCommit
returns-then-not-is_accepted-clause-accepts g c is =
    let read = was_read (λ l. l.now) g.L.LaneState.VARIANT c.args.key.now (g.S.Storage.bytes c.args.storage.now) (g.J.Storage.bytes c.args.journal.now) c.in-Ok.content.items c.in_ok-header_block.header_block c.in_ok-header.header c.journaled_content-writes.result
    g.met.L.LaneState.one_two_or_four c.in-Ok.ensures.read c.in_ok-header.ensures.found c.in_ok-header.ensures.none c.in_ok-header_block.ensures.read c.in_ok-header_block.ensures.short
    (rw (c.deref.ensures.value, c.journal_key-journal_key.ensures) at c.journaled_content-writes.ensures.some) (rw (c.deref.ensures.value, c.journal_key-journal_key.ensures) at c.journaled_content-writes.ensures.none) in
    let accepted = accepts_all _ _ _ _ _ _ is.2 _ _ _ _ _ _ read.1 (g.met.S.Storage.possible c.args.storage.now) (g.met.J.Storage.possible c.args.journal.now) is.3 is.4 in
    let yes : IsTrue c.is_accepted.result = (c.is_accepted.ensures read.0 read.2).1 (rw c.deref-2.ensures.value accepted) in absurd (search rules)

pub returns-then-not-is_accepted-clause-refused : goal.returns-then-not-is_accepted-clause-refused
returns-then-not-is_accepted-clause-refused g c =
    let read = was_read (λ l. l.now) g.L.LaneState.VARIANT c.args.key.now (g.S.Storage.bytes c.args.storage.now) (g.J.Storage.bytes c.args.journal.now) c.in-Ok.content.items c.in_ok-header_block.header_block c.in_ok-header.header c.journaled_content-writes.result
    g.met.L.LaneState.one_two_or_four c.in-Ok.ensures.read c.in_ok-header.ensures.found c.in_ok-header.ensures.none c.in_ok-header_block.ensures.read c.in_ok-header_block.ensures.short
    (rw (c.deref.ensures.value, c.journal_key-journal_key.ensures) at c.journaled_content-writes.ensures.some) (rw (c.deref.ensures.value, c.journal_key-journal_key.ensures) at c.journaled_content-writes.ensures.none) in
    let not : IsJournalAccepted g.L.LaneState.VARIANT c.args.key.now c.in_ok-header_block.header_block c.in_ok-header.header read.0 c.in-Ok.content.items → ⊥ =
    λ accepted. let yes : IsTrue c.is_accepted.result = (c.is_accepted.ensures read.0 read.2).1 (rw c.deref-2.ensures.value accepted) in absurd (search rules) in
    refused_all _ _ _ _ _ _ _ _ read.1 not _ c.left_alone.ensures.some c.left_alone.ensures.none
