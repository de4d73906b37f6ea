use Rattle.std.proofs.Common.{◌++◌, ◌∙◌, ap, arith, false, true}
use Rattle.std.proofs.lemmas.Result.{err_from_is_err_and}
use Rattle.aegis.specs.RecordResults.{Progress, progress_after, message_of, record_of, start_of}
use Rattle.aegis.specs.RecordStream.{header}
use Rattle.aegis.specs.declared.record.version.Version.TheVariants.{Second}
use Rattle.aegis_files.specs.declared.error.FileError.TheVariants.{Stream}
use Rattle.aegis_files.proofs.Rekeying.{none_at_first, rekeys_begin, rekeys_end, rekeys_more, stops_end, stops_memory, stops_next, stops_writing}
use Rattle.aegis_files.proofs.rekey.rekey_under.Goals as goal

pub returns-in_err-sealer-clause-stopped : goal.returns-in_err-sealer-clause-stopped
returns-in_err-sealer-clause-stopped g c =
    let p = err_from_is_err_and c.from_residual.result c.from_residual.ensures.1 in
    rw (p.1, p.2) (none_at_first _ _ _ _ _ _ _ _ c.requires.old_long c.requires.new_long c.in_err-sealer.ensures.err)

pub records-init : goal.records-init
records-init g c =
    rekeys_begin _ _ _ _ _ _ _ _ _ _ c.begin_at-opener.ensures c.in_ok-sealer.ensures.progress
    (c.in_ok-sealer.ensures.appended ∙ ap (λ l. l ++ (c.args.to.prefix.now ++ header Second)) c.new-out.ensures.items)

pub returns-in_err-opened-clause-stopped : goal.returns-in_err-opened-clause-stopped
returns-in_err-opened-clause-stopped g c =
    let p = err_from_is_err_and c.from_residual-in_err-opened.result c.from_residual-in_err-opened.ensures.1 in
    rw (p.1, p.2) (stops_next _ _ _ _ _ _ _ _ _ _ _ _ _ c.requires.old_long c.requires.new_long c.records.invariant c.in_err-opened.ensures.failed)

pub returns-in_err-end-clause-stopped : goal.returns-in_err-end-clause-stopped
returns-in_err-end-clause-stopped g c =
    let p = err_from_is_err_and c.from_residual-in_err-end.result c.from_residual-in_err-end.ensures.1 in
    rw (p.1, p.2) (stops_end _ _ _ _ _ _ _ _ _ _ _ _ _ _ _ _ c.requires.old_long c.requires.new_long c.records.invariant (rw c.if-opened.true at c.in_ok-opened.ensures.opened) c.in_err-end.ensures.err)

pub returns-in_err-seal_last-clause-stopped : goal.returns-in_err-seal_last-clause-stopped
returns-in_err-seal_last-clause-stopped g c =
    let p = err_from_is_err_and c.from_residual-in_err-seal_last.result c.from_residual-in_err-seal_last.ensures.1 in
    rw (p.1, p.2) (stops_memory _ _ _ _ _ _ _ _ _ _ _ _ _ c.requires.old_long c.requires.new_long c.records.invariant (ap (λ e. Stream e) c.in_err-seal_last.ensures.err))

pub returns-in_err-seal_next-clause-stopped : goal.returns-in_err-seal_next-clause-stopped
returns-in_err-seal_next-clause-stopped g c =
    let p = err_from_is_err_and c.from_residual-in_err-seal_next.result c.from_residual-in_err-seal_next.ensures.1 in
    rw (p.1, p.2) (stops_memory _ _ _ _ _ _ _ _ _ _ _ _ _ c.requires.old_long c.requires.new_long c.records.invariant (ap (λ e. Stream e) c.in_err-seal_next.ensures.err))

pub returns-in_err-write_last-clause-stopped : goal.returns-in_err-write_last-clause-stopped
returns-in_err-write_last-clause-stopped g c =
    let p = err_from_is_err_and c.from_residual-in_err-write_last.result c.from_residual-in_err-write_last.ensures.1 in
    let m = c.message-contents.ensures ∙ ap (message_of c.in_ok-opened.opened) c.deref.ensures.value in
    let sent = c.deref-then-opened.ensures.value ∙ c.in_ok-seal_last.ensures.appended ∙ ap (λ x. c.records.out.items ++ record_of c.records.sealer 1 x) m in
    let written = c.in_err-write_last.ensures.beginning in
    rw (p.1, p.2) (stops_writing _ _ _ true _ _ _ _ _ _ _ _ _ _ _ _ _ _ written.0 _ c.requires.old_long c.requires.new_long c.records.invariant (rw c.if-opened.true at c.in_ok-opened.ensures.opened) (λ _. c.in_ok-end.ensures.end) sent written.1 c.in_err-write_last.ensures.err)

pub returns-then-opened-clause-rekeyed : goal.returns-then-opened-clause-rekeyed
returns-then-opened-clause-rekeyed g c =
    let m = c.message-contents.ensures ∙ ap (message_of c.in_ok-opened.opened) c.deref.ensures.value in
    let sent = c.deref-then-opened.ensures.value ∙ c.in_ok-seal_last.ensures.appended ∙ ap (λ x. c.records.out.items ++ record_of c.records.sealer 1 x) m in
    rekeys_end _ _ _ _ _ _ _ _ _ _ _ _ _ _ _ _ _ c.requires.old_long c.requires.new_long c.records.invariant (rw c.if-opened.true at c.in_ok-opened.ensures.opened) c.in_ok-opened.ensures.fits c.in_ok-end.ensures.end sent c.in_ok-write_last.ensures.ok

pub returns-in_err-write-clause-stopped : goal.returns-in_err-write-clause-stopped
returns-in_err-write-clause-stopped g c =
    let p = err_from_is_err_and c.from_residual-in_err-write.result c.from_residual-in_err-write.ensures.1 in
    let m = c.message-contents.ensures ∙ ap (message_of c.in_ok-opened.opened) c.deref.ensures.value in
    let sent = c.deref-in-records.ensures.value ∙ c.in_ok-seal_next.ensures.appended ∙ ap (λ x. c.records.out.items ++ record_of c.records.sealer 0 x) m in
    let written = c.in_err-write.ensures.beginning in
    rw (p.1, p.2) (stops_writing _ _ _ false _ _ _ _ _ _ _ _ _ _ _ _ _ _ written.0 _ c.requires.old_long c.requires.new_long c.records.invariant (rw c.if-opened.false at c.in_ok-opened.ensures.opened) (λ no. absurd cc) sent written.1 c.in_err-write.ensures.err)

pub records-preserved : goal.records-preserved
records-preserved g c =
    let m = c.message-contents.ensures ∙ ap (message_of c.in_ok-opened.opened) c.deref.ensures.value in
    let sent = c.deref-in-records.ensures.value ∙ c.in_ok-seal_next.ensures.appended ∙ ap (λ x. c.records.out.items ++ record_of c.records.sealer 0 x) m in
    rekeys_more _ _ _ _ _ _ _ _ _ _ _ _ _ _ _ _ _ _ _ c.records.invariant (rw c.if-opened.false at c.in_ok-opened.ensures.opened) (c.in_ok-seal_next.ensures.progress ∙ ap (progress_after c.records.sealer _) m) sent c.in_ok-write.ensures.ok c.clear.ensures.items

pub records-smaller : goal.records-smaller
records-smaller g c =
    omega (arith, c.in_ok-opened.ensures.fits, ap (λ (p : Progress). start_of p) c.in_ok-opened.ensures.opened.progress)
