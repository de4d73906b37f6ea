use Rattle.std.proofs.Common.{◌≡◌, ◌-◌, ◌∙◌, ap, arith, drop, length, refl, take}
use Rattle.std.proofs.lemmas.List.{length-drop, length-take}
use Rattle.std.proofs.lemmas.Result.{err_from_is_err_and}
use Rattle.aegis.specs.RecordResults.{Progress, message_of, start_of}
use Rattle.aegis_files.proofs.Ranges.{range_begin, range_end, range_more, stops_next, stops_write}
use Rattle.aegis_files.proofs.range.open_range.Goals as goal

pub records-init : goal.records-init
records-init g c = range_begin _ _ _ _ _ _ _ c.begin_at-opener.ensures c.requires.start_within

pub returns-in_err-opened-clause-stopped : goal.returns-in_err-opened-clause-stopped
returns-in_err-opened-clause-stopped g c =
    let p = err_from_is_err_and c.from_residual.result c.from_residual.ensures.1 in
    rw (p.1, p.2) (stops_next _ _ _ _ _ _ _ _ _ _ _ _ c.records.invariant.some c.in_err-opened.ensures.failed)

pub returns-in_err-write-clause-stopped : goal.returns-in_err-write-clause-stopped
returns-in_err-write-clause-stopped g c =
    let p = err_from_is_err_and c.from_residual-in_err-write.result c.from_residual-in_err-write.ensures.1 in
    let message = c.message.ensures ∙ ap (message_of c.in_ok-opened.opened) c.deref.ensures.value in
    let piece = c.part-piece.ensures ∙ ap (λ l. take c.records.left (drop c.records.skip l)) message in
    let written = c.in_err-write.ensures.beginning in
    rw (p.1, p.2) (stops_write _ _ _ _ _ _ _ _ _ written.0 _ _ _ _ _ _ _ _ _ c.records.invariant c.in_ok-opened.ensures.opened c.in_ok-opened.ensures.fits piece written.1
    c.in_err-write.ensures.err)

pub returns-in_err-write_last-clause-stopped : goal.returns-in_err-write_last-clause-stopped
returns-in_err-write_last-clause-stopped g c =
    let p = err_from_is_err_and c.from_residual-in_err-write_last.result c.from_residual-in_err-write_last.ensures.1 in
    let message = c.message.ensures ∙ ap (message_of c.in_ok-opened.opened) c.deref.ensures.value in
    let piece = c.part-piece.ensures ∙ ap (λ l. take c.records.left (drop c.records.skip l)) message in
    let written = c.in_err-write_last.ensures.beginning in
    rw (p.1, p.2) (stops_write _ _ _ _ _ _ _ _ _ written.0 _ _ _ _ _ _ _ _ _ c.records.invariant c.in_ok-opened.ensures.opened c.in_ok-opened.ensures.fits piece written.1
    c.in_err-write_last.ensures.err)

pub returns-then-is_done-clause-opened : goal.returns-then-is_done-clause-opened
returns-then-is_done-clause-opened g c =
    let buffer = c.next_message.new.buffer.items in
    let count = c.in_ok-opened.opened.message_len in
    let message = c.message.ensures ∙ ap (message_of c.in_ok-opened.opened) c.deref.ensures.value in
    let piece = c.part-piece.ensures ∙ ap (λ l. take c.records.left (drop c.records.skip l)) message in
    let size : length (message_of c.in_ok-opened.opened buffer) ≡ count = omega (arith, length-take count (drop 5 buffer), length-drop 5 buffer, c.in_ok-opened.ensures.size) in
    let next = range_more _ _ _ _ _ _ _ _ c.saturating_sub-skip.result _ (c.records.left - length c.part-piece.result.now) _ _ _ _ _ _ _ _ c.records.invariant c.in_ok-opened.ensures.opened c.in_ok-opened.ensures.fits piece
    c.in_ok-write_last.ensures.ok (omega (arith, c.saturating_sub-skip.ensures, size)) refl in
    range_end _ _ _ _ _ _ _ _ _ _ _ _ _ next.0 next.1 c.if-is_done.ensures.done refl c.position.ensures refl

pub records-preserved : goal.records-preserved
records-preserved g c =
    let buffer = c.next_message.new.buffer.items in
    let count = c.in_ok-opened.opened.message_len in
    let message = c.message.ensures ∙ ap (message_of c.in_ok-opened.opened) c.deref.ensures.value in
    let piece = c.part-piece.ensures ∙ ap (λ l. take c.records.left (drop c.records.skip l)) message in
    let size : length (message_of c.in_ok-opened.opened buffer) ≡ count = omega (arith, length-take count (drop 5 buffer), length-drop 5 buffer, c.in_ok-opened.ensures.size) in
    let on = c.if-is_done.ensures.more in
    record {
      some = (range_more _ _ _ _ _ _ _ _ c.saturating_sub-skip.result _ (c.records.left - length c.part-piece.result.now) _ _ _ _ _ _ _ _ c.records.invariant (rw on.0 at c.in_ok-opened.ensures.opened) c.in_ok-opened.ensures.fits piece
          c.in_ok-write.ensures.ok (omega (arith, c.saturating_sub-skip.ensures, size)) refl).0;
      on = λ some. on.1;
    }

pub records-smaller : goal.records-smaller
records-smaller g c = omega (arith, c.in_ok-opened.ensures.fits, ap (λ (p : Progress). start_of p) c.in_ok-opened.ensures.opened.progress)
