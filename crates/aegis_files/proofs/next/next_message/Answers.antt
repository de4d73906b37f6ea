use Rattle.std.proofs.Common.{◌+◌, ◌≤◌, ◌++◌, ◌∙◌, ap, arith, length, subst, sym, take}
use Rattle.std.proofs.lemmas.List.{length-append, with_items_is}
use Rattle.std.proofs.lemmas.Result.{err_from_is_err_and}
use Rattle.std.specs.Io.KnownBytes.{Consumes}
use Rattle.aegis.specs.RecordResults.{message_of}
use Rattle.aegis_files.specs.Private.{ReadsNext}
use Rattle.aegis_files.proofs.NextRecord.{message_kept, not_opened, nothing_left, reads_next}
use Rattle.aegis_files.proofs.next.next_message.Goals as goal

pub returns-then-count-eq0-clause-failed : goal.returns-then-count-eq0-clause-failed
returns-then-count-eq0-clause-failed g c =
    let zero = c.if-count-eq0.true in
    nothing_left c.args.opener.now _ _ (rw zero at c.in_ok-count.ensures.read) (rw zero at c.in_ok-count.ensures.cut)

pub returns-clause-opened : goal.returns-clause-opened
returns-clause-opened g c =
    let cut = c.split_at_mut-record in
    let opened = c.in_ok-open_next_in_place.field-0 in
    let part = c.open_next_in_place.new.bytes in
    let after = cut.result.1.now in
    let e = c.in_ok-open_next_in_place.ensures in
    let found = cut.ensures.front ∙ ap (take c.in_ok-count.count) c.deref_mut.ensures.value in
    let fits : 5 + opened.message_len ≤ length part = omega (arith, e.written.size, c.open_next_in_place.auto.bytes) in
    let whole = with_items_is c.read_record.new.buffer (part ++ after)
    (omega (arith, c.open_next_in_place.auto.bytes, cut.ensures.front_len, cut.ensures.back_len, ap length c.deref_mut.ensures.value, length-append part after, c.read_record.new.buffer.ok.0)) in
    subst (ReadsNext _ _ _ _ _) (message_kept opened part after fits ∙ ap (message_of opened) (sym whole))
    (reads_next _ _ opened.is_last _ _ cut.result.0.now _ _ (subst (Consumes _ _) (sym found) c.in_ok-count.ensures.read) e.opened
    (λ flag low is. c.in_ok-count.ensures.alone flag _ _ low (sym found ∙ is)))

pub returns-clause-fits : goal.returns-clause-fits
returns-clause-fits g c = omega (arith, c.in_ok-open_next_in_place.ensures.opened.taken, c.split_at_mut-record.ensures.front_len)

pub returns-in_err-open_next_in_place-clause-failed : goal.returns-in_err-open_next_in_place-clause-failed
returns-in_err-open_next_in_place-clause-failed g c =
    let p = err_from_is_err_and c.from_residual-in_err-open_next_in_place.result c.from_residual-in_err-open_next_in_place.ensures.1 in
    let found = c.split_at_mut-record.ensures.front ∙ ap (take c.in_ok-count.count) c.deref_mut.ensures.value in
    let e = c.in_err-open_next_in_place.ensures.refused in
    rw (p.1, p.2) (not_opened c.args.opener.now _ _ _ _ c.in_ok-count.ensures.read (rw found at e.first) (rw found at e.fault) (λ is. c.in_ok-count.ensures.cut (rw found at (e.cut is))))
