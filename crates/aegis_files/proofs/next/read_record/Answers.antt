use Rattle.std.proofs.Common.{◌≡◌, ◌∙◌, ap, arith, drop, inl, inr, length, subst, sym, take}
use Rattle.std.proofs.KnownBytes.{Consumes-nil}
use Rattle.std.proofs.lemmas.Bool.{cases_lt}
use Rattle.std.proofs.lemmas.List.{length-take}
use Rattle.std.proofs.lemmas.Result.{IfOk-weaker, err_from_is_err_and}
use Rattle.std.specs.Io.KnownBytes.{Consumes}
use Rattle.aegis.specs.RecordStream.{parts}
use Rattle.aegis_files.proofs.NextRecord.{begins, head_refused, only_record, too_short}
use Rattle.aegis_files.proofs.next.read_record.Goals as goal

pub returns-then-count-lt-RECORD_HEAD_BYTES-clause-alone : goal.returns-then-count-lt-RECORD_HEAD_BYTES-clause-alone
returns-then-count-lt-RECORD_HEAD_BYTES-clause-alone g c flag m rest low is =
    let n = c.in_ok-count.count in
    let found = take n c.fill_part.new.buffer.items in
    too_short c.args.opener.now flag m rest found (omega (arith, c.if-count-lt-RECORD_HEAD_BYTES.true, length-take n c.fill_part.new.buffer.items)) is

pub returns-in_err-len-clause-failed : goal.returns-in_err-len-clause-failed
returns-in_err-len-clause-failed g c =
    let p = err_from_is_err_and c.from_residual-in_err-len.result c.from_residual-in_err-len.ensures.1 in
    let e = c.in_ok-count.ensures.ok in
    let old = c.fill_part.new.buffer.items in
    let five : c.in_ok-count.count ≡ 5 = omega (arith, e.below, c.if-count-lt-RECORD_HEAD_BYTES.false) in
    let head = c.copy_from_slice.ensures.after ∙ ap (take 5) c.deref.ensures.value in
    rw (p.1, p.2) (head_refused c.args.opener.now _ _ c.copy_from_slice.new.self _
    (subst (Consumes _ _) (ap (λ n. take n old) five ∙ sym head) (e.read _ (Consumes-nil _))) c.in_err-len.ensures.refused)

pub returns-clause-alone : goal.returns-clause-alone
returns-clause-alone g c =
    let new = c.fill_part-2.new.buffer.items in
    let head = c.copy_from_slice.ensures.after ∙ ap (take 5) c.deref.ensures.value in
    IfOk-weaker c.fill_part-2.result _ _ (λ n r flag m rest low is.
    only_record c.args.opener.now flag m rest (take n new) c.in_ok-len.len (omega (arith, r.below, length-take n new)) is
    (c.in_ok-len.ensures.len flag m (drop 5 (take n new)) rest low (begins n _ _ _ new _ _ head r ∙ is))) c.fill_part-2.ensures.ok

pub returns-clause-cut : goal.returns-clause-cut
returns-clause-cut g c =
    let new = c.fill_part-2.new.buffer.items in
    let len = c.in_ok-len.len in
    let head = c.copy_from_slice.ensures.after ∙ ap (take 5) c.deref.ensures.value in
    IfOk-weaker c.fill_part-2.result _ _ (λ n r cut.
    let is = begins n _ _ _ new _ _ head r in
    elim (cases_lt n len) [
      | inl short ↦ r.ended short
      | inr whole ↦ absurd (c.in_ok-len.ensures.whole (drop 5 (take n new)) (omega (arith, whole, ap length is, r.within, length-take n new))
          (ap (parts c.args.opener.now.position.version) is ∙ cut))
    ]) c.fill_part-2.ensures.ok
