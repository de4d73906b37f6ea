use Rattle.std.proofs.Common.{◌≡◌, ◌∙◌, arith, inr}
use Rattle.std.proofs.lemmas.Result.{err_from_is_err_and}
use Rattle.std.proofs.lemmas.List.{map_push}
use Rattle.aegis.proofs.Stepwise.{begun_fault_or, header_now, none_left, record_long, so_far_fault, so_far_last, so_far_long, so_far_next, so_far_none, so_far_trailing, some_left}
use Rattle.aegis.proofs.record.open.open_each.Goals as goal

pub records-init : goal.records-init
records-init g c = record { so_far = rw c.new-found.ensures.items (so_far_none _ _ _ c.in-Some.version c.in-Some.rest.now c.args.bytes.now c.in-Some.ensures.some) }

pub returns-in_default-clause-refused : goal.returns-in_default-clause-refused
returns-in_default-clause-refused g c = inr (header_now _ _ _ c.args.bytes.now c.in_default.ensures.none)

pub returns-in_err-frame-clause-refused : goal.returns-in_err-frame-clause-refused
returns-in_err-frame-clause-refused g c =
    let p = err_from_is_err_and c.from_residual.result c.from_residual.ensures.1 in
    rw (p.1, p.2) (so_far_fault _ _ _ _ _ _ _ _ c.records.invariant.so_far (begun_fault_or _ _ _ c.in_err-frame.ensures.refused))

pub overflow_add-position : goal.overflow_add-position
overflow_add-position g c =
    omega (arith, so_far_long _ _ _ _ _ _ _ c.records.invariant.so_far, record_long _ _ _ _ _ _ _ _ c.in_ok-frame.ensures.opened)

pub overflow_add-position-in-records : goal.overflow_add-position-in-records
overflow_add-position-in-records g c =
    omega (arith, so_far_long _ _ _ _ _ _ _ c.records.invariant.so_far, record_long _ _ _ _ _ _ _ _ c.in_ok-frame.ensures.opened, c.len.ensures)

pub returns-then-not-is_empty-clause-refused : goal.returns-then-not-is_empty-clause-refused
returns-then-not-is_empty-clause-refused g c =
    let r = c.in_ok-frame.ensures.opened in
    inr (so_far_trailing _ _ _ _ _ _ _ _ _ c.records.invariant.so_far r.within (rw c.if-frame-eq1.true at r.are)
    (some_left _ c.is_empty.result c.is_empty.ensures c.if-not-is_empty.true))

pub returns-then-frame-eq1-clause-opened : goal.returns-then-frame-eq1-clause-opened
returns-then-frame-eq1-clause-opened g c =
    let r = c.in_ok-frame.ensures.opened in
    rw (c.in_ok-push.ensures.items, map_push _ c.records.found.items c.in_ok-frame.message) (
      c.records.position.version,
      so_far_last _ _ _ _ _ _ _ _ _ c.records.invariant.so_far r.within (rw c.if-frame-eq1.true at r.are)
          (none_left _ c.is_empty.result c.is_empty.ensures c.if-not-is_empty.false),
    )

pub records-preserved : goal.records-preserved
records-preserved g c =
    let r = c.in_ok-frame.ensures.opened in
    let known = r.known in
    let flag : c.in_ok-frame.frame.flag ≡ 0 = omega (arith, c.if-frame-eq1.false) in
    let more = so_far_next _ _ _ _ _ _ _ _ _ c.records.invariant.so_far r.within (rw flag at r.are) in
    record { so_far = rw (c.in_ok-push.ensures.items, map_push _ c.records.found.items c.in_ok-frame.message, c.len.ensures ∙ c.in_ok-frame.message.ok.0) more }

pub records-smaller : goal.records-smaller
records-smaller g c = omega (arith, record_long _ _ _ _ _ _ _ _ c.in_ok-frame.ensures.opened)
