use Rattle.std.proofs.Common.{◌≡◌, ◌-◌, ◌∙◌, ap, arith, drop, length, sym}
use Rattle.std.proofs.lemmas.Result.{err_from_is_err_and}
use Rattle.std.specs.Prelude.{replicate, ℕ}
use Rattle.aegis_engine.specs.declared.cipher.TheConstants.{ERASED}
use Rattle.aegis.specs.RecordResults.{sealing_of, with_message}
use Rattle.aegis.specs.RecordStream.{length_at}
use Rattle.aegis.proofs.InPlace.{head_fits, left, sealed_end, sealed_is}
use Rattle.aegis.proofs.Reading.{parts_cut, parts_known, record_sound}
use Rattle.aegis.proofs.Sealed.{sealed-is}
use Rattle.aegis.proofs.record.record_opener.in_place.open_record_in_place.Goals as goal

pub returns-in_err-frame-clause-erased : goal.returns-in_err-frame-clause-erased
returns-in_err-frame-clause-erased c =
    let p = err_from_is_err_and c.from_residual.result c.from_residual.ensures.1 in
    rw (p.1, p.2) (λ e. absurd (parts_known c.args.position.version c.args.bytes.now c.args.position.number (rw e at c.in_err-frame.ensures)))

pub slice_bounds-sealed-end : goal.slice_bounds-sealed-end
slice_bounds-sealed-end c = sealed_end _ _ _ (parts_cut _ _ _ c.in_ok-frame.ensures)

pub open_in_place-requires-clause-long : goal.open_in_place-requires-clause-long
open_in_place-requires-clause-long c =
    let cut = parts_cut _ _ _ c.in_ok-frame.ensures in
    rw (sealed_is _ _ _ cut) (omega (arith, cut.size))

pub open_in_place-requires-clause-within : goal.open_in_place-requires-clause-within
open_in_place-requires-clause-within c =
    let cut = parts_cut _ _ _ c.in_ok-frame.ensures in
    rw (sealed_is _ _ _ cut) (omega (arith, cut.size, cut.within))

pub overflow_sub-result : goal.overflow_sub-result
overflow_sub-result c = omega (arith, (parts_cut _ _ _ c.in_ok-frame.ensures).size)

pub returns-in-Ok-clause-opened : goal.returns-in-Ok-clause-opened
returns-in-Ok-clause-opened c =
    let cut = parts_cut _ _ _ c.in_ok-frame.ensures in
    let is = sealed_is _ _ _ cut in
    let made = c.open_in_place.new.sealed in
    let now = left _ _ _ made cut (rw is at c.open_in_place.auto.sealed) (rw is at c.open_in_place.ensures.tag) in
    rw (now.message, now.others) (record_sound (sealing_of c.args.cipher.now) (sealed-is _ _ _) c.args.position _ _ _ _ _
    (head_fits _ _ _ made cut (λ i. omega (arith, c.type_inv.bytes i))) c.in_ok-frame.ensures (rw is at c.in-Ok.ensures.opened))

pub returns-in-Ok-clause-written : goal.returns-in-Ok-clause-written
returns-in-Ok-clause-written c =
    let cut = parts_cut _ _ _ c.in_ok-frame.ensures in
    let is = sealed_is _ _ _ cut in
    let now = left _ _ _ c.open_in_place.new.sealed cut (rw is at c.open_in_place.auto.sealed) (rw is at c.open_in_place.ensures.tag) in
    now.is ∙ ap (with_message c.args.bytes.now) (sym now.message)

pub returns-in-Err-clause-refused : goal.returns-in-Err-clause-refused
returns-in-Err-clause-refused c =
    let is = sealed_is _ _ _ (parts_cut _ _ _ c.in_ok-frame.ensures) in
    rw c.in_ok-frame.ensures (rw is at c.in-Err.ensures.refused)

pub returns-in-Err-clause-erased : goal.returns-in-Err-clause-erased
returns-in-Err-clause-erased c damaged =
    let cut = parts_cut _ _ _ c.in_ok-frame.ensures in
    let is = sealed_is _ _ _ cut in
    let now = left _ _ _ c.open_in_place.new.sealed cut (rw is at c.open_in_place.auto.sealed) (rw is at c.open_in_place.ensures.tag) in
    let number : length c.in_ok-frame.frame.sealed.now - 32 ≡ length_at (drop 1 c.args.bytes.now) = let n = cut.size in omega arith in
    now.is ∙ ap (with_message c.args.bytes.now) ((rw is at c.in-Err.ensures.erased) ∙ ap (λ (n : ℕ). replicate n ERASED) number)
