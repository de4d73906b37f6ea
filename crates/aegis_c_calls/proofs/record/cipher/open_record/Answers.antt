use Rattle.std.proofs.Common.{◌∙◌, arith, sym}
use Rattle.aegis_c_calls.specs.Calls.{progress_of}
use Rattle.aegis_c_calls.proofs.OneRecord.{Opens, no_record, record_one, whole_long, whole_record}
use Rattle.aegis_c_calls.proofs.record.cipher.open_record.Goals as goal

pub returns-then-message_len-bytes-clause-opened : goal.returns-then-message_len-bytes-clause-opened
returns-then-message_len-bytes-clause-opened c =
    let p = progress_of c.args.st.now c.args.context.now in
    let opens : Opens p c.in-Ok.flag c.in-Ok.message_len c.args.bytes.now c.open_record_in_place.new.bytes =
    record { is = rw c.position.ensures at c.in-Ok.ensures.opened; long = c.in-Ok.ensures.message_len; size = c.open_record_in_place.auto.bytes } in
    whole_record p c.in-Ok.flag c.in-Ok.message_len c.args.bytes.now c.open_record_in_place.new.bytes opens
    (omega (arith, c.if-message_len-bytes.true, c.open_record_in_place.auto.bytes))

pub returns-then-message_len-bytes-clause-one : goal.returns-then-message_len-bytes-clause-one
returns-then-message_len-bytes-clause-one c f m e =
    record_one (progress_of c.args.st.now c.args.context.now) c.in-Ok.flag f _ m (sym (returns-then-message_len-bytes-clause-opened c) ∙ e)

pub returns-else-message_len-bytes-clause-accepted : goal.returns-else-message_len-bytes-clause-accepted
returns-else-message_len-bytes-clause-accepted c f m known e =
    let p = progress_of c.args.st.now c.args.context.now in
    let opens : Opens p c.in-Ok.flag c.in-Ok.message_len c.args.bytes.now c.open_record_in_place.new.bytes =
    record { is = rw c.position.ensures at c.in-Ok.ensures.opened; long = c.in-Ok.ensures.message_len; size = c.open_record_in_place.auto.bytes } in
    let whole = whole_long p c.in-Ok.flag c.in-Ok.message_len f m c.args.bytes.now c.open_record_in_place.new.bytes opens c.requires.within known e in
    absurd (omega (arith, whole, c.if-message_len-bytes.false, c.open_record_in_place.auto.bytes))

pub returns-in-Err-clause-accepted : goal.returns-in-Err-clause-accepted
returns-in-Err-clause-accepted c f m known e =
    absurd (no_record (progress_of c.args.st.now c.args.context.now) f m c.args.bytes.now c.in-Err.field-0 (rw c.position.ensures at c.in-Err.ensures.refused)
    c.requires.within known e)
