use Rattle.std.proofs.Common.{arith}
use Rattle.aegis.specs.RecordResults.{sealing_of}
use Rattle.aegis.proofs.Reading.{parts_cut, record_sound}
use Rattle.aegis.proofs.Sealed.{sealed-is}
use Rattle.aegis.proofs.record.open.open_record.Goals as goal

pub open-requires : goal.open-requires
open-requires g c =
    let cut = parts_cut _ _ _ c.in_ok-frame.ensures in
    let size = cut.size in
    let within = cut.within in
    record { context = c.requires; long = omega arith; within = omega arith }

pub returns-clause-opened : goal.returns-clause-opened
returns-clause-opened g c =
    record_sound (sealing_of c.args.cipher.now) (sealed-is _ _ _) c.args.position _ _ _ _ _ (λ i low. omega (arith, c.type_inv.bytes i)) c.in_ok-frame.ensures c.in_ok-message.ensures.opened
