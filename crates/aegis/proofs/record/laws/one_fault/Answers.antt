use Rattle.aegis.proofs.Sealed.{sealed-is}
use Rattle.aegis.proofs.Frames.{one_fault}
use Rattle.aegis.specs.RecordStream.{sealed}
use Rattle.aegis.proofs.record.laws.one_fault.Goals as goal

pub returns : goal.returns
returns c key prefix context = one_fault (sealed key prefix context) (sealed-is key prefix context)
