use Rattle.aegis_storage.proofs.StepLaws.{recovery_rests}
use Rattle.aegis_storage.proofs.laws.recovery_ends_at_rest.Goals as goal

pub returns : goal.returns
returns c = recovery_rests
