use Rattle.aegis_storage.proofs.StepLaws.{recovery_recovers}
use Rattle.aegis_storage.proofs.laws.recovery_recovers_at_any_step.Goals as goal

pub returns : goal.returns
returns c = recovery_recovers
