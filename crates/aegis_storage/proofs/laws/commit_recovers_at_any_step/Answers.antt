use Rattle.aegis_storage.proofs.StepLaws.{commit_recovers}
use Rattle.aegis_storage.proofs.laws.commit_recovers_at_any_step.Goals as goal

pub returns : goal.returns
returns c = commit_recovers
