use Rattle.aegis_storage.proofs.StepLaws.{commit_rests}
use Rattle.aegis_storage.proofs.laws.commit_ends_at_rest.Goals as goal

pub returns : goal.returns
returns c = commit_rests
