use Rattle.aegis_storage.proofs.StepLaws.{commit_begins}
use Rattle.aegis_storage.proofs.laws.commit_keeps_the_beginning.Goals as goal

pub returns : goal.returns
returns c = commit_begins
