use Rattle.aegis_pages.proofs.RecoveryFacts.{crashed_contents}
use Rattle.aegis_pages.proofs.laws.recovers_after_a_crash.Goals as goal

pub returns : goal.returns
returns c = crashed_contents
