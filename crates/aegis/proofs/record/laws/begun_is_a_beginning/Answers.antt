use Rattle.aegis.proofs.Stepwise.{begun_beginning}
use Rattle.aegis.proofs.record.laws.begun_is_a_beginning.Goals as goal

pub returns : goal.returns
returns c = begun_beginning
