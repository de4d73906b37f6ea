use Rattle.aegis.proofs.Stepwise.{after_a_stream}
use Rattle.aegis.proofs.record.laws.bytes_after_a_stream.Goals as goal

pub returns : goal.returns
returns c = after_a_stream
