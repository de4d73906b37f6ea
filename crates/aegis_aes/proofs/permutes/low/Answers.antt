use Rattle.aegis_aes.proofs.Nibbles.{and_places}
use Rattle.aegis_aes.proofs.permutes.low.Goals as goal

pub returns-clause-places : goal.returns-clause-places
returns-clause-places g c = and_places c.args.xs g.row.N
