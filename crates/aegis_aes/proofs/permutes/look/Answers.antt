use Rattle.aegis_aes.proofs.Nibbles.{entries-at, entry_places}
use Rattle.aegis_aes.proofs.permutes.look.Goals as goal

pub returns-clause-entries : goal.returns-clause-entries
returns-clause-entries g c = entries-at c.args.table c.repeated.result c.args.at c.permute.result g.row.N c.repeated.ensures.long c.fits-at.0 c.permute.ensures.long c.repeated.ensures.each c.requires.places c.requires.width c.permute.ensures.each

pub returns-clause-places : goal.returns-clause-places
returns-clause-places g c places = rw (returns-clause-entries g c) (entry_places c.args.table c.args.at places)
