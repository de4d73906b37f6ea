use Rattle.aegis.proofs.Stepwise.{begun_last}
use Rattle.aegis.proofs.record.record_sealer.RecordSealer.seal_last.Goals as goal

pub returns-clause-whole : goal.returns-clause-whole
returns-clause-whole g c = rw (← c.self.view_is) (begun_last _ c.args.message.now c.requires.within)
