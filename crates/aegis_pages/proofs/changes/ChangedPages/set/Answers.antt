use Rattle.aegis_pages.proofs.ChangedFacts.{other_in}
use Rattle.aegis_pages.proofs.changes.ChangedPages.set.Goals as goal

pub returns-clause-others : goal.returns-clause-others
returns-clause-others g c = rw (← c.self.view_is) (λ k apart. other_in c.self.inside.plaintexts c.insert.new.self c.args.number k apart c.in_ok-insert.ensures.updates.2)
