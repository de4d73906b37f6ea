use Rattle.aegis_pages.specs.OpenFile.{HasContents}
use Rattle.aegis_pages.proofs.RecoveryFacts.{discarded_since}
use Rattle.aegis_pages.proofs.pages.Pages.discard.Goals as goal

pub returns-clause-contents : goal.returns-clause-contents
unfolding HasContents
returns-clause-contents g c = rw (← c.self.view_is) (λ file before now stored committed has.
    discarded_since file _ _ before now c.self.invariant.4 (g.met.S.Storage.possible c.self.inside.storage) c.clear.ensures.none stored committed has)
