use Rattle.aegis_pages.proofs.CommitFacts.{begins_first, begins_none, false_is_not}
use Rattle.aegis_pages.proofs.opening.is_begun_by.Goals as goal

pub returns-in-Some : goal.returns-in-Some
returns-in-Some c writes within same = begins_first _ c.in-Some.place c.in-Some.bytes.now _ _ writes _ c.begins_with.ensures c.in-Some.ensures.within c.in-Some.ensures.some within same

pub returns-in-None : goal.returns-in-None
returns-in-None c writes within same = (λ no. absurd (false_is_not no), λ begins. absurd (begins_none _ _ writes c.in-None.ensures.none within same begins))
