use Rattle.aegis_pages.proofs.OpenFileFacts.{emptied_certain}
use Rattle.aegis_pages.proofs.pages.begin_journal.Goals as goal

pub returns-in-Ok-sync-clause-certain : goal.returns-in-Ok-sync-clause-certain
returns-in-Ok-sync-clause-certain g c disk is = emptied_certain _ _ _ disk c.in-Ok-set_size.ensures.pending c.in-Ok-sync.ensures.synced is
