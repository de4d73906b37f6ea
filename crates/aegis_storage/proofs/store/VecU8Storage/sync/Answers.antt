use Rattle.aegis_storage.proofs.Disks.{synced_certain}
use Rattle.aegis_storage.proofs.store.VecU8Storage.sync.Goals as goal

pub returns-clause-synced : goal.returns-clause-synced
returns-clause-synced g c = synced_certain c.args.self.now.items
