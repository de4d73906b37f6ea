use Rattle.std.proofs.Common.{ap, refl, ◌∙◌}
use Rattle.test_storage.proofs.Changes.{same_bytes}
use Rattle.test_storage.proofs.disk.TestDisk.settle.Goals as goal

pub returns-clause-settled : goal.returns-clause-settled
returns-clause-settled c = (
  c.in_ok-begin.ensures.first,
  c.in_ok-synced.ensures ∙ same_bytes c.args.self.now c.begin.new.self c.begin.ensures.synced (ap (λ v. v.items) c.begin.ensures.pending),
  c.clear.ensures.items,
  refl,
)
