use Rattle.std.proofs.Common.{length}
use Rattle.aegis.proofs.Migrating.{Migrating}
use Rattle.aegis.proofs.record.migration.reseal.Given as goal

abbrev pub invariant-records : goal.invariant-records
invariant-records g l = record {
  so_far : Migrating l.key l.old_prefix l.new_prefix l.context l.bytes l.opener l.sealer l.rest l.stream.items;
}

abbrev pub decreases-records : goal.decreases-records
decreases-records g l = length l.rest
