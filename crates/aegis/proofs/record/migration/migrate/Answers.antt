use Rattle.std.proofs.lemmas.Result.{IfOk-weaker}
use Rattle.aegis.proofs.Frames.{refused_by}
use Rattle.aegis.proofs.Migrating.{migrates_to}
use Rattle.aegis.proofs.Sealed.{sealed-is}
use Rattle.aegis.proofs.record.migration.migrate.Goals as goal

pub returns-clause-accepted : goal.returns-clause-accepted
returns-clause-accepted g c v ms are =
    let a = c.args in
    migrates_to a.key.now a.old_prefix.now a.new_prefix.now a.context.now a.bytes.now v ms c.reseal.result are c.reseal.ensures.migrated c.reseal.ensures.refused

pub returns-clause-faults : goal.returns-clause-faults
returns-clause-faults g c e fault =
    refused_by _ (sealed-is _ _ _) c.args.bytes.now c.reseal.result e fault
    (IfOk-weaker c.reseal.result _ _ (λ stream h. (h.0, h.1, h.2)) c.reseal.ensures.migrated) c.reseal.ensures.refused
