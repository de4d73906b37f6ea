use Rattle.std.proofs.Common.{length}
use Rattle.aegis.specs.RecordResults.{messages, progress_at}
use Rattle.aegis.proofs.Stepwise.{SoFar}
use Rattle.aegis.proofs.record.open.open_each.Given as goal

abbrev pub invariant-records : goal.invariant-records
invariant-records g l =
    let key = l.cipher.key.now in
    let prefix = l.cipher.prefix.now in
    let context = l.cipher.context.now in
    record { so_far : SoFar key prefix context (progress_at key prefix context l.position) (messages l.found.items) l.rest l.bytes }

abbrev pub decreases-records : goal.decreases-records
decreases-records g l = length l.rest
