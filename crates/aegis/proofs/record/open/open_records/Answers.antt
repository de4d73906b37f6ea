use Rattle.std.proofs.lemmas.Result.{IfOk-weaker}
use Rattle.aegis.specs.RecordResults.{messages}
use Rattle.aegis.proofs.Sealed.{sealed-is}
use Rattle.aegis.proofs.Frames.{opens_to, refused_by}
use Rattle.aegis.proofs.record.open.open_records.Goals as goal

pub returns-clause-accepted : goal.returns-clause-accepted
returns-clause-accepted g c v ms p = opens_to _ (sealed-is _ _ _) v ms c.args.bytes.now c.open_each.result p c.open_each.ensures.opened c.open_each.ensures.refused

pub returns-clause-faults : goal.returns-clause-faults
returns-clause-faults g c e fault =
    refused_by _ (sealed-is _ _ _) c.args.bytes.now c.open_each.result e fault
    (IfOk-weaker c.open_each.result _ _ (λ found h. (h.0, messages found.items, h.1)) c.open_each.ensures.opened) c.open_each.ensures.refused
