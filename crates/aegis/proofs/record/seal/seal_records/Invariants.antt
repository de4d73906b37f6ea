use Rattle.std.proofs.Common.{◌≡◌, ◌+◌, drop, take}
use Rattle.aegis_base.specs.Chunks.{texts}
use Rattle.aegis.specs.RecordResults.{Begun, start_of}
use Rattle.aegis.specs.Private.{IsUnder}
use Rattle.aegis.specs.RecordStream.{frames_length, records_length}
use Rattle.aegis.proofs.record.seal.seal_records.Given as goal

abbrev pub invariant-records : goal.invariant-records
invariant-records g l = record {
  sealed : Begun l.sealer (take l.number (texts l.messages)) l.stream.items;
  under : IsUnder l.key l.prefix l.context l.sealer;
  counted : start_of l.sealer + frames_length (drop l.number (texts l.messages)) ≡ records_length (texts l.messages);
}
