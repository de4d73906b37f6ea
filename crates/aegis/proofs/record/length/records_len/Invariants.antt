use Rattle.std.proofs.Common.{◌≡◌, ◌≤◌, take}
use Rattle.aegis_base.specs.declared.error.TheConstants.{MAX_AEAD_BYTES}
use Rattle.aegis_base.specs.Chunks.{texts}
use Rattle.aegis.specs.RecordStream.{records_length}
use Rattle.aegis.proofs.record.length.records_len.Given as goal

abbrev pub invariant-loop-message : goal.invariant-loop-message
invariant-loop-message l = record {
  counted : l.length ≡ records_length (texts (take l.message-index l.messages));
  within : l.length ≤ MAX_AEAD_BYTES;
}
