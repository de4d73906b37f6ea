use Rattle.std.proofs.Common.{◌≡◌, ◌+◌, ◌-◌, length}
use Rattle.aegis_base.specs.declared.error.TheConstants.{MAX_AEAD_BYTES}
use Rattle.aegis.specs.RecordResults.{start_of}
use Rattle.aegis.specs.declared.record.length.TheConstants.{RECORD_BYTES}
use Rattle.aegis_files.specs.declared.seal.TheConstants.{PIECE_BYTES}
use Rattle.aegis_files.proofs.Sealing.{SealsSome}
use Rattle.aegis_files.proofs.seal.seal_stream.Given as goal

abbrev pub invariant-pieces : goal.invariant-pieces
invariant-pieces g l = record {
  room : length l.buffer.items ≡ RECORD_BYTES + PIECE_BYTES;
  sealed : SealsSome l.sealer l.fn.key l.fn.prefix l.fn.context (g.R.Read.remaining l.fn.input) (g.R.Read.remaining l.input)
      (g.W.Write.contents l.fn.output) (g.W.Write.contents l.output);
}

abbrev pub decreases-pieces : goal.decreases-pieces
decreases-pieces g l = MAX_AEAD_BYTES - start_of l.sealer
