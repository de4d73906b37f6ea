use Rattle.std.proofs.Common.{◌≡◌, ◌≤◌, length, take}
use Rattle.aegis_base.specs.Chunks.{joined}
use Rattle.aegis_base.specs.declared.error.TheConstants.{MAX_AEAD_BYTES}
use Rattle.aegis_base.proofs.chunks.chunks_len.Given as goal

abbrev pub invariant-loop-chunk : goal.invariant-loop-chunk
invariant-loop-chunk l = record {
  counted : l.length ≡ length (joined (take l.chunk-index l.chunks));
  within : l.length ≤ MAX_AEAD_BYTES;
}
