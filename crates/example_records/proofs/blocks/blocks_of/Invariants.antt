use Rattle.std.proofs.Common.{length}
use Rattle.aegis_base.specs.Chunks.{texts}
use Rattle.aegis.specs.RecordStream.{AreWithin}
use Rattle.aegis.specs.declared.record.version.Version.TheVariants.{Second}
use Rattle.example_records.proofs.blocks.blocks_of.Given as goal

abbrev pub invariant-cuts : goal.invariant-cuts
invariant-cuts g l = AreWithin Second (texts l.blocks.items)

abbrev pub decreases-cuts : goal.decreases-cuts
decreases-cuts g l = length l.rest
