use Rattle.std.proofs.Common.{◌-◌}
use Rattle.aegis_base.specs.declared.error.TheConstants.{MAX_AEAD_BYTES}
use Rattle.aegis.specs.RecordResults.{start_of}
use Rattle.aegis_files.proofs.Ranges.{RangeMore}
use Rattle.aegis_files.proofs.range.open_range.Given as goal

abbrev pub invariant-records : goal.invariant-records
invariant-records g l = RangeMore l.fn.key l.fn.prefix l.fn.context l.fn.range l.opener l.skip l.left
    (g.R.Read.remaining l.fn.input) (g.R.Read.remaining l.input) (g.W.Write.contents l.fn.output) (g.W.Write.contents l.output)

abbrev pub decreases-records : goal.decreases-records
decreases-records g l = MAX_AEAD_BYTES - start_of l.opener
