use Rattle.std.proofs.Common.{◌-◌}
use Rattle.aegis_base.specs.declared.error.TheConstants.{MAX_AEAD_BYTES}
use Rattle.aegis.specs.RecordResults.{start_of}
use Rattle.aegis_files.proofs.Rekeying.{RekeysSome}
use Rattle.aegis_files.proofs.rekey.rekey_under.Given as goal

abbrev pub invariant-records : goal.invariant-records
invariant-records g l = RekeysSome l.opener l.sealer l.fn.from.key.now l.fn.from.prefix.now l.fn.to.key.now l.fn.to.prefix.now l.fn.context
    (g.R.Read.remaining l.fn.input) (g.R.Read.remaining l.input) (g.W.Write.contents l.fn.output) (g.W.Write.contents l.output) l.out.items

abbrev pub decreases-records : goal.decreases-records
decreases-records g l = MAX_AEAD_BYTES - start_of l.opener
