use Rattle.std.proofs.Common.{sym, ◌∙◌}
use Rattle.aegis_aes.proofs.Powers.{selects}
use Rattle.aegis_aes.proofs.field.selected.Goals as goal

pub returns : goal.returns
returns g c = rw (sym c.fits-b.0) (selects c.args.bit c.args.a c.args.b (c.fits-a.0 ∙ sym c.fits-b.0))
