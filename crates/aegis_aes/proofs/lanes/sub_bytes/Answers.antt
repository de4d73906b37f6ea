use Rattle.aegis_aes.proofs.Powers.{affine_of}
use Rattle.aegis_aes.proofs.lanes.sub_bytes.Goals as goal

pub returns : goal.returns
returns g c =
    affine_of c.args.a c.power_254-b.result g.row.N c.fits-a.0 c.fits-a.1 c.power_254-b.ensures
    c.rotated.ensures c.rotated-2.ensures c.rotated-3.ensures c.rotated-4.ensures
