use Rattle.std.proofs.Common.{◌-◌, ◌*◌, ◌/◌, ◌%◌, ◌^◌, bit_or, arith}
use Rattle.std.proofs.lemmas.Simd.{shifts_fit_splat, zip2_of_maps, zip2_splat}
use Rattle.aegis_aes.proofs.lanes.rotated.Goals as goal

pub overflow_shl-result : goal.overflow_shl-result
overflow_shl-result g c = shifts_fit_splat 8 c.args.a g.row.N c.args.places c.requires.1

pub overflow_shr-result : goal.overflow_shr-result
overflow_shr-result g c = shifts_fit_splat 8 c.args.a g.row.N (8 - c.args.places) (omega (arith, c.requires.0))

pub returns : goal.returns
returns g c =
    let a = c.args.a in
    let by = c.args.places in
    zip2_of_maps bit_or (λ x. x * 2 ^ by % 2 ^ 8) (λ x. x / 2 ^ (8 - by)) a
    (zip2_splat (λ x y. x * 2 ^ y % 2 ^ 8) a g.row.N by c.fits-a.0) (zip2_splat (λ x y. x / 2 ^ y) a g.row.N (8 - by) c.fits-a.0)
