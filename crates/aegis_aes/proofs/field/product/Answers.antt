use Rattle.std.proofs.Common.{◌∙◌}
use Rattle.aegis_aes.proofs.Powers.{all_parts, products}
use Rattle.aegis_aes.proofs.field.product.Goals as goal

pub returns : goal.returns
returns g c =
    let a = c.args.a in
    let b = c.args.b in
    all_parts a b
    c.times_x-a1.ensures c.times_x-a2.ensures c.times_x-a3.ensures c.times_x-a4.ensures c.times_x-a5.ensures c.times_x-a6.ensures c.times_x-a7.ensures
    c.selected.ensures c.selected-2.ensures c.selected-3.ensures c.selected-4.ensures
    c.selected-5.ensures c.selected-6.ensures c.selected-7.ensures c.selected-8.ensures
    ∙ products a b c.fits-b.1
