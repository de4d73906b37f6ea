use Rattle.std.proofs.Common.{refl}
use Rattle.aegis_aes.specs.declared.round.TheConstants.{SHIFTED, SHIFTED_NEXT, TWO_ROWS_ON}
use Rattle.aegis_aes.proofs.Mixing.{across_place, completed, mixed_byte, mixed_long, moved_by, row_place}
use Rattle.aegis_aes.proofs.round.complete.Goals as goal

pub returns-clause-long : goal.returns-clause-long
returns-clause-long g c =
    mixed_long c.permute-shifted.result c.permute-next.result c.permute-across.result c.times_x.result c.args.keys g.row.N
    c.permute-shifted.ensures.long c.permute-next.ensures.long c.permute-across.ensures.long c.fits-keys.0 c.times_x.ensures

pub returns-clause-each : goal.returns-clause-each
returns-clause-each g c =
    let s = c.args.blocks in
    let n = g.row.N in
    completed s c.args.keys _ n (mixed_byte s c.permute-shifted.result c.permute-next.result c.permute-across.result c.times_x.result c.args.keys n c.requires c.fits-blocks.1
    c.permute-shifted.ensures.long c.permute-next.ensures.long c.permute-across.ensures.long c.fits-keys.0
    (moved_by (row_place 0) SHIFTED s c.repeated.result c.permute-shifted.result n refl c.repeated.ensures.each c.permute-shifted.ensures.each)
    (moved_by (row_place 1) SHIFTED_NEXT s c.repeated-2.result c.permute-next.result n refl c.repeated-2.ensures.each c.permute-next.ensures.each)
    (moved_by across_place TWO_ROWS_ON _ c.repeated-3.result c.permute-across.result n refl c.repeated-3.ensures.each c.permute-across.ensures.each)
    c.times_x.ensures)
