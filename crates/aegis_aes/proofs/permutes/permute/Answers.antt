use Rattle.std.proofs.Common.{get_or, ap, refl, ◌∙◌}
use Rattle.aegis_aes.proofs.Nibbles.{moved, places_ok, two_blocks}
use Rattle.aegis_aes.proofs.permutes.permute.Goals.{then-this-eq16, else-this-eq16}
use Rattle.aegis_aes.proofs.permutes.permute.Goals as goal

pub swizzle-moved : goal.swizzle-moved
swizzle-moved g c = places_ok 1 16 g.row.N c.args.at refl c.if-this-eq16.true c.fits-at.0 c.requires.places

pub swizzle-moved-else-this-eq16 : goal.swizzle-moved-else-this-eq16
swizzle-moved-else-this-eq16 g c =
    places_ok 2 32 g.row.N c.args.at refl (two_blocks g.row.N c.requires.width c.if-this-eq16.false) c.fits-at.0 c.requires.places

pub returns-clause-each : goal.returns-clause-each
returns-clause-each g c i lt = elim c.if-this-eq16.branch [
  | then-this-eq16 w ↦
      ap (λ l. get_or l i 0) w.result-is ∙ moved 16 g.row.N c.args.from c.args.at w.if-this-eq16.true c.fits-from.0 c.fits-at.0 i lt
  | else-this-eq16 w ↦
      ap (λ l. get_or l i 0) w.result-is
      ∙ moved 32 g.row.N c.args.from c.args.at (two_blocks g.row.N c.requires.width w.if-this-eq16.false) c.fits-from.0 c.fits-at.0 i lt
]
