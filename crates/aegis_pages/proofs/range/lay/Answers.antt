use Rattle.std.proofs.Common.{◌+◌, ◌-◌, ◌∙◌, ap, arith, drop, length, min, refl, take}
use Rattle.aegis_pages.proofs.ComposeFacts.{Lays, cleared_byte, kept_byte, laid_byte}
use Rattle.aegis_pages.proofs.range.lay.Goals as goal

lays : (c : goal.After-slice_known-then-from-to-1) → Lays c.args.contents.now c.clear_from.new.bytes c.args.part.now
    (take ((c.min-to.result - c.args.at) - (c.max-from.result - c.args.at)) (drop (c.max-from.result - c.args.at) c.args.part.now))
    c.put.new.bytes c.args.live c.args.start c.args.at c.max-from.result c.min-to.result
lays c =
    let f = c.max-from.ensures in
    let t = c.min-to.ensures in
    let same = c.clear_from.auto.bytes in
    record {
      live_in = c.requires.live;
      cleared_is = c.clear_from.ensures;
      piece_is = refl;
      put = c.put.ensures;
      from_at = omega (arith, f);
      from_start = omega (arith, f);
      from_is = f;
      to_end = omega (arith, t, same);
      to_stop = omega (arith, t, same);
      to_is = t ∙ ap (λ n. min (c.args.at + length c.args.part.now) (c.args.start + n)) same;
      some = c.if-from-to.true;
    }

pub returns-then-from-to-clause-laid : goal.returns-then-from-to-clause-laid
returns-then-from-to-clause-laid c = laid_byte _ _ _ _ _ _ _ _ _ _ (lays c)

pub returns-then-from-to-clause-kept : goal.returns-then-from-to-clause-kept
returns-then-from-to-clause-kept c = kept_byte _ _ _ _ _ _ _ _ _ _ (lays c)

pub returns-then-from-to-clause-cleared : goal.returns-then-from-to-clause-cleared
returns-then-from-to-clause-cleared c = cleared_byte _ _ _ _ _ _ _ _ _ _ (lays c)
