use Rattle.std.proofs.Common.{◌-◌, ◌∙◌, ap, arith, drop, length, sym}
use Rattle.std.proofs.lemmas.List.{length-take}
use Rattle.aegis.specs.RecordResults.{Progress}
use Rattle.aegis.proofs.Stepwise.{begun_more, length-record}
use Rattle.aegis.proofs.record.record_sealer.RecordSealer.seal_next_in_place.Goals as goal

pub returns-clause-written : goal.returns-clause-written
returns-clause-written c =
    rw (← c.self.view_is) (rw (c.position.ensures ∙ ap (λ (p : Progress). p.position) (sym c.self.view_is)) at c.seal_record_in_place.ensures)

pub returns-clause-begun : goal.returns-clause-begun
returns-clause-begun c =
    rw (returns-clause-written c, ← c.self.view_is) (begun_more _ _ _ (omega (arith, length-record))
    (omega (arith, c.requires.within, length-take (length c.args.buffer.now - 37) (drop 5 c.args.buffer.now))))
