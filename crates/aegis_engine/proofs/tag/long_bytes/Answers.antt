use Rattle.std.proofs.Common.{◌∙◌, rules, arith}
use Rattle.std.proofs.lemmas.Grind.{common_steps}
use Rattle.aegis_engine.proofs.TagFacts.{halves-joined}
use Rattle.aegis_engine.proofs.tag.long_bytes.Goals as goal

pub returns : goal.returns
returns g c =
    halves-joined 16 _ _ _ _ c.args.low c.args.high (grind (arith, common_steps)) (c.copy_from_slice.ensures.after ∙ c.to_bytes.ensures) (c.copy_from_slice-2.ensures.after ∙ c.to_bytes-2.ensures)
    (search rules) (search rules) (grind (arith, common_steps))
