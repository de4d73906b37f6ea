use Rattle.std.proofs.Common.{◌≡◌, ◌++◌, arith}
use Rattle.std.proofs.lemmas.Grind.{common_steps}
use Rattle.aegis_storage.proofs.Journals.{framed_parts}
use Rattle.aegis_storage.proofs.journal.writes_part.Goals as goal

pub returns : goal.returns
returns c key context content is =
    let are : c.args.journal.now ≡ c.split_at.result.0.now ++ (c.split_at-2.result.0.now ++ (c.split_at-3.result.0.now ++ c.split_at-3.result.1.now)) = grind (arith, common_steps) in
    (framed_parts key context content c.args.journal.now is c.split_at.result.0.now c.split_at-2.result.0.now c.split_at-3.result.0.now c.split_at-3.result.1.now (omega arith) (omega arith) (omega arith) are).0
