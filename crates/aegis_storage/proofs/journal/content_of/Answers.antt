use Rattle.std.proofs.Common.{◌≡◌, ◌++◌, arith}
use Rattle.std.proofs.lemmas.Grind.{common_steps}
use Rattle.aegis_storage.proofs.Journals.{framed_parts, length-framed}
use Rattle.aegis_storage.proofs.journal.content_of.Goals as goal

pub returns-then-journal-clause-none : goal.returns-then-journal-clause-none
returns-then-journal-clause-none c content is =
    let long = length-framed c.args.key.now c.args.context.now content c.args.journal.now is in let fits = is.fits in grind (arith, long, fits)

pub returns-in-Err-clause-none : goal.returns-in-Err-clause-none
returns-in-Err-clause-none c content is =
    let are : c.args.journal.now ≡ c.split_at.result.0.now ++ (c.copy_from_slice.new.self ++ (c.split_at-3.result.0.now ++ c.copy_from_slice-2.new.self)) = grind (arith, common_steps) in
    let ok = c.in-Err.ensures.accepted _ _ _ c.mac_of.ensures (framed_parts _ _ content _ is _ c.copy_from_slice.new.self _ _ (omega arith) (omega arith) (omega arith) are).1 in cc
