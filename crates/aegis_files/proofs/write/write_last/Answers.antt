use Rattle.std.proofs.lemmas.Result.{IfErr-weaker}
use Rattle.aegis_files.proofs.Pieces.{flushed}
use Rattle.aegis_files.proofs.write.write_last.Goals as goal

pub returns-clause-beginning : goal.returns-clause-beginning
returns-clause-beginning g c =
    IfErr-weaker c.flush.result _ _ (λ _ _. flushed _ _ _ _ c.in_ok-write.ensures.ok c.flush.ensures.kept) c.flush.ensures.err
