use Rattle.std.proofs.Common.{◌∙◌}
use Rattle.aegis_storage.proofs.Stepping.{drop_min, take_min}
use Rattle.aegis_storage.proofs.Driving.{on_ok_both}
use Rattle.aegis_storage.proofs.driver.journal_step.Goals as goal

pub returns-in-WriteBeginning-clause-failed : goal.returns-in-WriteBeginning-clause-failed
returns-in-WriteBeginning-clause-failed g c =
    let front = c.split_at.ensures.front ∙ take_min c.args.whole.now _ c.min.ensures in rw c.in-WriteBeginning.is (rw front at c.write_at.ensures.spoilt)

pub returns-in-WriteBeginning-clause-taken : goal.returns-in-WriteBeginning-clause-taken
returns-in-WriteBeginning-clause-taken g c =
    let front = c.split_at.ensures.front ∙ take_min c.args.whole.now _ c.min.ensures in
    rw c.in-WriteBeginning.is (on_ok_both c.write_at.result (λ written pending. (written, pending)) (rw front at c.write_at.ensures.written) (rw front at c.write_at.ensures.pending))

pub returns-in-WriteRest-clause-failed : goal.returns-in-WriteRest-clause-failed
returns-in-WriteRest-clause-failed g c =
    let back = c.split_at.ensures.back ∙ drop_min c.args.whole.now _ c.min.ensures in rw c.in-WriteRest.is (rw back at c.write_at-in-WriteRest.ensures.spoilt)

pub returns-in-WriteRest-clause-taken : goal.returns-in-WriteRest-clause-taken
returns-in-WriteRest-clause-taken g c =
    let back = c.split_at.ensures.back ∙ drop_min c.args.whole.now _ c.min.ensures in
    rw c.in-WriteRest.is
    (on_ok_both c.write_at-in-WriteRest.result (λ written pending. (written, pending)) (rw back at c.write_at-in-WriteRest.ensures.written) (rw back at c.write_at-in-WriteRest.ensures.pending))
