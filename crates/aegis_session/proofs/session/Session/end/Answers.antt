use Rattle.std.proofs.Common.{◌≡◌, ◌<◌, [], arith, length}
use Rattle.std.proofs.KnownBytes.{Appends-nil}
use Rattle.std.proofs.lemmas.Bool.Decides.{nat_tests}
use Rattle.std.proofs.lemmas.Result.{on_ok_weaker, on_err_weaker}
use Rattle.aegis_session.proofs.Reading.{no_last_line, last_line}
use Rattle.aegis_session.proofs.OutputFacts.{no_answers}
use Rattle.aegis_session.proofs.session.Session.end.Goals as goal

pub returns-then-is_empty-clause-ok : goal.returns-then-is_empty-clause-ok
returns-then-is_empty-clause-ok g c =
    let none : length c.args.self.now.line.items ≡ 0 = grind (arith, nat_tests) in rw (no_last_line c.args.self.now.line.items none) (no_answers _ _ _ _ (Appends-nil _))

pub returns-clause-ok : goal.returns-clause-ok
returns-clause-ok g c =
    let some : 0 < length c.args.self.now.line.items = grind (arith, nat_tests) in
    on_ok_weaker c.answer.result (λ answers. rw (last_line c.args.self.now.line.items some) (answers [])) c.answer.ensures.ok

pub returns-clause-err : goal.returns-clause-err
returns-clause-err g c =
    let some : 0 < length c.args.self.now.line.items = grind (arith, nat_tests) in
    on_err_weaker c.answer.result (λ answers. rw (last_line c.args.self.now.line.items some) (answers [])) c.answer.ensures.err
