-- A byte ends the line or is appended to it.
use Rattle.std.proofs.Common.{[]}
use Rattle.std.proofs.KnownBytes.{Appends-nil}
use Rattle.std.proofs.lemmas.Result.{err_from_is_err_and, on_err_weaker}
use Rattle.aegis_session.specs.Private.{lines_after}
use Rattle.aegis_session.proofs.Reading.{lines_after-ended, lines_after-longer}
use Rattle.aegis_session.proofs.OutputFacts.{no_answers, no_beginning, on_ok_both}
use Rattle.aegis_session.proofs.session.Session.take_byte.Goals as goal

pub returns-in_err-push_byte-clause-err : goal.returns-in_err-push_byte-clause-err
returns-in_err-push_byte-clause-err g c =
    let p = err_from_is_err_and c.from_residual.result c.from_residual.ensures.1 in
    rw p.1 (λ ends more. no_beginning _ _ _ (Appends-nil _))

pub returns-then-byte-eq10-clause-ok : goal.returns-then-byte-eq10-clause-ok
returns-then-byte-eq10-clause-ok g c =
    on_ok_both c.answer.result
    (λ line answers ends more. rw (c.if-byte-eq10.true, line, lines_after-ended ends c.args.self.now.line.items more) (answers (lines_after ends [] more)))
    c.answer.ensures.line c.answer.ensures.ok

pub returns-then-byte-eq10-clause-err : goal.returns-then-byte-eq10-clause-err
returns-then-byte-eq10-clause-err g c =
    on_err_weaker c.answer.result (λ some ends more. rw (c.if-byte-eq10.true, lines_after-ended ends c.args.self.now.line.items more) (some (lines_after ends [] more))) c.answer.ensures.err

pub returns-in_ok-push_byte-clause-ok : goal.returns-in_ok-push_byte-clause-ok
returns-in_ok-push_byte-clause-ok g c ends more =
    rw (c.in_ok-push_byte.ensures, lines_after-longer ends c.args.self.now.line.items more c.args.byte c.if-byte-eq10.false) (no_answers _ _ _ _ (Appends-nil _))
