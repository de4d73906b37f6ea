use Rattle.std.proofs.KnownBytes.{Appends-nil}
use Rattle.std.proofs.lemmas.Result.{err_from_is_err_and}
use Rattle.aegis_session.proofs.Reading.{next_byte}
use Rattle.aegis_session.proofs.OutputFacts.{more_answers, more_beginning, no_answers}
use Rattle.aegis_session.proofs.session.Session.take.Goals as goal

pub loop-byte-init : goal.loop-byte-init
loop-byte-init g c = λ ends more. no_answers _ _ _ _ (Appends-nil _)

pub returns-in_err-take_byte-clause-err : goal.returns-in_err-take_byte-clause-err
returns-in_err-take_byte-clause-err g c =
    let p = err_from_is_err_and c.from_residual.result c.from_residual.ensures.1 in
    rw p.1 (λ ends more.
    more_beginning _ _ _ _ _ _ _ (rw (next_byte ends _ c.args.bytes.now more c.loop-byte.byte-index c.loop-byte-test.true) at (c.loop-byte.invariant ends more)) (c.in_err-take_byte.ensures.err _ _))

pub loop-byte-preserved : goal.loop-byte-preserved
loop-byte-preserved g c ends more =
    more_answers _ _ _ _ _ _ _ _ _ (rw (next_byte ends _ c.args.bytes.now more c.loop-byte.byte-index c.loop-byte-test.true) at (c.loop-byte.invariant ends more)) (c.in_ok-take_byte.ensures.ok _ _)
