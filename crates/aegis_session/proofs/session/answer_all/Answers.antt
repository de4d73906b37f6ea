-- What was read and written after one more chunk, at the end of the input, and if a read failed.
use Rattle.std.proofs.Common.{◌<◌, true, false, [], append-nil, length, rules, sym}
use Rattle.std.proofs.KnownBytes.{Keeps-refl}
use Rattle.std.proofs.lemmas.Bool.{true≢false}
use Rattle.std.proofs.lemmas.Result.{err_from_is_err_and}
use Rattle.aegis_session.proofs.OutputFacts.{all_beginning}
use Rattle.aegis_session.proofs.Reading.{Reads-begin, Reads-more, Reads-end, Reads-fail, Reads-stop}
use Rattle.aegis_session.proofs.session.answer_all.Goals as goal

pub reads-init : goal.reads-init
reads-init g c = Reads-begin _ _ _ _ c.new-session.ensures.line c.new-session.ensures.saw_error

pub returns-in_err-count-clause-err : goal.returns-in_err-count-clause-err
returns-in_err-count-clause-err g c =
    let p = err_from_is_err_and c.from_residual.result c.from_residual.ensures.1 in
    rw p.1 (Reads-fail _ _ _ _ _ _ _ c.reads.invariant c.in_err-count.ensures.bytes)

pub returns-in_err-end-clause-err : goal.returns-in_err-end-clause-err
returns-in_err-end-clause-err g c =
    let p = err_from_is_err_and c.from_residual-in_err-end.result c.from_residual-in_err-end.ensures.1 in
    let zero = c.if-count-eq0.true in
    let room : 0 < length c.read.new.buf = search rules in
    let none = rw zero at c.in_ok-count.ensures.bytes.0 in
    rw p.1 (Reads-stop _ _ _ _ _ _ true _ _ _ c.reads.invariant none (λ _. c.in_ok-count.ensures.bytes.1 zero room) c.in_err-end.ensures.err)

pub returns-in_err-flush-clause-err : goal.returns-in_err-flush-clause-err
returns-in_err-flush-clause-err g c =
    let p = err_from_is_err_and c.from_residual-in_err-flush.result c.from_residual-in_err-flush.ensures.1 in
    let zero = c.if-count-eq0.true in
    let room : 0 < length c.read.new.buf = search rules in
    let none = rw zero at c.in_ok-count.ensures.bytes.0 in
    let all = all_beginning _ _ _ _ _ _ c.in_ok-end.ensures.ok c.in_err-flush.ensures.bytes in
    rw p.1 (Reads-stop _ _ _ _ _ _ true _ _ _ c.reads.invariant none (λ _. c.in_ok-count.ensures.bytes.1 zero room) all)

pub returns-then-count-eq0-clause-ok : goal.returns-then-count-eq0-clause-ok
returns-then-count-eq0-clause-ok g c =
    let zero = c.if-count-eq0.true in
    let room : 0 < length c.read.new.buf = search rules in
    let none = rw zero at c.in_ok-count.ensures.bytes.0 in
    Reads-end _ _ _ _ _ _ _ _ _ _ c.reads.invariant none (c.in_ok-count.ensures.bytes.1 zero room) c.in_ok-end.ensures.ok c.in_ok-flush.ensures.bytes

pub returns-in_err-take-clause-err : goal.returns-in_err-take-clause-err
returns-in_err-take-clause-err g c =
    let p = err_from_is_err_and c.from_residual-in_err-take.result c.from_residual-in_err-take.ensures.1 in
    rw p.1
    (Reads-stop _ _ _ _ _ _ false _ _ _ c.reads.invariant c.in_ok-count.ensures.bytes.0 (λ ends. absurd (true≢false (sym ends))) (rw append-nil at (c.in_err-take.ensures.err false [])))

pub reads-preserved : goal.reads-preserved
reads-preserved g c = Reads-more _ _ _ _ _ _ _ _ _ _ _ c.reads.invariant c.in_ok-count.ensures.bytes.0 c.in_ok-take.ensures.ok

pub returns-clause-err : goal.returns-clause-err
returns-clause-err g c = Reads-fail _ _ _ _ _ _ _ c.reads.invariant (Keeps-refl _)
