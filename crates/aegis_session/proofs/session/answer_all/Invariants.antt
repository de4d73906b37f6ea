use Rattle.aegis_session.proofs.Reading.{Reads}
use Rattle.aegis_session.proofs.session.answer_all.Given as goal

abbrev pub invariant-reads : goal.invariant-reads
invariant-reads g l = Reads (g.R.Read.remaining l.fn.input) (g.R.Read.remaining l.input) l.session.line.items l.session.saw_error
    (g.W.Write.contents l.fn.output) (g.W.Write.contents l.output)
