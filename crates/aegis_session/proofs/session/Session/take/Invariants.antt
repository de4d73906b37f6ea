use Rattle.std.proofs.Common.{ℕ, Bool, List, ◌++◌, drop}
use Rattle.aegis_session.specs.Private.{lines_after, Answers}
use Rattle.aegis_session.proofs.session.Session.take.Given as goal

-- All lines are answered but those of the bytes after these.
abbrev pub invariant-loop-byte : goal.invariant-loop-byte
invariant-loop-byte g l = (ends : Bool) (more : List ℕ) → Answers
    (lines_after ends l.fn.self.line.items (l.bytes ++ more)) (lines_after ends l.self.line.items (drop l.byte-index l.bytes ++ more))
    l.fn.self.saw_error l.self.saw_error (g.W.Write.contents l.fn.output) (g.W.Write.contents l.output)
