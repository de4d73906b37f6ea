use Rattle.std.proofs.Common.{rules, subst}
use Rattle.aegis_storage.specs.Journal.{IsFramed, entries}
use Rattle.aegis_storage.proofs.Journals.{one_content}
use Rattle.aegis_storage.proofs.journal.journaled_content.Goals as goal

pub returns-then-are_writes-clause-some : goal.returns-then-are_writes-clause-some
returns-then-are_writes-clause-some c =
    let found = c.are_writes.ensures.some (search rules) in
    (found.0, record { within = found.1; framed = subst (λ l. IsFramed c.args.key.now c.args.context.now l c.args.journal.now) found.2 c.in-Some.ensures.some }, found.2)

pub returns-else-are_writes-clause-none : goal.returns-else-are_writes-clause-none
returns-else-are_writes-clause-none c writes is =
    let yes = c.are_writes.ensures.none writes is.within (one_content _ _ _ (entries writes) _ c.in-Some.ensures.some is.framed) in let no = c.if-are_writes.false in absurd (search rules)

pub returns-in_default-clause-none : goal.returns-in_default-clause-none
returns-in_default-clause-none c writes is = c.in_default.ensures.none (entries writes) is.framed
