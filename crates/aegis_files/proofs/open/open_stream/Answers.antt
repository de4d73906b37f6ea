use Rattle.std.proofs.lemmas.Result.{err_from_is_err_and}
use Rattle.aegis_files.proofs.Files.{ends_file, ends_within, fails_end, fails_unread, fails_within, under}
use Rattle.aegis_files.proofs.open.open_stream.Goals as goal

pub returns-in_err-prefix-clause-refused : goal.returns-in_err-prefix-clause-refused
returns-in_err-prefix-clause-refused g c =
    let p = err_from_is_err_and c.from_residual.result c.from_residual.ensures.1 in
    rw (p.1, p.2) (fails_unread _ _ _ _ _ c.in_err-prefix.ensures.refused)

pub returns-in_err-open_range-clause-refused : goal.returns-in_err-open_range-clause-refused
returns-in_err-open_range-clause-refused g c =
    let p = err_from_is_err_and c.from_residual-in_err-open_range.result c.from_residual-in_err-open_range.ensures.1 in
    rw (p.1, p.2) (under _ c.in_ok-prefix.prefix _ _ c.in_ok-prefix.ensures.read (fails_within _ _ _ _ _ _ _ c.in_ok-prefix.ensures.long c.in_err-open_range.ensures.stopped))

pub returns-clause-opened : goal.returns-clause-opened
returns-clause-opened g c =
    ends_file _ c.in_ok-prefix.prefix _ _ _ _ _ _ _ c.end.result c.in_ok-prefix.ensures.long c.in_ok-prefix.ensures.read c.in_ok-open_range.ensures.opened c.end.ensures.end

pub returns-clause-within : goal.returns-clause-within
returns-clause-within g c =
    ends_within _ c.in_ok-prefix.prefix _ _ _ _ _ _ _ c.end.result c.in_ok-prefix.ensures.long c.in_ok-prefix.ensures.read c.in_ok-open_range.ensures.opened c.end.ensures.end

pub returns-clause-refused : goal.returns-clause-refused
returns-clause-refused g c =
    fails_end _ c.in_ok-prefix.prefix _ _ _ _ _ _ _ c.end.result c.in_ok-prefix.ensures.long c.in_ok-prefix.ensures.read c.in_ok-open_range.ensures.opened c.end.ensures.err
