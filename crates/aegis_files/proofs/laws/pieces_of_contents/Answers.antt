use Rattle.aegis_files.proofs.PieceLaws.{all_full, all_within, count_is, joined_is}
use Rattle.aegis_files.proofs.laws.pieces_of_contents.Goals as goal

pub returns-clause-joined : goal.returns-clause-joined
returns-clause-joined c = joined_is

pub returns-clause-count : goal.returns-clause-count
returns-clause-count c = count_is

pub returns-clause-within : goal.returns-clause-within
returns-clause-within c = all_within

pub returns-clause-full : goal.returns-clause-full
returns-clause-full c = all_full
