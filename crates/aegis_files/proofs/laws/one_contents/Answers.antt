use Rattle.aegis_files.proofs.OneFile.{one_contents, one_end, one_list}
use Rattle.aegis_files.proofs.laws.one_contents.Goals as goal

pub returns-clause-one : goal.returns-clause-one
returns-clause-one c = λ key context file a b x y. one_contents key context file a b x y

pub returns-clause-pieces : goal.returns-clause-pieces
returns-clause-pieces c = λ key context file a b x y. one_list key context file a b x y

pub returns-clause-whole : goal.returns-clause-whole
returns-clause-whole c = λ key context file rest a b x y. one_end key context file rest a b x y
