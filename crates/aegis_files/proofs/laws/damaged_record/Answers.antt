use Rattle.aegis_files.proofs.Damaging.{damaged_in_file, damaged_in_range}
use Rattle.aegis_files.proofs.laws.damaged_record.Goals as goal

pub returns-clause-file : goal.returns-clause-file
returns-clause-file c = damaged_in_file

pub returns-clause-range : goal.returns-clause-range
returns-clause-range c = damaged_in_range
