use Rattle.aegis_storage.proofs.Disks.{on_ok_map}
use Rattle.test_storage.proofs.Changes.{kept, lost_disk, on_err_map, replaced_now}
use Rattle.test_storage.proofs.disk.TestDiskStorage.replace.Goals as goal

pub returns-clause-kept : goal.returns-clause-kept
returns-clause-kept c = kept c.settle.result c.args.self.now c.settle.new.self c.settle.ensures.settled c.settle.ensures.lost

pub returns-clause-certain : goal.returns-clause-certain
returns-clause-certain c = on_ok_map c.settle.result (replaced_now c.args.self.now c.settle.new.self) c.settle.ensures.settled

pub returns-clause-spoilt : goal.returns-clause-spoilt
returns-clause-spoilt c = on_err_map c.settle.result (lost_disk c.args.self.now c.settle.new.self) c.settle.ensures.lost
