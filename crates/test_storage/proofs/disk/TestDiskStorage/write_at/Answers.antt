use Rattle.std.proofs.Common.{false, ◌∙◌, ap, arith, inr}
use Rattle.aegis_storage.proofs.Disks.{on_err}
use Rattle.test_storage.proofs.Changes.{left_disk, pushed_bytes, unchanged_disk}
use Rattle.test_storage.proofs.disk.TestDiskStorage.write_at.Goals as goal

pub returns-in_err-begin-clause-spoilt : goal.returns-in_err-begin-clause-spoilt
returns-in_err-begin-clause-spoilt c = on_err c.from_residual.result (unchanged_disk c.args.self.now c.begin.new.self _ c.begin.ensures.synced (ap (λ v. v.items) c.begin.ensures.pending) c.begin.ensures.failed)

pub returns-in_err-write-clause-spoilt : goal.returns-in_err-write-clause-spoilt
returns-in_err-write-clause-spoilt c = on_err c.from_residual-in_err-write.result (unchanged_disk c.args.self.now c.begin.new.self _ c.begin.ensures.synced (ap (λ v. v.items) c.begin.ensures.pending) c.begin.ensures.failed)

pub returns-in_err-push-clause-spoilt : goal.returns-in_err-push-clause-spoilt
returns-in_err-push-clause-spoilt c =
    on_err c.from_residual-in_err-push.result (unchanged_disk c.args.self.now (record { alloc = c.begin.new.self.alloc; synced = c.begin.new.self.synced; pending = c.push.new.self; failed = c.begin.new.self.failed; calls = c.begin.new.self.calls }) _ c.begin.ensures.synced (c.in_err-push.ensures.items ∙ ap (λ v. v.items) c.begin.ensures.pending) c.begin.ensures.failed)

pub returns-in_err-count-clause-spoilt : goal.returns-in_err-count-clause-spoilt
returns-in_err-count-clause-spoilt c =
    on_err c.from_residual-in_err-count.result
    (rw (c.in_ok-write.ensures.place, c.in_ok-write.ensures.bytes)
    at (left_disk c.args.self.now (record { alloc = c.begin.new.self.alloc; synced = c.begin.new.self.synced; pending = c.push.new.self; failed = c.begin.new.self.failed; calls = c.begin.new.self.calls }) _ c.begin.ensures.synced c.in_ok-begin.ensures.first c.begin.ensures.failed (rw c.begin.ensures.pending at c.in_ok-push.ensures.items)))

pub returns-in_err-count-clause-torn : goal.returns-in_err-count-clause-torn
returns-in_err-count-clause-torn c =
    on_err c.from_residual-in_err-count.result (inr (
      c.args.part.now,
      omega arith,
      rw (c.in_ok-write.ensures.place, c.in_ok-write.ensures.bytes) at (pushed_bytes c.args.self.now (record { alloc = c.begin.new.self.alloc; synced = c.begin.new.self.synced; pending = c.push.new.self; failed = c.begin.new.self.failed; calls = c.begin.new.self.calls }) _ c.begin.ensures.synced (rw c.begin.ensures.pending at c.in_ok-push.ensures.items)),
    ))

pub returns-clause-written : goal.returns-clause-written
returns-clause-written c =
    rw (c.in_ok-write.ensures.place, c.in_ok-write.ensures.bytes) at (pushed_bytes c.args.self.now (record { alloc = c.begin.new.self.alloc; synced = c.begin.new.self.synced; pending = c.push.new.self; failed = false; calls = c.begin.new.self.calls }) _ c.begin.ensures.synced (rw c.begin.ensures.pending at c.in_ok-push.ensures.items))
