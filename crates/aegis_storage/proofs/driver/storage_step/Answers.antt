use Rattle.std.proofs.Common.{List, ℕ}
use Rattle.aegis_storage.proofs.Disks.{on_err}
use Rattle.aegis_storage.proofs.Stepping.{made_adds, made_spoils, made_writes, next_found, next_missed}
use Rattle.aegis_storage.proofs.driver.storage_step.Goals as goal

pub returns-in_default-clause-taken : goal.returns-in_default-clause-taken
returns-in_default-clause-taken g c found made within is next =
    let here = rw c.in-MakeWrite.is at next in absurd (next_missed found made c.args.rest.now within is here.1 c.in_default.ensures.none)

pub returns-in_default-clause-left : goal.returns-in_default-clause-left
returns-in_default-clause-left g c found made within is next =
    let here = rw c.in-MakeWrite.is at next in absurd (next_missed found made c.args.rest.now within is here.1 c.in_default.ensures.none)

pub returns-in_err-write_at-in-MakeWrite-clause-failed : goal.returns-in_err-write_at-in-MakeWrite-clause-failed
returns-in_err-write_at-in-MakeWrite-clause-failed g c =
    on_err c.from_residual.result (λ found made within is next.
    let here = rw c.in-MakeWrite.is at next in
    let write : ℕ × List ℕ = (c.in-Some.place, c.in-Some.bytes.now) in
    let one = next_found found made c.args.rest.now write c.in-Some.after.now within is here.1 c.in-Some.ensures.within c.in-Some.ensures.some in
    rw c.in-MakeWrite.is (made_spoils found made c.in-MakeWrite._number c.in-Some.place c.in-Some.bytes.now _ _ here.0 one.0 c.in_err-write_at-in-MakeWrite.ensures.spoilt))

pub returns-in_ok-write_at-in-MakeWrite-clause-taken : goal.returns-in_ok-write_at-in-MakeWrite-clause-taken
returns-in_ok-write_at-in-MakeWrite-clause-taken g c found made within is next =
    let here = rw c.in-MakeWrite.is at next in
    let write : ℕ × List ℕ = (c.in-Some.place, c.in-Some.bytes.now) in
    let one = next_found found made c.args.rest.now write c.in-Some.after.now within is here.1 c.in-Some.ensures.within c.in-Some.ensures.some in
    rw c.in-MakeWrite.is (
      made_writes found made c.in-MakeWrite._number c.in-Some.place c.in-Some.bytes.now _ _ here.0 one.0 c.in_ok-write_at-in-MakeWrite.ensures.written,
      made_adds found made c.in-MakeWrite._number c.in-Some.place c.in-Some.bytes.now _ _ here.0 one.0 c.in_ok-write_at-in-MakeWrite.ensures.pending,
    )

pub returns-in_ok-write_at-in-MakeWrite-clause-left : goal.returns-in_ok-write_at-in-MakeWrite-clause-left
returns-in_ok-write_at-in-MakeWrite-clause-left g c found made within is next =
    let here = rw c.in-MakeWrite.is at next in
    let write : ℕ × List ℕ = (c.in-Some.place, c.in-Some.bytes.now) in
    let one = next_found found made c.args.rest.now write c.in-Some.after.now within is here.1 c.in-Some.ensures.within c.in-Some.ensures.some in rw c.in-MakeWrite.is one.1
