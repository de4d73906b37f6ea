use Rattle.std.proofs.Common.{◌≡◌, ◌++◌, ◌∙◌, ap, arith, inr, length, rules, take, List, ℕ}
use Rattle.std.proofs.lemmas.List.{take_at}
use Rattle.aegis_storage.specs.Disk.{writes_of}
use Rattle.aegis_storage.specs.Journal.{IsJournal, entries}
use Rattle.aegis_storage.proofs.Driving.{commit_ended, commit_stopped, commit_stopped_begins, commit_stops, on_ok_both}
use Rattle.aegis_storage.proofs.Journals.{all_within, length-framed, length-journal}
use Rattle.aegis_storage.proofs.atomic.commit.Goals as goal

begins : (beginning bytes rest : List ℕ) → length beginning ≡ 512 → bytes ≡ beginning ++ rest → take 512 bytes ≡ beginning
begins beginning bytes rest long is = ap (take 512) is ∙ take_at beginning rest 512 long

pub writes_part-content-requires : goal.writes_part-content-requires
writes_part-content-requires g c =
    let whole : IsJournal c.args.key.now c.args.context.now (writes_of c.args.writes.now) c.deref.result.now = rw c.deref.ensures.value c.in_ok-whole.ensures.whole in
    let size = length-framed c.args.key.now c.args.context.now (entries (writes_of c.args.writes.now)) c.deref.result.now whole.framed in omega (arith, size)

pub returns-clause-recovers : goal.returns-clause-recovers
returns-clause-recovers g c xs rest =
    let part : IsJournal c.args.key.now c.args.context.now (writes_of c.args.writes.now) c.deref.result.now = rw c.deref.ensures.value c.in_ok-whole.ensures.whole in
    let whole : IsJournal c.args.key.now c.args.context.now (writes_of c.args.writes.now) c.deref-2.result.now = rw c.deref-2.ensures.value c.in_ok-whole.ensures.whole in
    commit_stopped c.args.key.now c.args.context.now xs c.deref-2.result.now (writes_of c.args.writes.now) _ _ _ _ _ _ (g.met.S.Storage.possible c.args.storage.now) (g.met.J.Storage.possible c.args.journal.now) whole rest
    (c.take_steps.ensures.stopped (writes_of c.args.writes.now) (all_within c.args.writes.now) (c.writes_part-content.ensures _ _ _ part.framed))

pub returns-clause-beginning : goal.returns-clause-beginning
returns-clause-beginning g c empty =
    let part : IsJournal c.args.key.now c.args.context.now (writes_of c.args.writes.now) c.deref.result.now = rw c.deref.ensures.value c.in_ok-whole.ensures.whole in
    let whole : IsJournal c.args.key.now c.args.context.now (writes_of c.args.writes.now) c.deref-2.result.now = rw c.deref-2.ensures.value c.in_ok-whole.ensures.whole in
    let beginning = begins c.args.beginning.now c.deref-2.result.now _ (omega arith) (c.deref-2.ensures.value ∙ c.in_ok-whole.ensures.journal) in
    commit_stopped_begins c.args.key.now c.args.context.now c.deref-2.result.now c.args.beginning.now (writes_of c.args.writes.now) _ _ _ _ _ _ (g.met.J.Storage.possible c.args.journal.now) whole beginning empty
    (c.take_steps.ensures.stopped (writes_of c.args.writes.now) (all_within c.args.writes.now) (c.writes_part-content.ensures _ _ _ part.framed))

pub returns-clause-at_rest : goal.returns-clause-at_rest
returns-clause-at_rest g c =
    let part : IsJournal c.args.key.now c.args.context.now (writes_of c.args.writes.now) c.deref.result.now = rw c.deref.ensures.value c.in_ok-whole.ensures.whole in
    let whole : IsJournal c.args.key.now c.args.context.now (writes_of c.args.writes.now) c.deref-2.result.now = rw c.deref-2.ensures.value c.in_ok-whole.ensures.whole in
    let is : c.writes_part-content.result.now ≡ entries (writes_of c.args.writes.now) = c.writes_part-content.ensures _ _ _ part.framed in
    on_ok_both c.take_steps.result
    (λ storage journal xs rest.
    commit_ended c.args.key.now c.args.context.now xs c.deref-2.result.now (writes_of c.args.writes.now) _ _ _ _ _ _ (g.met.S.Storage.possible c.args.storage.now) (g.met.J.Storage.possible c.args.journal.now) whole
    (storage (writes_of c.args.writes.now) (all_within c.args.writes.now) is) (journal (writes_of c.args.writes.now) (all_within c.args.writes.now) is) rest)
    c.take_steps.ensures.storage c.take_steps.ensures.journal

pub returns-clause-stopped : goal.returns-clause-stopped
returns-clause-stopped g c xs rest =
    let part : IsJournal c.args.key.now c.args.context.now (writes_of c.args.writes.now) c.deref.result.now = rw c.deref.ensures.value c.in_ok-whole.ensures.whole in
    let whole : IsJournal c.args.key.now c.args.context.now (writes_of c.args.writes.now) c.deref-2.result.now = rw c.deref-2.ensures.value c.in_ok-whole.ensures.whole in
    inr
    (commit_stops c.args.key.now c.args.context.now xs _ c.deref-2.result.now (writes_of c.args.writes.now) _ _ _ _ _ _ (g.met.S.Storage.possible c.args.storage.now) (g.met.J.Storage.possible c.args.journal.now) whole
    (c.deref-2.ensures.value ∙ c.in_ok-whole.ensures.journal) rest (c.take_steps.ensures.stopped (writes_of c.args.writes.now) (all_within c.args.writes.now) (c.writes_part-content.ensures _ _ _ part.framed)))

pub returns-clause-checked : goal.returns-clause-checked
returns-clause-checked g c =
    let whole : IsJournal c.args.key.now c.args.context.now (writes_of c.args.writes.now) c.deref-2.result.now = rw c.deref-2.ensures.value c.in_ok-whole.ensures.whole in
    let size = length-journal c.args.key.now c.args.context.now c.args.beginning.now c.args.nonce.now (writes_of c.args.writes.now) c.deref-2.result.now (omega arith) (omega arith) (c.deref-2.ensures.value ∙ c.in_ok-whole.ensures.journal) in
    record { empty = search rules; occupied = search rules; too_long = λ long. absurd (omega (arith, size, whole.framed.fits, long)) }
