use Rattle.std.proofs.Common.{◌≡◌, ◌+◌, ◌-◌, ◌++◌, ◌∙◌, [], List, add-one, ap, arith, drop, length, refl, subst, take, ℕ}
use Rattle.aegis_base.specs.Chunks.{texts}
use Rattle.aegis.specs.RecordResults.{Begun, start_of}
use Rattle.aegis.specs.RecordStream.{AreRecords, frames_length, header, records_length, sealed}
use Rattle.aegis.specs.declared.record.version.Version.TheVariants.{Second}
use Rattle.aegis.proofs.Lengths.{length-stream}
use Rattle.aegis.proofs.Sealed.{sealed-is}
use Rattle.aegis.proofs.Stepwise.{under_next, under_stream}
use Rattle.aegis.proofs.Writing.{drop_texts, take_texts, with_the_last, within_at}
use Rattle.aegis.proofs.record.seal.seal_records.Goals as goal

pub records-init : goal.records-init
records-init g c =
    let made = c.in_ok-sealer.ensures.appended ∙ ap (λ (l : List ℕ). l ++ header Second) c.in_ok-stream.ensures.items in
    let four = c.in_ok-sealer.ensures.taken in
    record { sealed = rw made c.in_ok-sealer.ensures.begun; under = rw c.in_ok-sealer.ensures.progress refl; counted = omega arith }

pub seal_next-requires-clause-within : goal.seal_next-requires-clause-within
seal_next-requires-clause-within g c =
    let test = c.records-test.true in
    within_at Second c.args.messages.now c.records.number _ (omega arith) c.requires.within

pub seal_next-requires-clause-fits : goal.seal_next-requires-clause-fits
seal_next-requires-clause-fits g c =
    let test = c.records-test.true in
    let sizes = ap frames_length (drop_texts c.args.messages.now c.records.number (record { ref_ptr = (0, 0); now = [] }) (omega arith)) in
    let counted = c.records.invariant.counted in
    let fits = c.requires.fits in
    omega arith

pub records-preserved : goal.records-preserved
records-preserved g c =
    let a = c.args in
    let k = c.records.number in
    let test = c.records-test.true in
    let sizes = ap frames_length (drop_texts a.messages.now k (record { ref_ptr = (0, 0); now = [] }) (omega arith)) in
    let counted = c.records.invariant.counted in
    let taken_more = c.in_ok-seal_next.ensures.taken in
    record {
      sealed = rw (add-one, take_texts a.messages.now k (record { ref_ptr = (0, 0); now = [] }) (omega arith), c.in_ok-seal_next.ensures.appended)
          (c.in_ok-seal_next.ensures.begun (take k (texts a.messages.now)) c.records.stream.items c.records.invariant.sealed);
      under = rw c.in_ok-seal_next.ensures.progress (under_next _ _ _ _ _ c.records.invariant.under);
      counted = rw add-one (omega arith);
    }

pub seal_last-requires : goal.seal_last-requires
seal_last-requires g c =
    let ms = c.args.messages.now in
    let some = c.requires.some in
    let test = c.records-test.false in
    let end = c.records.auto.number-end in
    let at : c.records.number ≡ length ms - 1 = omega arith in
    let sizes = ap frames_length (drop_texts ms (length ms - 1) (record { ref_ptr = (0, 0); now = [] }) (omega arith)) in
    let counted = subst (λ (k : ℕ). start_of c.records.sealer + frames_length (drop k (texts ms)) ≡ records_length (texts ms)) at c.records.invariant.counted in
    let fits = c.requires.fits in
    record { within = within_at Second ms (length ms - 1) _ (omega arith) c.requires.within; fits = omega arith }

pub returns-clause-sealed : goal.returns-clause-sealed
returns-clause-sealed g c =
    let a = c.args in
    let ms = a.messages.now in
    let some = c.requires.some in
    let test = c.records-test.false in
    let end = c.records.auto.number-end in
    let at : c.records.number ≡ length ms - 1 = omega arith in
    let begun = subst (λ (k : ℕ). Begun c.records.sealer (take k (texts ms)) c.records.stream.items) at c.records.invariant.sealed in
    let is = under_stream _ _ _ _ Second _ _ c.records.invariant.under (c.in_ok-seal_last.ensures.whole (take (length ms - 1) (texts ms)) c.records.stream.items begun) in
    let all = with_the_last ms (length ms - 1) (record { ref_ptr = (0, 0); now = [] }) (omega arith) in
    subst (λ (l : List (List ℕ)). AreRecords Second a.key.now a.prefix.now a.context.now l c.seal_last.new.out.items) all (rw c.in_ok-seal_last.ensures.appended is)

pub returns-clause-length : goal.returns-clause-length
returns-clause-length g c =
    let a = c.args in
    length-stream (sealed a.key.now a.prefix.now a.context.now) (sealed-is a.key.now a.prefix.now a.context.now) Second (texts a.messages.now) c.seal_last.new.out.items
    (returns-clause-sealed g c)
