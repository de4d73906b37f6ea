use Rattle.std.proofs.Common.{◌≡◌, ◌++◌, ◌∷◌, ◌∙◌, List, [], ap, inr, refl, sym, ℕ}
use Rattle.std.proofs.lemmas.Result.{err_from_is_err_and}
use Rattle.aegis.specs.RecordStream.{header}
use Rattle.aegis.specs.declared.record.version.Version.TheVariants.{Second}
use Rattle.aegis.proofs.Lengths.{length-stream}
use Rattle.aegis.proofs.Migrating.{migrating}
use Rattle.aegis.proofs.Sealed.{sealed-is}
use Rattle.aegis.proofs.Stepwise.{header_now, none_left, so_far_fault, so_far_last, so_far_next, so_far_none, so_far_trailing, some_left, under_next, under_stream}
use Rattle.aegis.proofs.record.migration.reseal.Goals as goal

pub records-init : goal.records-init
records-init g c =
    let a = c.args in
    let made : c.new.new.out.items ≡ header Second = c.in_ok-sealer.ensures.appended ∙ ap (λ (l : List ℕ). l ++ header Second) c.in_ok-stream.ensures.items in
    let opened = so_far_none a.key.now a.old_prefix.now a.context.now c.in-Some.version c.in-Some.rest.now a.bytes.now c.in-Some.ensures.some in
    record {
      so_far = migrating a.key.now a.old_prefix.now a.new_prefix.now a.context.now a.bytes.now _ _ _ _ [] (rw c.begin_at-opener.ensures opened) (rw made c.in_ok-sealer.ensures.begun)
          (rw c.in_ok-sealer.ensures.progress refl);
    }

pub returns-in_default-clause-refused : goal.returns-in_default-clause-refused
returns-in_default-clause-refused g c = inr (header_now _ _ _ c.args.bytes.now c.in_default.ensures.none)

pub returns-in_err-opened-clause-refused : goal.returns-in_err-opened-clause-refused
returns-in_err-opened-clause-refused g c =
    let p = err_from_is_err_and c.from_residual-in_err-opened.result c.from_residual-in_err-opened.ensures.1 in
    rw (p.1, p.2) (so_far_fault _ _ _ _ _ _ _ _ c.records.invariant.so_far.opened c.in_err-opened.ensures.refused.first)

pub returns-then-not-is_empty-clause-refused : goal.returns-then-not-is_empty-clause-refused
returns-then-not-is_empty-clause-refused g c =
    let o = c.in_ok-opened.ensures.opened in
    inr (so_far_trailing _ _ _ _ _ _ _ _ _ c.records.invariant.so_far.opened o.within (rw c.if-opened.true at o.last)
    (some_left c.in_ok-opened.opened.rest.now c.is_empty.result c.is_empty.ensures c.if-not-is_empty.true))

pub returns-then-opened-clause-migrated : goal.returns-then-opened-clause-migrated
returns-then-opened-clause-migrated g c =
    let s = c.records.invariant.so_far in
    let o = c.in_ok-opened.ensures.opened in
    let old_is = so_far_last _ _ _ _ _ _ _ _ _ s.opened o.within (rw c.if-opened.true at o.last) (none_left _ c.is_empty.result c.is_empty.ensures c.if-not-is_empty.false) in
    let new_is = under_stream _ _ _ _ Second _ _ s.under (rw (← c.in_ok-seal_last.ensures.appended, c.deref.ensures.value) at (c.in_ok-seal_last.ensures.whole s.messages c.records.stream.items s.sealed)) in
    (c.records.opener.position.version, s.messages ++ c.in_ok-opened.opened.message.items ∷ [], old_is, new_is)

pub returns-then-opened-clause-length : goal.returns-then-opened-clause-length
returns-then-opened-clause-length g c =
    let both = returns-then-opened-clause-migrated g c in
    length-stream _ (sealed-is _ _ _) Second both.1 _ both.3 ∙ sym (length-stream _ (sealed-is _ _ _) both.0 both.1 _ both.2)

pub records-preserved : goal.records-preserved
records-preserved g c =
    let a = c.args in
    let s = c.records.invariant.so_far in
    let o = c.in_ok-opened.ensures.opened in
    let m : List ℕ = c.in_ok-opened.opened.message.items in
    let value = c.deref-in-records.ensures.value in
    let opened = so_far_next _ _ _ _ _ m _ _ _ s.opened o.within (rw c.if-opened.false at o.next) in
    let sealed = c.in_ok-seal_next.ensures.begun s.messages c.records.stream.items s.sealed in
    record {
      so_far = migrating a.key.now a.old_prefix.now a.new_prefix.now a.context.now a.bytes.now _ _ _ _ (s.messages ++ m ∷ [])
          (rw (o.progress, c.if-opened.false) opened) (rw (← value, c.in_ok-seal_next.ensures.appended) sealed)
          (rw c.in_ok-seal_next.ensures.progress (under_next _ _ _ _ _ s.under));
    }
