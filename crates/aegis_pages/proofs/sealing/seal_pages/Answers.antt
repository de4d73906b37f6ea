use Rattle.std.proofs.Common.{◌≡◌, ◌++◌, ◌∷◌, [], ◌∙◌, ap, append-nil, append_assoc, length, refl, rules, subst, sym}
use Rattle.aegis_storage.specs.Disk.{writes_of, Writes}
use Rattle.aegis_storage.proofs.Journals.{writes_pushed}
use Rattle.aegis_pages.specs.OpenFile.{Plaintexts}
use Rattle.aegis_pages.specs.Private.{plaintexts_in, FitPages, Seals}
use Rattle.aegis_pages.specs.Layouts.{OpensAt}
use Rattle.aegis_pages.proofs.CommitFacts.{seals_more}
use Rattle.aegis_pages.proofs.ChangedFacts.{fit_item, have_one, plaintexts_of}
use Rattle.aegis_pages.proofs.sealing.seal_pages.Goals as goal

pub loop-number-init : goal.loop-number-init
loop-number-init g c = record {
  parts = ([], [], ap plaintexts_of c.into_iter-number-iterator.ensures.into_iter_gives.0, sym (append-nil (writes_of c.args.writes.now.items)), tt);
}

pub sealed_page-requires : goal.sealed_page-requires
sealed_page-requires g c =
    let done : Plaintexts = c.loop-number.invariant.parts.0 in
    let split : c.loop-number.invariant.parts.0 ++ (c.in-Some.number.now, c.in-Some.contents.now.bytes.items) ∷ plaintexts_of c.next.new.self ≡ plaintexts_in c.args.plaintexts.now =
    ap (λ l. c.loop-number.invariant.parts.0 ++ plaintexts_of l) (sym c.in-Some.ensures.steps) ∙ c.loop-number.invariant.parts.2 in
    let fit = fit_item c.args.layout.now.page_bytes c.loop-number.invariant.parts.0 (plaintexts_of c.next.new.self) c.in-Some.number.now c.in-Some.contents.now.bytes.items
    (subst (FitPages c.args.layout.now.page_bytes) (sym split) c.requires) in
    (search rules, (ap length c.deref.ensures.value ∙ fit.0, fit.1))

pub loop-number-preserved : goal.loop-number-preserved
loop-number-preserved g c =
    let split : c.loop-number.invariant.parts.0 ++ (c.in-Some.number.now, c.in-Some.contents.now.bytes.items) ∷ plaintexts_of c.next.new.self ≡ plaintexts_in c.args.plaintexts.now =
    ap (λ l. c.loop-number.invariant.parts.0 ++ plaintexts_of l) (sym c.in-Some.ensures.steps) ∙ c.loop-number.invariant.parts.2 in
    let write = c.in_ok-write.write in
    record {
      parts = (
        c.loop-number.invariant.parts.0 ++ (c.in-Some.number.now, c.in-Some.contents.now.bytes.items) ∷ [],
        c.loop-number.invariant.parts.1 ++ (write.place, write.bytes.items) ∷ [],
        append_assoc c.loop-number.invariant.parts.0 ((c.in-Some.number.now, c.in-Some.contents.now.bytes.items) ∷ []) (plaintexts_of c.next.new.self) ∙ split,
        writes_pushed c.loop-number.writes.items c.push.new.self.items write write.place write.bytes.items c.in-Ok.ensures.items refl refl
            ∙ ap (λ (l : Writes). l ++ (write.place, write.bytes.items) ∷ []) c.loop-number.invariant.parts.3
            ∙ append_assoc (writes_of c.args.writes.now.items) c.loop-number.invariant.parts.1 ((write.place, write.bytes.items) ∷ []),
        seals_more c.args.layout.now c.loop-number.invariant.parts.0 c.loop-number.invariant.parts.1 c.in-Some.number.now c.in-Some.contents.now.bytes.items write.place write.bytes.items
            c.loop-number.invariant.parts.4 (record {
              place_is = c.in_ok-write.ensures.place;
              size = c.in_ok-write.ensures.size;
              opens = subst (OpensAt c.args.layout.now c.in-Some.number.now write.bytes.items) c.deref.ensures.value c.in_ok-write.ensures.opens;
            }),
      );
    }

pub returns-clause-seals : goal.returns-clause-seals
returns-clause-seals g c = (
  c.loop-number.invariant.parts.1,
  c.loop-number.invariant.parts.3,
  subst (λ (d : Plaintexts). Seals c.args.layout.now d c.loop-number.invariant.parts.1)
      (sym (append-nil c.loop-number.invariant.parts.0) ∙ ap (λ l. c.loop-number.invariant.parts.0 ++ plaintexts_of l) (sym c.in-None.ensures.steps.0) ∙ c.loop-number.invariant.parts.2)
      c.loop-number.invariant.parts.4,
)

pub returns-clause-one : goal.returns-clause-one
returns-clause-one g c = have_one c.args.plaintexts.now c.args.plaintexts.now.entries c.into_iter-number-iterator.ensures.into_iter_gives.6
