use Rattle.std.proofs.Common.{◌≡◌, ◌+◌, ◌<◌, ◌≤◌, ◌∙◌, ℕ, List, ◌++◌, ap, arith, drop, false, length, refl, subst, sym, take}
use Rattle.std.proofs.lemmas.List.{get_or_append_left, length-append, length-drop, length-take, take_all, take_at}
use Rattle.aegis_storage.specs.Disk.{overwritten, part_at}
use Rattle.aegis_pages.specs.OpenFile.{Has, HasContents, IsByte, IsKnown, contents_at}
use Rattle.aegis_pages.proofs.KnownFacts.{known_all, known_map, read_within}
use Rattle.aegis_pages.proofs.OpenFileFacts.{has_len, has_use, put_back, read_so, written_none, written_read}
use Rattle.aegis_pages.proofs.pages.Pages.read_at.Given.{Over}
use Rattle.aegis_pages.proofs.pages.Pages.read_at.Goals as goal

pub returns-then-at-self-clause-written : goal.returns-then-at-self-clause-written
unfolding HasContents
returns-then-at-self-clause-written g c = rw (← c.self.view_is) (λ contents part same stands.
    written_none contents part c.args.out.now c.args.at c.self.inside.len (has_len _ _ _ _ _ _ _ _ stands) same c.if-at-self.true)

pub invariant_of-self : goal.invariant_of-self
invariant_of-self g c =
    let long = put_back c.read_range-read.new.page c.self.inside.page.bytes.items c.self.inside.page.bytes.len (c.read_range-read.auto.page ∙ ap length c.deref_mut.ensures.value) c.self.inside.page.bytes.ok.0 in
    (long ∙ c.self.invariant.0, c.self.invariant.1, c.self.invariant.2, c.self.invariant.3, c.self.invariant.4)

pub returns-in-Err-clause-unchanged : goal.returns-in-Err-clause-unchanged
returns-in-Err-clause-unchanged g c = rw (← c.self.view_is)
    (record { is = refl })

pub returns-in-Err-clause-refused : goal.returns-in-Err-clause-refused
returns-in-Err-clause-refused g c =
    let count = c.min-count.ensures in
    let low = c.if-at-self.false in
    let within : c.args.at + length (take c.min-count.result c.args.out.now) ≤ c.self.inside.len = omega (arith, count, low, length-take c.min-count.result c.args.out.now) in
    rw (← c.self.view_is)
    (rw c.if-self.false (read_within c.self.inside.layout (contents_at c.self.inside.changes.entries) (c.args.at + length (take c.min-count.result c.args.out.now)) c.self.inside.len _ within false c.in-Err.error c.in-Err.ensures.refused))

pub invariant_of-self-2 : goal.invariant_of-self-2
invariant_of-self-2 g c =
    let long = put_back c.read_range-read.new.page c.self.inside.page.bytes.items c.self.inside.page.bytes.len (c.read_range-read.auto.page ∙ ap length c.deref_mut.ensures.value) c.self.inside.page.bytes.ok.0 in
    (long ∙ c.self.invariant.0, c.self.invariant.1, c.self.invariant.2, c.self.invariant.3, c.self.invariant.4)

reads : (g : Over) (c : goal.In_default g) (contents : List ℕ) → IsKnown (Has c.self.inside.layout c.self.inside.counter c.self.inside.stored c.self.inside.len c.self.inside.changes.entries c.self.inside.is_broken contents) (g.S.Storage.bytes c.self.inside.storage)
    → take c.min-count.result (c.read_range-read.new.out ++ drop c.min-count.result c.args.out.now) ≡ part_at contents c.args.at c.min-count.result
reads g c contents stands =
    let count = c.min-count.result in
    let out = c.read_range-read.new.out in
    let at = c.args.at in
    let low = c.if-at-self.false in
    let size : length c.read_range-read.new.out ≡ c.min-count.result = omega (arith, c.read_range-read.auto.out, c.min-count.ensures, length-take count c.args.out.now) in
    let s = has_use _ _ _ _ _ _ contents _ _ c.in_default.ensures.read stands in
    let within : c.args.at + length c.read_range-read.new.out ≤ length contents = omega (arith, s.2.size, size, low, c.min-count.ensures) in
    take_at out (drop count c.args.out.now) count size
    ∙ read_so contents out at within (s.1 contents s.2.pages within)
    ∙ ap (part_at contents at) size

all_long : (g : Over) (c : goal.In_default g) → length (c.read_range-read.new.out ++ drop c.min-count.result c.args.out.now) ≡ length c.args.out.now
all_long g c = omega (
  arith,
  c.read_range-read.auto.out,
  c.min-count.ensures,
  length-take c.min-count.result c.args.out.now,
  length-drop c.min-count.result c.args.out.now,
  length-append c.read_range-read.new.out (drop c.min-count.result c.args.out.now),
)

pub returns-clause-read : goal.returns-clause-read
unfolding HasContents
returns-clause-read g c =
    let count = c.min-count.ensures in
    let out = c.read_range-read.new.out in
    let rest = drop c.min-count.result c.args.out.now in
    let size : length c.read_range-read.new.out ≡ c.min-count.result = omega (arith, c.read_range-read.auto.out, count, length-take c.min-count.result c.args.out.now) in
    rw (← c.self.view_is) (record {
      count = omega (arith, count);
      opened = known_map (g.S.Storage.bytes c.self.inside.storage) _ _ (λ bytes opened i low.
          let near : i < length c.read_range-read.new.out = omega (arith, low, size) in
          subst (IsByte c.self.inside.layout (contents_at c.self.inside.changes.entries) bytes (c.args.at + i)) (sym (get_or_append_left out rest 0 i near)) (opened i near)) c.in_default.ensures.opened;
      contents = λ contents stands. reads g c contents stands;
    })

pub returns-clause-whole : goal.returns-clause-whole
unfolding HasContents
returns-clause-whole g c = rw (← c.self.view_is) (λ contents stands within.
    let low = c.if-at-self.false in
    let count : c.min-count.result ≡ length c.args.out.now = omega (arith, c.min-count.ensures, low, within) in
    sym (take_all c.min-count.result (c.read_range-read.new.out ++ drop c.min-count.result c.args.out.now) (omega (arith, all_long g c, count)))
    ∙ reads g c contents stands ∙ ap (part_at contents c.args.at) count)

pub returns-clause-written : goal.returns-clause-written
unfolding HasContents
returns-clause-written g c = rw (← c.self.view_is) (λ contents part same stands.
    let low = c.if-at-self.false in
    let count = c.min-count.ensures in
    let size = all_long g c in
    written_read contents part (c.read_range-read.new.out ++ drop c.min-count.result c.args.out.now) c.args.at c.self.inside.len c.min-count.result
    (has_len _ _ _ _ _ _ _ _ stands) (same ∙ sym size) (omega (arith, count, size)) (reads g c (overwritten contents c.args.at part) stands))

pub returns-clause-unchanged : goal.returns-clause-unchanged
returns-clause-unchanged g c = rw (← c.self.view_is)
    (record { is = refl })

pub returns-then-at-self-clause-read : goal.returns-then-at-self-clause-read
returns-then-at-self-clause-read g c = rw (← c.self.view_is) (record {
  count = let past = c.if-at-self.true in omega (arith, past);
  opened = known_all (g.S.Storage.bytes c.self.inside.storage) _ (λ bytes i low. absurd (omega (arith, low)));
  contents = λ contents stands. refl;
})
