use Rattle.std.proofs.Common.{◌≡◌, ℕ, ◌+◌, ◌-◌, ◌/◌, ◌≤◌, ◌∙◌, Some, ap, arith, length, min}
use Rattle.aegis_pages.specs.OpenFile.{contents_at}
use Rattle.aegis_pages.specs.Layouts.{Layout, inner}
use Rattle.aegis_pages.proofs.ComposeFacts.{slice_inner}
use Rattle.aegis_pages.proofs.KnownFacts.{known_map, known_map2}
use Rattle.aegis_pages.proofs.RangeFacts.{Spans, first_last, keeps_more, keeps_others, rewrites_all, rewrites_more}
use Rattle.aegis_pages.proofs.range.change_range.Goals as goal

spans : (layout : Layout) (len at size first p : ℕ) → 256 ≤ p → first ≡ min at len → p ≡ layout.page_bytes
    → Spans layout.page_bytes len at size (first / p) (((at + size) + (p - 1)) / p)
spans layout len at size first p some is value = record {
  some = omega (arith, some, value);
  first_is = ap (λ (x : ℕ). x / p) is ∙ ap (λ (q : ℕ). min at len / q) value;
  last_is = ap (λ (q : ℕ). ((at + size) + (q - 1)) / q) value;
}

pub returns-clause-written : goal.returns-clause-written
returns-clause-written g c =
    let s = spans c.args.layout.now c.args.len c.args.at (length c.args.part.now) c.min.result c.page_bytes-page_bytes.result c.page_bytes-page_bytes.ensures.size.0 c.min.ensures c.page_bytes-page_bytes.ensures.value in
    let done : c.loop-number.number ≡ ((c.args.at + length c.args.part.now) + (c.page_bytes-page_bytes.result - 1)) / c.page_bytes-page_bytes.result =
    omega (arith, c.loop-number-test.false, c.loop-number.auto.number-end (first_last _ _ _ _ _ _ s)) in
    known_map _ _ _ (λ file r. rewrites_all c.args.layout.now c.args.len c.args.at c.args.part.now _ _ (contents_at c.args.changes.now.entries) (contents_at c.loop-number.changes.entries) file s (rw done at c.loop-number.invariant.keeps) (rw done at r)) c.loop-number.invariant.rewrites

pub returns-clause-others : goal.returns-clause-others
returns-clause-others g c =
    let s = spans c.args.layout.now c.args.len c.args.at (length c.args.part.now) c.min.result c.page_bytes-page_bytes.result c.page_bytes-page_bytes.ensures.size.0 c.min.ensures c.page_bytes-page_bytes.ensures.value in
    keeps_others c.args.layout.now c.args.len c.args.at (length c.args.part.now) _ _ c.loop-number.number (contents_at c.args.changes.now.entries) (contents_at c.loop-number.changes.entries) s
    (c.loop-number.auto.number-end (first_last _ _ _ _ _ _ s)) c.loop-number.invariant.keeps

pub returns-in_err-compose-clause-others : goal.returns-in_err-compose-clause-others
returns-in_err-compose-clause-others g c =
    let s = spans c.args.layout.now c.args.len c.args.at (length c.args.part.now) c.min.result c.page_bytes-page_bytes.result c.page_bytes-page_bytes.ensures.size.0 c.min.ensures c.page_bytes-page_bytes.ensures.value in
    let low = c.loop-number-test.true in
    keeps_others c.args.layout.now c.args.len c.args.at (length c.args.part.now) _ _ c.loop-number.number (contents_at c.args.changes.now.entries) (contents_at c.loop-number.changes.entries) s
    (omega (arith, low)) c.loop-number.invariant.keeps

pub returns-in_default-clause-others : goal.returns-in_default-clause-others
returns-in_default-clause-others g c =
    let s = spans c.args.layout.now c.args.len c.args.at (length c.args.part.now) c.min.result c.page_bytes-page_bytes.result c.page_bytes-page_bytes.ensures.size.0 c.min.ensures c.page_bytes-page_bytes.ensures.value in
    let low = c.loop-number-test.true in
    keeps_others c.args.layout.now c.args.len c.args.at (length c.args.part.now) _ _ (c.loop-number.number + 1) (contents_at c.args.changes.now.entries) (contents_at c.set.new.self.entries) s
    (omega (arith, low)) (keeps_more _ c.loop-number.number (contents_at c.args.changes.now.entries) (contents_at c.loop-number.changes.entries) (contents_at c.set.new.self.entries) c.loop-number.auto.number
    c.loop-number.invariant.keeps c.set.ensures.others)

pub loop-number-preserved : goal.loop-number-preserved
loop-number-preserved g c =
    let layout = c.args.layout.now in
    let page = c.compose.new.page in
    let room = c.compose.auto.page ∙ c.loop-number.invariant.room in
    let inside = slice_inner layout c.nonce_bytes-nonce_bytes.result c.page_bytes-page_bytes.result page c.nonce_bytes-nonce_bytes.ensures.value c.page_bytes-page_bytes.ensures.value (room ∙ c.requires.room) in
    let old = contents_at c.args.changes.now.entries in
    let new = contents_at c.loop-number.changes.entries in
    let next = contents_at c.set.new.self.entries in
    record {
      room = room;
      size = c.set.ensures.size ∙ c.loop-number.invariant.size;
      keeps = keeps_more _ c.loop-number.number old new next c.loop-number.auto.number c.loop-number.invariant.keeps c.set.ensures.others;
      rewrites = known_map2 (g.S.Storage.bytes c.args.storage.now) _ _ _
          (λ file r composed. rewrites_more layout c.args.len c.args.at c.args.part.now _ c.loop-number.number old new next (inner layout page) file c.loop-number.auto.number
          c.loop-number.invariant.keeps (c.in-Ok.ensures.here ∙ ap Some inside) c.set.ensures.others composed r)
          c.loop-number.invariant.rewrites c.in_ok-compose.ensures.composed;
    }
