use Rattle.std.proofs.Common.{◌≡◌, ◌+◌, ◌-◌, ◌%◌, ◌<◌, ◌≤◌, ◌∙◌, ℕ, ap, arith, drop, length, refl, take}
use Rattle.std.proofs.lemmas.Nat.{mod_below}
use Rattle.aegis_storage.specs.Disk.{overwritten}
use Rattle.aegis_pages.specs.OpenFile.{contents_at}
use Rattle.aegis_pages.proofs.KnownFacts.{known_map2}
use Rattle.aegis_pages.proofs.RangeFacts.{Puts, bytes_more, contents_more}
use Rattle.aegis_pages.proofs.range.read_range.Given.{Over}
use Rattle.aegis_pages.proofs.range.read_range.Goals as goal

puts : (g : Over) (c : goal.After-slice_known-in-loop-done-2-1 g) → Puts c.args.layout.now c.show_page.new.page c.loop-done.out
    (take (((c.nonce_bytes-nonce_bytes.result + (c.args.at + c.loop-done.done) % c.args.layout.now.page_bytes) + c.min-count.result)
    - (c.nonce_bytes-nonce_bytes.result + (c.args.at + c.loop-done.done) % c.args.layout.now.page_bytes))
    (drop (c.nonce_bytes-nonce_bytes.result + (c.args.at + c.loop-done.done) % c.args.layout.now.page_bytes) c.show_page.new.page))
    c.put.new.bytes c.args.at c.loop-done.done c.min-count.result
puts g c =
    let value = c.page_bytes-page_bytes.ensures.value in
    let size = c.page_bytes-page_bytes.ensures.size in
    let some : 0 < c.args.layout.now.page_bytes = omega (arith, size, value) in
    let rest : (c.args.at + c.loop-done.done) % c.page_bytes-page_bytes.result ≡ (c.args.at + c.loop-done.done) % c.args.layout.now.page_bytes =
    ap (λ (q : ℕ). (c.args.at + c.loop-done.done) % q) value in
    let low = mod_below (c.args.at + c.loop-done.done) c.args.layout.now.page_bytes some in
    record {
      nonce = c.nonce_bytes-nonce_bytes.result;
      nonce_is = c.nonce_bytes-nonce_bytes.ensures.value;
      room = c.show_page.auto.page ∙ c.loop-done.invariant.room ∙ c.requires.room;
      piece_is = refl;
      put = c.put.ensures
          ∙ ap (λ (r : ℕ). overwritten c.loop-done.out c.loop-done.done
          (take (((c.nonce_bytes-nonce_bytes.result + r) + c.min-count.result) - (c.nonce_bytes-nonce_bytes.result + r)) (drop (c.nonce_bytes-nonce_bytes.result + r) c.show_page.new.page))) rest;
      within = omega (arith, c.min-count.ensures, low, value, rest);
    }

pub loop-done-preserved : goal.loop-done-preserved
loop-done-preserved g c =
    let out = c.loop-done.auto.out in
    let longer = c.put.auto.bytes in
    let count = c.min-count.ensures in
    let within = c.loop-done.invariant.within in
    let value = c.page_bytes-page_bytes.ensures.value in
    record {
      within = omega (arith, out, longer, count, within);
      room = c.show_page.auto.page ∙ c.loop-done.invariant.room;
      opened = known_map2 (g.S.Storage.bytes c.args.storage.now) _ _ _
          (λ file before opens. bytes_more c.args.layout.now (contents_at c.args.changes.now.entries) file c.show_page.new.page c.loop-done.out _ c.put.new.bytes c.args.at c.loop-done.done c.min-count.result (puts g c) before
          (rw value at opens))
          c.loop-done.invariant.opened c.in_ok-show_page.ensures.shown;
      read = known_map2 (g.S.Storage.bytes c.args.storage.now) _ _ _
          (λ file before only contents are fits.
          contents_more c.args.layout.now (contents_at c.args.changes.now.entries) file c.show_page.new.page c.loop-done.out _ c.put.new.bytes contents c.args.at c.loop-done.done c.min-count.result (puts g c) are
          (before contents are (let h : c.args.at + length c.loop-done.out ≤ length contents = omega (arith, longer, fits) in h)) (rw value at only)
          (let h : c.args.at + (c.loop-done.done + c.min-count.result) ≤ length contents = omega (arith, longer, fits, count, within) in h))
          c.loop-done.invariant.read c.in_ok-show_page.ensures.only;
    }
