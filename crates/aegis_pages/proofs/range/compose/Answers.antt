use Rattle.std.proofs.Common.{◌≡◌, ℕ, ◌+◌, ◌-◌, ◌*◌, ◌<◌, ◌∙◌, IfSome, List, ap, arith, drop, get_or, length, sym, take}
use Rattle.std.proofs.lemmas.List.{length-drop, length-take}
use Rattle.aegis_storage.specs.Disk.{overwritten}
use Rattle.aegis_pages.specs.OpenFile.{IsPage, contents_at}
use Rattle.aegis_pages.specs.Layouts.{sealed_bytes}
use Rattle.aegis_pages.proofs.ComposeFacts.{inner_put, lies_so, live_at}
use Rattle.aegis_pages.proofs.KnownFacts.{known_all, known_map}
use Rattle.aegis_pages.proofs.range.compose.Goals.{then-live-gt0+in_ok-show_page, else-live-gt0}
use Rattle.aegis_pages.proofs.range.compose.Goals as goal

pub returns-clause-composed : goal.returns-clause-composed
returns-clause-composed g c =
    let layout = c.args.layout.now in
    let number = c.args.number in
    let n = c.nonce_bytes-nonce_bytes.result in
    let nonce = c.nonce_bytes-nonce_bytes.ensures.value in
    let p = c.page_bytes-page_bytes.result in
    let value = c.page_bytes-page_bytes.ensures.value in
    let start : c.args.number * c.page_bytes-page_bytes.result ≡ c.args.number * c.args.layout.now.page_bytes = ap (λ (q : ℕ). c.args.number * q) value in
    let live = c.live_bytes-live.result in
    let page = c.if-live-gt0.page in
    let bytes = g.S.Storage.bytes c.args.storage.now in
    let room = c.if-live-gt0.auto.page ∙ c.requires.room in
    let room_at = room ∙ ap (sealed_bytes layout) (sym value) in
    let said = c.live_bytes-live.ensures in
    let facts : IfSome (g.S.Storage.bytes c.args.storage.now) (λ file. (contents : List ℕ) → length contents ≡ c.args.len
    → (c.args.number * c.args.layout.now.page_bytes < c.args.len → IsPage c.args.layout.now (contents_at c.args.changes.now.entries c.args.number) file c.args.number contents)
    → (i : ℕ) → i < c.live_bytes-live.result
    → get_or (take ((c.nonce_bytes-nonce_bytes.result + c.page_bytes-page_bytes.result) - c.nonce_bytes-nonce_bytes.result) (drop c.nonce_bytes-nonce_bytes.result c.if-live-gt0.page)) i 0
    ≡ get_or contents (c.args.number * c.page_bytes-page_bytes.result + i) 0) =
    elim c.if-live-gt0.branch [
      | then-live-gt0+in_ok-show_page w ↦
          known_map bytes _ _ (λ file only contents is opens i low.
          let some = said.live w.if-live-gt0.true in
          let here : c.args.number * c.args.layout.now.page_bytes < c.args.len = omega (arith, some, low, start) in
          live_at layout (contents_at c.args.changes.now.entries c.args.number) number n p contents file page i value nonce room (rw (← w.page-is) at only) (opens here)
          (omega (arith, low, said.within)) (omega (arith, some, low, is))) w.in_ok-show_page.ensures.only
      | else-live-gt0 w ↦ known_all bytes _ (λ file contents is opens i low. absurd (omega (arith, low, w.if-live-gt0.false)))
    ] in
    let size : length (take ((c.nonce_bytes-nonce_bytes.result + c.page_bytes-page_bytes.result) - c.nonce_bytes-nonce_bytes.result) (drop c.nonce_bytes-nonce_bytes.result c.if-live-gt0.page))
    ≡ c.page_bytes-page_bytes.result =
    omega (arith, room_at, nonce, length-take ((n + p) - n) (drop n page), length-drop n page) in
    known_map bytes _ _ (λ file live_contents contents is opens i low.
    let near : i < c.page_bytes-page_bytes.result = omega (arith, low, value) in
    ap (λ (l : List ℕ). get_or l i 0) (inner_put layout n p page c.lay.new.contents nonce room_at (c.lay.auto.contents ∙ size))
    ∙ lies_so contents c.args.part.now _ c.lay.new.contents p live (number * p) c.args.at
    (record {
      long = size;
      live_in = said.within;
      live_contents = live_contents contents is opens;
      rest = λ j past near apart. rw is (said.rest j past near apart);
      laid = c.lay.ensures.laid;
      kept = c.lay.ensures.kept;
      cleared = c.lay.ensures.cleared;
    }) i near
    ∙ ap (λ (k : ℕ). get_or (overwritten contents c.args.at c.args.part.now) k 0) (ap (λ (k : ℕ). k + i) start)) facts
