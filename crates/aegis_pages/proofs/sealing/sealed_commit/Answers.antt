use Rattle.std.proofs.Common.{◌≡◌, ◌++◌, ◌∷◌, [], ◌∙◌, ap, arith, length, refl}
use Rattle.aegis_storage.specs.Disk.{writes_of}
use Rattle.aegis_storage.proofs.Journals.{writes_pushed}
use Rattle.aegis_pages.specs.Private.{plaintexts_in}
use Rattle.aegis_pages.proofs.CommitFacts.{commit_sealed, ends_commit, starts_commit}
use Rattle.aegis_pages.proofs.sealing.sealed_commit.Goals as goal

pub returns-clause-sealed : goal.returns-clause-sealed
returns-clause-sealed g c = rw (← c.changes.view_is) (λ contents file size are.
    let first = c.in-Ok.first in
    let header = c.in_ok-header.header in
    let header_block : length c.args.header_block.now ≡ 512 = omega arith in
    let seals = c.in_ok-seal_pages.ensures.seals in
    commit_sealed c.args.layout.now c.args.counter c.args.len (plaintexts_in c.changes.inside.plaintexts) (writes_of c.push.new.self.items) seals.0 (writes_of c.seal_pages.new.writes.items)
    (writes_of c.push-2.new.self.items) 0 header.place c.args.header_block.now header.bytes.items contents file seals.2 c.in_ok-seal_pages.ensures.one
    (writes_pushed c.new-writes.result.items c.push.new.self.items first 0 c.args.header_block.now c.in-Ok-push.ensures.items c.in-Ok.ensures.place c.in-Ok.ensures.bytes
    ∙ ap (λ l. writes_of l ++ (0, c.args.header_block.now) ∷ []) c.new-writes.ensures.items) refl header_block seals.1
    (writes_pushed c.seal_pages.new.writes.items c.push-2.new.self.items header header.place header.bytes.items c.in-Ok-push-2.ensures.items refl refl)
    c.in_ok-header.ensures.place c.in_ok-header.ensures.size c.in_ok-header.ensures.header size are)

pub returns-clause-old_head : goal.returns-clause-old_head
returns-clause-old_head g c =
    let first = c.in-Ok.first in
    let header = c.in_ok-header.header in
    let seals = c.in_ok-seal_pages.ensures.seals in
    starts_commit c.args.layout.now.variant (writes_of c.push.new.self.items) seals.0 (writes_of c.seal_pages.new.writes.items) (writes_of c.push-2.new.self.items) c.args.header_block.now header.place header.bytes.items
    (writes_pushed c.new-writes.result.items c.push.new.self.items first 0 c.args.header_block.now c.in-Ok-push.ensures.items c.in-Ok.ensures.place c.in-Ok.ensures.bytes
    ∙ ap (λ l. writes_of l ++ (0, c.args.header_block.now) ∷ []) c.new-writes.ensures.items) seals.1
    (writes_pushed c.seal_pages.new.writes.items c.push-2.new.self.items header header.place header.bytes.items c.in-Ok-push-2.ensures.items refl refl)

pub returns-clause-new_head : goal.returns-clause-new_head
returns-clause-new_head g c file =
    let header = c.in_ok-header.header in
    ends_commit c.args.layout.now.variant (writes_of c.seal_pages.new.writes.items) (writes_of c.push-2.new.self.items) header.place header.bytes.items file
    (writes_pushed c.seal_pages.new.writes.items c.push-2.new.self.items header header.place header.bytes.items c.in-Ok-push-2.ensures.items refl refl)
    c.in_ok-header.ensures.place c.in_ok-header.ensures.size
