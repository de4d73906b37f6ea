use Rattle.std.proofs.Common.{◌≡◌, ◌∙◌, ap, sym}
use Rattle.aegis_base.specs.Variant.{Variant}
use Rattle.aegis_storage.specs.Disk.{after_writes, writes_of}
use Rattle.aegis_pages.specs.Commits.{journal_key, RecoversUnder}
use Rattle.aegis_pages.specs.OpenFile.{HasContents, IsCommitted}
use Rattle.aegis_pages.proofs.RecoveryFacts.{Commits, commit_has, commit_recovers, commit_sealed_at, committed_recovers}
use Rattle.aegis_pages.proofs.pages.Pages.commit.Goals as goal

pub returns-then-self-clause-crash : goal.returns-then-self-clause-crash
unfolding RecoversUnder
returns-then-self-clause-crash g c = rw (← c.self.view_is) (λ before now has contents. committed_recovers c.self.inside.layout c.self.inside.counter _ _ before now has)

pub returns-in_err-counter-clause-crash : goal.returns-in_err-counter-clause-crash
unfolding RecoversUnder
returns-in_err-counter-clause-crash g c = rw (← c.self.view_is) (λ before now has contents. committed_recovers c.self.inside.layout c.self.inside.counter _ _ before now has)

pub returns-in_err-header_block-clause-crash : goal.returns-in_err-header_block-clause-crash
unfolding RecoversUnder
returns-in_err-header_block-clause-crash g c = rw (← c.self.view_is) (λ before now has contents. committed_recovers c.self.inside.layout c.self.inside.counter _ _ before now has)

pub returns-in_default-clause-crash : goal.returns-in_default-clause-crash
unfolding RecoversUnder
returns-in_default-clause-crash g c = rw (← c.self.view_is) (λ before now has contents. committed_recovers c.self.inside.layout c.self.inside.counter _ _ before now has)

pub returns-in_err-writes-clause-crash : goal.returns-in_err-writes-clause-crash
unfolding RecoversUnder
returns-in_err-writes-clause-crash g c = rw (← c.self.view_is) (λ before now has contents. committed_recovers c.self.inside.layout c.self.inside.counter _ _ before now has)

pub returns-in-Err-clause-crash : goal.returns-in-Err-clause-crash
unfolding RecoversUnder
returns-in-Err-clause-crash g c = rw (← c.self.view_is) (λ before now has contents. committed_recovers c.self.inside.layout c.self.inside.counter _ _ before now has)

pub returns-in-Ok-committed-clause-committed : goal.returns-in-Ok-committed-clause-committed
unfolding HasContents
returns-in-Ok-committed-clause-committed g c =
    let inside = c.self.inside in
    let commits : Commits c.self.inside.layout c.self.inside.len c.in_ok-counter.counter c.self.inside.changes.entries (writes_of c.deref.result.now) =
    rw c.deref.ensures.value c.in_ok-writes.ensures.sealed in
    rw (← c.self.view_is) (λ contents has.
    commit_has inside.layout inside.counter inside.stored inside.len c.in_ok-counter.counter inside.changes.entries c.clear.new.self.entries inside.is_broken (writes_of c.deref.result.now) contents _ _
    commits c.clear.ensures.none c.in-Ok-committed.ensures.written has)

pub returns-in-Ok-committed-clause-crash : goal.returns-in-Ok-committed-clause-crash
unfolding HasContents IsCommitted RecoversUnder
returns-in-Ok-committed-clause-crash g c =
    let inside = c.self.inside in
    let commits : Commits c.self.inside.layout c.self.inside.len c.in_ok-counter.counter c.self.inside.changes.entries (writes_of c.deref.result.now) =
    rw c.deref.ensures.value c.in_ok-writes.ensures.sealed in
    let key : c.journal_key-key.result ≡ journal_key c.self.inside.layout.variant c.self.inside.layout.key =
    c.journal_key-key.ensures ∙ ap (journal_key g.L.LaneState.VARIANT) c.key.ensures.key ∙ ap (λ (v : Variant). journal_key v c.self.inside.layout.key) (sym c.key.ensures.variant) in
    rw (← c.self.view_is) (λ before now has contents.
    commit_recovers inside.layout inside.counter inside.stored inside.len c.in_ok-counter.counter inside.changes.entries inside.is_broken (writes_of c.deref.result.now) c.journal_key-key.result c.journal_beginning.result before now
    has.bytes c.in-Some.header_block _ _ _ _ _ key c.journal_beginning.ensures (g.met.S.Storage.possible inside.storage) commits (rw c.in-Some.is at c.in_ok-header_block.ensures.read)
    (rw c.deref.ensures.value c.in_ok-writes.ensures.old_head) (rw c.deref.ensures.value c.in_ok-writes.ensures.new_head) has.rests has.is contents (c.commit-committed.ensures.recovers has.bytes has.rests)
    (c.commit-committed.ensures.beginning has.rests.journal_is))

pub returns-clause-crash : goal.returns-clause-crash
unfolding HasContents IsCommitted RecoversUnder
returns-clause-crash g c =
    let inside = c.self.inside in
    let commits : Commits c.self.inside.layout c.self.inside.len c.in_ok-counter.counter c.self.inside.changes.entries (writes_of c.deref.result.now) =
    rw c.deref.ensures.value c.in_ok-writes.ensures.sealed in
    let key : c.journal_key-key.result ≡ journal_key c.self.inside.layout.variant c.self.inside.layout.key =
    c.journal_key-key.ensures ∙ ap (journal_key g.L.LaneState.VARIANT) c.key.ensures.key ∙ ap (λ (v : Variant). journal_key v c.self.inside.layout.key) (sym c.key.ensures.variant) in
    rw (← c.self.view_is) (λ before now has contents.
    commit_recovers inside.layout inside.counter inside.stored inside.len c.in_ok-counter.counter inside.changes.entries inside.is_broken (writes_of c.deref.result.now) c.journal_key-key.result c.journal_beginning.result before now
    has.bytes c.in-Some.header_block _ _ _ _ _ key c.journal_beginning.ensures (g.met.S.Storage.possible inside.storage) commits (rw c.in-Some.is at c.in_ok-header_block.ensures.read)
    (rw c.deref.ensures.value c.in_ok-writes.ensures.old_head) (rw c.deref.ensures.value c.in_ok-writes.ensures.new_head) has.rests has.is contents (c.commit-committed.ensures.recovers has.bytes has.rests)
    (c.commit-committed.ensures.beginning has.rests.journal_is))

pub returns-in-Ok-committed-clause-certain : goal.returns-in-Ok-committed-clause-certain
unfolding HasContents IsCommitted
returns-in-Ok-committed-clause-certain g c =
    let inside = c.self.inside in
    let commits : Commits c.self.inside.layout c.self.inside.len c.in_ok-counter.counter c.self.inside.changes.entries (writes_of c.deref.result.now) =
    rw c.deref.ensures.value c.in_ok-writes.ensures.sealed in
    rw (← c.self.view_is) (λ before now has contents. record {
      bytes = after_writes (writes_of c.deref.result.now) has.bytes;
      rests = c.in-Ok-committed.ensures.at_rest has.bytes has.rests;
      is = commit_sealed_at inside.layout inside.counter inside.stored inside.len c.in_ok-counter.counter inside.changes.entries inside.is_broken (writes_of c.deref.result.now) now has.bytes _ _ _
          (g.met.S.Storage.possible inside.storage) commits has.rests contents;
    })
