use Rattle.std.proofs.Common.{◌∙◌, ap, length, List, subst, sym, ℕ}
use Rattle.aegis_pages.specs.Layouts.{IsHeader, IsHeaderBlock}
use Rattle.aegis_pages.proofs.OpenFileFacts.{begun_certain, begun_known, known_kept}
use Rattle.aegis_pages.proofs.pages.begin_file.Goals as goal

pub returns-in-Ok-sync-clause-known : goal.returns-in-Ok-sync-clause-known
returns-in-Ok-sync-clause-known g c =
    known_kept (IsHeader c.args.layout.now 0 0) (g.S.Storage.bytes c.args.storage.now) _ _
    (begun_known c.args.layout.now c.deref.result.now _ _ _ (ap (λ (l : List ℕ). length l) c.deref.ensures.value ∙ c.in_ok-header.ensures.size)
    (subst (IsHeaderBlock c.args.layout.now 0 0) (sym c.deref.ensures.value) c.in_ok-header.ensures.header) c.in-Ok.ensures.resized c.in-Ok-write_at.ensures.written) c.sync.ensures.kept

pub returns-in-Ok-sync-clause-certain : goal.returns-in-Ok-sync-clause-certain
returns-in-Ok-sync-clause-certain g c disk is =
    begun_certain (IsHeader c.args.layout.now 0 0) _ _ _ _ _ _ _ c.deref.result.now disk (g.met.S.Storage.possible c.args.storage.now)
    (begun_known c.args.layout.now c.deref.result.now _ _ _ (ap (λ (l : List ℕ). length l) c.deref.ensures.value ∙ c.in_ok-header.ensures.size)
    (subst (IsHeaderBlock c.args.layout.now 0 0) (sym c.deref.ensures.value) c.in_ok-header.ensures.header) c.in-Ok.ensures.resized c.in-Ok-write_at.ensures.written)
    c.in-Ok.ensures.resized c.in-Ok-write_at.ensures.written c.in-Ok.ensures.pending c.in-Ok-write_at.ensures.pending c.in-Ok-sync.ensures.synced is
