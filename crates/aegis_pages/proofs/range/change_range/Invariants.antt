use Rattle.std.proofs.Common.{◌≡◌, IfSome, length}
use Rattle.aegis_pages.specs.OpenFile.{contents_at}
use Rattle.aegis_pages.proofs.RangeFacts.{Keeps, Rewrites}
use Rattle.aegis_pages.proofs.range.change_range.Given as goal

abbrev pub invariant-loop-number : goal.invariant-loop-number
invariant-loop-number g l = record {
  room : length l.page ≡ length l.fn.page;
  size : l.changes.size ≡ l.fn.changes.size;
  keeps : Keeps l.first l.number (contents_at l.fn.changes.entries) (contents_at l.changes.entries);
  rewrites : IfSome (g.S.Storage.bytes l.fn.storage)
      (Rewrites l.fn.layout l.len l.at l.fn.part l.first l.number (contents_at l.fn.changes.entries) (contents_at l.changes.entries));
}
