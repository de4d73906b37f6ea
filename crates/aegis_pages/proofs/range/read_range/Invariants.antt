use Rattle.std.proofs.Common.{◌≡◌, ℕ, ◌+◌, ◌-◌, ◌<◌, ◌≤◌, IfSome, List, get_or, length}
use Rattle.aegis_pages.specs.OpenFile.{ArePages, IsByte, contents_at}
use Rattle.aegis_pages.proofs.range.read_range.Given as goal

abbrev pub invariant-loop-done : goal.invariant-loop-done
invariant-loop-done g l = record {
  within : l.done ≤ length l.out;
  room : length l.page ≡ length l.fn.page;
  opened : IfSome (g.S.Storage.bytes l.fn.storage)
      (λ file. (i : ℕ) → i < l.done → IsByte l.fn.layout (contents_at l.fn.changes.entries) file (l.at + i) (get_or l.out i 0));
  read : IfSome (g.S.Storage.bytes l.fn.storage)
      (λ file. (contents : List ℕ) → ArePages l.fn.layout (contents_at l.fn.changes.entries) contents file → l.at + length l.out ≤ length contents
      → (i : ℕ) → i < l.done → get_or l.out i 0 ≡ get_or contents (l.at + i) 0);
}

abbrev pub decreases-loop-done : goal.decreases-loop-done
decreases-loop-done g l = length l.initial.out - l.done
