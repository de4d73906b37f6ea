use Rattle.std.proofs.Common.{◌≡◌, ℕ, ◌<◌, slice_index}
use Rattle.aegis_engine.proofs.tag.same_bytes.Given as goal

abbrev pub invariant-loop-i : goal.invariant-loop-i
invariant-loop-i l = record {
  none : l.difference ≡ 0 → (k : ℕ) → k < l.i → slice_index l.a k ≡ slice_index l.b k;
  some : ((k : ℕ) → k < l.i → slice_index l.a k ≡ slice_index l.b k) → l.difference ≡ 0;
}
