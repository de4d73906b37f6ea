use Rattle.std.proofs.Common.{◌≡◌, ◌+◌, ◌*◌, ℕ, List, [], ◌++◌, IfSome, length, replicate}
use Rattle.std.specs.Int.{to_le_bytes, w64}
use Rattle.aegis_engine.specs.SavedContexts.{IsSaved}
use Rattle.aegis_pages.specs.Commits.{page_tags}
use Rattle.aegis_pages.specs.Layouts.{plaintext_header, nonce_bytes}
use Rattle.aegis_pages.proofs.commitment.file_commitment.Given as goal

abbrev pub invariant-loop-number : goal.invariant-loop-number
invariant-loop-number g l = record {
  saved : (x : List ℕ) × IsSaved g.L.LaneState.VARIANT l.context l.fn.layout.key (replicate (nonce_bytes l.fn.layout) 255) [] x
      × (length x ≡ 49 + 32 * l.number)
      × IfSome (g.S.Storage.bytes l.fn.storage)
      (λ file. x ≡ plaintext_header l.fn.layout ++ (to_le_bytes w64 l.fn.counter ++ (to_le_bytes w64 l.fn.len ++ page_tags l.fn.layout file l.number)));
}
