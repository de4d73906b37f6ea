use Rattle.std.proofs.Common.{◌≡◌, ℕ, ◌+◌, ◌≤◌, List, ◌++◌, length}
use Rattle.std.specs.Slice.Iter.{chunks_rest}
use Rattle.aegis_base.specs.declared.error.TheConstants.{MAX_AEAD_BYTES}
use Rattle.aegis_engine.specs.SavedContexts.{HasChecked}
use Rattle.aegis_engine.proofs.saved.SavedContext.decrypt_check.Given as goal

abbrev pub invariant-loop-piece : goal.invariant-loop-piece
invariant-loop-piece g l =
    let L = g.S.LaneState in
    record {
      can_next : (goal.iterator-loop-piece g).can_next l.piece-iterator;
      is_finite : (goal.iterator-loop-piece g).is_finite l.piece-iterator;
      associated_data_within : l.self.ad_bytes ≤ MAX_AEAD_BYTES;
      message_within : l.self.message_bytes + length (chunks_rest l.piece-iterator) ≤ MAX_AEAD_BYTES;
      checked : (so_far : List ℕ) × (so_far ++ chunks_rest l.piece-iterator ≡ l.c) × HasChecked L.VARIANT l.initial.self l.self so_far;
    }
