-- What a saved context stands for, when its lanes are read and when they are written.
use Rattle.std.proofs.Common.{◌≡◌, ◌∙◌, ap, ℕ, ◌+◌, ◌/◌, ◌<◌, List, [], ◌++◌, length, append_assoc, refl, sym, arith}
use Rattle.std.proofs.lemmas.List.{append-nil}
use Rattle.aegis_base.specs.Variant.{Variant, rate}
use Rattle.aegis_base.specs.Message.{block_count, ciphertext}
use Rattle.aegis_base.specs.Context.{Stands, held_by}
use Rattle.aegis_base.specs.SavedLanes.{saved_lane}
use Rattle.aegis_base.proofs.HeldFacts.{along-held, held-along}
use Rattle.aegis_engine.specs.SavedContexts.{HasChecked, IsSaved, held_in}
use Rattle.aegis_engine.specs.declared.saved.SavedContext.{SavedContext}
use Rattle.aegis_engine.specs.declared.saved.TheConstants.{BEGUN}

-- a context that stands for something has the mark
pub mark-of : (variant : Variant) (context : SavedContext) (key nonce ad m : List ℕ) → IsSaved variant context key nonce ad m → context.mark ≡ BEGUN
unfolding IsSaved
mark-of variant context key nonce ad m is = is.0

stands-of : (variant : Variant) (context : SavedContext) (key nonce ad m : List ℕ) → IsSaved variant context key nonce ad m
    → Stands variant (held_in variant context) key nonce ad m
unfolding IsSaved
stands-of variant context key nonce ad m is = is.1

-- with equal lanes and as many updates they stand for the same
stands-same : (variant : Variant) (here there : ℕ → List (List ℕ)) (u v : ℕ) (block : List ℕ) (ad_bytes message_bytes : ℕ) (key nonce ad m : List ℕ)
    → ((j : ℕ) → j < variant.lanes → there j ≡ here j)
    → v ≡ block_count variant ad_bytes + message_bytes / rate variant
    → Stands variant (held_by variant here u block ad_bytes message_bytes) key nonce ad m
    → Stands variant (held_by variant there v block ad_bytes message_bytes) key nonce ad m
unfolding Stands
stands-same variant here there u v block ad_bytes message_bytes key nonce ad m same counted is =
    let first : block_count variant ad_bytes ≡ block_count variant (length ad) = ap (block_count variant) is.0 in
    let second : message_bytes / rate variant ≡ length m / rate variant = ap (λ (q : ℕ). q / rate variant) is.1 in
    let on = held-along variant _ here block m _ is.3 in (
      is.0,
      is.1,
      omega arith,
      along-held variant _ there block m _
          (record { whole = λ j inside. same j inside ∙ on.whole j inside; open_block = on.open_block }),
    )

module _ (variant : Variant) (lane : ℕ → List (List ℕ)) (updates : ℕ) (context : SavedContext) (key nonce ad m : List ℕ) where
  -- lanes that are read from a context, with the number of updates that follows from its numbers of bytes
  pub restored : (r : ℕ) → r ≡ rate variant
      → ((j : ℕ) → j < variant.lanes → lane j ≡ saved_lane variant context.rows j)
      → updates ≡ block_count variant context.ad_bytes + context.message_bytes / r
      → IsSaved variant context key nonce ad m
      → Stands variant (held_by variant lane updates context.block context.ad_bytes context.message_bytes) key nonce ad m
  restored r rate_is same counted is =
      stands-same variant (saved_lane variant context.rows) lane _ updates context.block context.ad_bytes context.message_bytes key nonce ad m same
      (rw rate_is at counted) (stands-of variant context key nonce ad m is)

  -- lanes that are written to a context
  pub saved : context.mark ≡ BEGUN
      → ((j : ℕ) → j < variant.lanes → saved_lane variant context.rows j ≡ lane j)
      → Stands variant (held_by variant lane updates context.block context.ad_bytes context.message_bytes) key nonce ad m
      → IsSaved variant context key nonce ad m
  unfolding IsSaved
  saved marked same is =
      (marked, stands-same variant lane (saved_lane variant context.rows) updates _ context.block context.ad_bytes context.message_bytes key nonce ad m same refl is)

-- nothing is checked
pub checked-none : (variant : Variant) (context : SavedContext) → HasChecked variant context context []
checked-none variant context key nonce ad m is = ([], rw append-nil is, rw append-nil (sym (append-nil _)))

-- more is checked
pub checked-more : (variant : Variant) (context mid last : SavedContext) (b c : List ℕ)
    → HasChecked variant context mid b → HasChecked variant mid last c → HasChecked variant context last (b ++ c)
checked-more variant context mid last b c first second key nonce ad m is =
    let one = first key nonce ad m is in
    let two = second key nonce ad (m ++ one.0) one.1 in
    let joined : (m ++ one.0) ++ two.0 ≡ m ++ (one.0 ++ two.0) = simp append_assoc in
    let after : (ciphertext variant key nonce ad m ++ b) ++ c ≡ ciphertext variant key nonce ad m ++ (b ++ c) = simp append_assoc in (
      one.0 ++ two.0,
      rw joined at two.1,
      ap (ciphertext variant key nonce ad) (sym joined) ∙ two.2 ∙ ap (λ (x : List ℕ). x ++ c) one.2 ∙ after,
    )
