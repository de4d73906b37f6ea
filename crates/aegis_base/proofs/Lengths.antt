-- The lengths of tags. A round returns 16 bytes for any input, so each row has 16 bytes after a lane's end, and a tag
-- of n bytes has n bytes.
use Rattle.std.proofs.Common.{◌≡◌, ◌∙◌, sym, ℕ, zero, suc, ◌/◌, ◌%◌, ◌<◌, List, [], ◌∷◌, length, arith, rules, inl, inr}
use Rattle.std.proofs.lemmas.List.{length-append}
use Rattle.std.proofs.lemmas.List.FromFn.{length-map-range_with_len}
use Rattle.aegis_aes.specs.Block.{xor}
use Rattle.aegis_aes.specs.Lanes.{IsLaneCount}
use Rattle.aegis_aes.specs.Round.{complete_byte, complete_round, round, sub_bytes}
use Rattle.aegis_base.specs.Variant.{Family, Family128, Family256, Variant}
use Rattle.aegis_base.specs.Lane.{IsTagLength, add_context, bit_lengths, finalize, high_tag, lane_tag, last_block, last_input, low_tag, block_in, short_tag, init, init_turn, init_turns, update, times}
use Rattle.aegis_base.specs.Message.{lane_after, lane_end, tag}
use Rattle.aegis_base.proofs.LaneFacts.{length-xor, length-xor_lanes-count}

pub length-round : (b k : List ℕ) → length (round b k) ≡ 16
unfolding round complete_round
length-round b k = length-map-range_with_len (λ n. complete_byte (sub_bytes b) k (n / 4) (n % 4)) 0 16

xor-block : (a b : List ℕ) → length a ≡ 16 → length b ≡ 16 → length (xor a b) ≡ 16
xor-block a b is also = length-xor a b (is ∙ sym also) ∙ also

ruleset block_laws = (length-round, xor-block)

-- ---- a lane after at least one update

-- the row that the input of a lane's last updates is computed from
abbrev end_row : Family → List (List ℕ) → List ℕ
end_row Family128 s = block_in s 2
end_row Family256 s = block_in s 3

pub record IsUpdated (family : Family) (s : List (List ℕ)) : Type 0 where
  pub long : length (end_row family s) ≡ 16

pub update-updated : (family : Family) (s m : List (List ℕ)) → IsUpdated family (update family s m)
update-updated Family128 s m = record { long = length-round (block_in s 1) (block_in s 2) }
update-updated Family256 s m = record { long = length-round (block_in s 2) (block_in s 3) }

times-updated : (family : Family) (n : ℕ) (f : List (List ℕ) → List (List ℕ)) (s : List (List ℕ)) → 0 < n
    → ((r : List (List ℕ)) → IsUpdated family (f r)) → IsUpdated family (times n f s)
times-updated family zero f s positive kept = absurd (omega arith)
times-updated family (suc n) f s positive kept = kept (times n f s)

init_turn-updated : (family : Family) (key nonce c : List ℕ) (s : List (List ℕ)) → IsUpdated family (init_turn family key nonce c s)
init_turn-updated Family128 key nonce c s = update-updated Family128 (add_context Family128 c s) (nonce ∷ key ∷ [])
init_turn-updated Family256 key nonce c s = search (rules, update-updated)

init_turns-positive : (family : Family) → 0 < init_turns family
init_turns-positive Family128 = omega arith
init_turns-positive Family256 = omega arith

pub init-updated : (variant : Variant) (key nonce : List ℕ) (j : ℕ) → IsUpdated variant.family (init variant key nonce j)
unfolding init
init-updated variant key nonce j = grind (arith, times-updated, init_turns-positive, init_turn-updated)

pub after-updated : (variant : Variant) (s : List (List ℕ)) (j : ℕ) (x : List ℕ) (n : ℕ) → IsUpdated variant.family s
    → IsUpdated variant.family (lane_after variant s j x n)
unfolding lane_after
after-updated variant s j x zero is = is
after-updated variant s j x (suc n) is = update-updated variant.family _ _

-- ---- a lane after its end

pub record IsWhole (family : Family) (s : List (List ℕ)) : Type 0 where
  pub short : length (short_tag family s) ≡ 16
  pub low : length (low_tag family s) ≡ 16
  pub high : length (high_tag family s) ≡ 16

update-whole : (family : Family) (s : List (List ℕ)) (block : List ℕ) → length block ≡ 16
    → IsWhole family (update family s (last_input family block))
update-whole Family128 s block e =
    record { short = search block_laws depth 12; low = search block_laws depth 12; high = search block_laws depth 12 }
update-whole Family256 s block e =
    record { short = search block_laws depth 12; low = search block_laws depth 12; high = search block_laws depth 12 }

length-last_block : (family : Family) (s : List (List ℕ)) (p q : ℕ) → IsUpdated family s → length (last_block family s p q) ≡ 16
length-last_block Family128 s p q is = length-xor (block_in s 2) (bit_lengths p q) is.long
length-last_block Family256 s p q is = length-xor (block_in s 3) (bit_lengths p q) is.long

pub finalize-whole : (family : Family) (s : List (List ℕ)) (p q : ℕ) → IsUpdated family s → IsWhole family (finalize family s p q)
unfolding finalize
finalize-whole family s p q is =
    let block = last_block family s p q in
    update-whole family (times 6 (λ r. update family r (last_input family block)) s) block (length-last_block family s p q is)

pub finalize-updated : (family : Family) (s : List (List ℕ)) (p q : ℕ) → IsUpdated family (finalize family s p q)
unfolding finalize
finalize-updated family s p q = update-updated family _ _

-- ---- tags

pub length-lane_tag : (family : Family) (n : ℕ) (s : List (List ℕ)) → IsTagLength n → IsWhole family s → length (lane_tag family n s) ≡ n
length-lane_tag family n s (inl e) whole = rw e whole.short
length-lane_tag family n s (inr e) whole = rw e (omega (arith, length-append (low_tag family s) (high_tag family s), whole.low, whole.high))

lane_end-whole : (variant : Variant) (key nonce ad m : List ℕ) (j : ℕ) → IsWhole variant.family (lane_end variant key nonce ad m j)
lane_end-whole variant key nonce ad m j =
    finalize-whole variant.family _ _ _ (after-updated variant _ j m _ (after-updated variant _ j ad _ (init-updated variant key nonce j)))

pub length_tag : (variant : Variant) (n : ℕ) (key nonce ad m : List ℕ) → IsLaneCount variant.lanes → IsTagLength n
    → length (tag variant n key nonce ad m) ≡ n
unfolding tag
length_tag variant n key nonce ad m count is =
    let tag_of = λ (j : ℕ). lane_tag variant.family n (lane_end variant key nonce ad m j) in
    length-xor_lanes-count tag_of n variant.lanes count (λ j low. length-lane_tag variant.family n _ is (lane_end-whole variant key nonce ad m j))
