-- Bytes that are overwritten.
use Rattle.std.proofs.Common.{◌≡◌, ℕ, ◌+◌, ◌-◌, ◌<◌, ◌≤◌, ◌⊎◌, List, ◌++◌, get_or, length, take, arith, min}
use Rattle.std.proofs.lemmas.Grind.{common_steps, same_number_lists}
use Rattle.aegis_base.proofs.ChunkFacts.{chunk-within, joined-more}
use Rattle.std.proofs.lemmas.List.{get_or_past, places, with_items_is}
use Rattle.aegis_storage.specs.Disk.{overwritten, part_at, resized}

pub length-resized : (xs : List ℕ) (n : ℕ) → length (resized xs n) ≡ n
length-resized xs n = grind (arith, common_steps)

pub length-overwritten : (xs : List ℕ) (at : ℕ) (bs : List ℕ) → length (overwritten xs at bs) ≡ (at + length bs) + (length xs - (at + length bs))
length-overwritten xs at bs = grind (arith, common_steps)

-- a byte, or 0 past the end
pub resized_byte : (xs : List ℕ) (n i : ℕ) → i < n → get_or (resized xs n) i 0 ≡ get_or xs i 0
resized_byte xs n i low = grind (arith, places, get_or_past)

pub before_part : (xs : List ℕ) (at : ℕ) (bs : List ℕ) (i : ℕ) → i < at → get_or (overwritten xs at bs) i 0 ≡ get_or xs i 0
before_part xs at bs i low = grind (arith, places, get_or_past)

pub within_part : (xs : List ℕ) (at : ℕ) (bs : List ℕ) (i : ℕ) → at ≤ i → i < at + length bs → get_or (overwritten xs at bs) i 0 ≡ get_or bs (i - at) 0
within_part xs at bs i from low = grind (arith, places, get_or_past)

pub after_part : (xs : List ℕ) (at : ℕ) (bs : List ℕ) (i : ℕ) → at + length bs ≤ i → get_or (overwritten xs at bs) i 0 ≡ get_or xs i 0
after_part xs at bs i from = grind (arith, places, get_or_past)

-- a list that was made longer by zeros first
longer_byte : (xs : List ℕ) (at : ℕ) (bs : List ℕ) (k : ℕ) → k < at + length bs → get_or (overwritten (resized xs (at + length bs)) at bs) k 0 ≡ get_or (overwritten xs at bs) k 0
longer_byte xs at bs k low = grind (arith, before_part, within_part, resized_byte)

pub overwritten_resized : (xs : List ℕ) (at : ℕ) (bs : List ℕ) → length xs ≤ at + length bs → overwritten (resized xs (at + length bs)) at bs ≡ overwritten xs at bs
overwritten_resized xs at bs short = grind (arith, same_number_lists, length-overwritten, length-resized, longer_byte)

-- ---- parts

pub length-part : (xs : List ℕ) (a n : ℕ) → length (part_at xs a n) ≡ min n (length xs - a)
length-part xs a n = grind (arith, common_steps)

pub part_byte : (xs : List ℕ) (a n i : ℕ) → i < n → get_or (part_at xs a n) i 0 ≡ get_or xs (a + i) 0
part_byte xs a n i low = grind (arith, places, get_or_past)

-- bytes that the part does not touch
pub kept_part : (xs : List ℕ) (at : ℕ) (bs : List ℕ) (a n : ℕ) → (a + n ≤ at) ⊎ (at + length bs ≤ a) → length (part_at xs a n) ≡ n → part_at (overwritten xs at bs) a n ≡ part_at xs a n
kept_part xs at bs a n apart whole = grind (arith, same_number_lists, length-part, length-overwritten, part_byte, before_part, after_part)

-- the part itself
pub put_part : (xs : List ℕ) (at : ℕ) (bs : List ℕ) → part_at (overwritten xs at bs) at (length bs) ≡ bs
put_part xs at bs = grind (arith, common_steps)

-- ---- a beginning, an end, and a whole

pub filled_beginning : (xs : List ℕ) (done bs : List ℕ) (at : ℕ) → take at xs ≡ done → length done ≡ at → take (at + length bs) (overwritten xs at bs) ≡ done ++ bs
filled_beginning xs done bs at is long = grind (arith, common_steps)

pub overwritten_end : (xs : List ℕ) (at : ℕ) (bs : List ℕ) → length xs ≡ at → overwritten xs at bs ≡ xs ++ bs
overwritten_end xs at bs long = grind (arith, common_steps)

pub overwritten_whole : (text part : List ℕ) → length text ≤ length part → overwritten text 0 part ≡ part
overwritten_whole text part short = grind (arith, common_steps)

-- what a vector that is written past its end uses, and an array that is filled part by part
pub ruleset grown = (common_steps, overwritten_resized, with_items_is)

pub ruleset filling = (common_steps, chunk-within, filled_beginning, joined-more)
