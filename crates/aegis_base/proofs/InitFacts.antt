-- With one lane the context block is zero, and xoring it in changes no row.
use Rattle.std.proofs.Common.{◌≡◌, ◌∙◌, ap, refl, ℕ, zero, suc, ◌≤◌, List, [], ◌∷◌, length, arith, rules}
use Rattle.aegis_aes.specs.Block.{xor}
use Rattle.aegis_aes.specs.Lanes.{context_block}
use Rattle.aegis_aes.proofs.Places.{xor-zeros}
use Rattle.aegis_base.specs.Variant.{Family, Family128, Family256, Variant}
use Rattle.aegis_base.specs.Lane.{add_context, c0, c1, first_blocks, high_half, low_half, block_in, init, init_turn, update, times}
use Rattle.aegis_base.specs.Laws.{IsInitPlain, plain_turn}
use Rattle.aegis_base.proofs.Lengths.{length-round}

xor-context : (xs : List ℕ) → length xs ≤ 16 → xor xs (context_block 0 1) ≡ xs
xor-context xs low = xor-zeros xs 16 low

length-xor-le : (xs ys : List ℕ) → length (xor xs ys) ≤ length ys
length-xor-le [] ys = omega arith
length-xor-le (x ∷ xs) [] = omega arith
length-xor-le (x ∷ xs) (y ∷ ys) = let rest = length-xor-le xs ys in omega arith

-- the other row that a context block is xored into
abbrev last_row : Family → List (List ℕ) → List ℕ
last_row Family128 s = block_in s 7
last_row Family256 s = block_in s 5

-- the rows that a context block is xored into are no longer than a block
record IsShort (family : Family) (s : List (List ℕ)) : Type 0 where
  third : length (block_in s 3) ≤ 16
  last : length (last_row family s) ≤ 16

update-short : (family : Family) (s m : List (List ℕ)) → IsShort family (update family s m)
update-short Family128 s m = record {
  third = omega (arith, length-round (block_in s 2) (block_in s 3));
  last = omega (arith, length-round (block_in s 6) (block_in s 7));
}
update-short Family256 s m = record {
  third = omega (arith, length-round (block_in s 2) (block_in s 3));
  last = omega (arith, length-round (block_in s 4) (block_in s 5));
}

first_blocks-short : (family : Family) (key nonce : List ℕ) → IsShort family (first_blocks family key nonce)
first_blocks-short Family128 key nonce = record { third = omega arith; last = length-xor-le key c0 }
first_blocks-short Family256 key nonce = record { third = omega arith; last = length-xor-le (high_half key) c1 }

update-plain : (family : Family) (s m : List (List ℕ)) → IsShort family s
    → update family (add_context family (context_block 0 1) s) m ≡ update family s m
update-plain Family128 s m is = rw (xor-context (block_in s 3) is.third, xor-context (block_in s 7) is.last) refl
update-plain Family256 s m is = rw (xor-context (block_in s 3) is.third, xor-context (block_in s 5) is.last) refl

-- an update of initialization in the family 256, of a lane that is the same without context blocks
turned-plain : (s r : List (List ℕ)) (b : List ℕ) → s ≡ r → IsShort Family256 r
    → update Family256 (add_context Family256 (context_block 0 1) s) (b ∷ []) ≡ update Family256 r (b ∷ [])
turned-plain s r b e is =
    ap (λ (t : List (List ℕ)). update Family256 (add_context Family256 (context_block 0 1) t) (b ∷ [])) e ∙ update-plain Family256 r (b ∷ []) is

turn-plain : (family : Family) (key nonce : List ℕ) (s : List (List ℕ)) → IsShort family s
    → init_turn family key nonce (context_block 0 1) s ≡ plain_turn family key nonce s
turn-plain Family128 key nonce s is = update-plain Family128 s (nonce ∷ key ∷ []) is
turn-plain Family256 key nonce s is =
    let a = low_half key in
    let b = high_half key in
    let x = xor (low_half key) (low_half nonce) in
    let s1 = update Family256 s (a ∷ []) in
    let s2 = update Family256 s1 (b ∷ []) in
    let s3 = update Family256 s2 (x ∷ []) in
    turned-plain _ s3 (xor b (high_half nonce))
    (turned-plain _ s2 x (turned-plain _ s1 b (turned-plain s s a refl is) (update-short Family256 s (a ∷ []))) (update-short Family256 s1 (b ∷ [])))
    (update-short Family256 s2 (x ∷ []))

plain_turn-short : (family : Family) (key nonce : List ℕ) (s : List (List ℕ)) → IsShort family (plain_turn family key nonce s)
plain_turn-short Family128 key nonce s = update-short Family128 s (nonce ∷ key ∷ [])
plain_turn-short Family256 key nonce s = search (rules, update-short)

turns-short : (family : Family) (key nonce : List ℕ) (n : ℕ) (s : List (List ℕ)) → IsShort family s
    → IsShort family (times n (plain_turn family key nonce) s)
turns-short family key nonce zero s is = is
turns-short family key nonce (suc n) s is = plain_turn-short family key nonce (times n (plain_turn family key nonce) s)

turns-plain : (family : Family) (key nonce : List ℕ) (n : ℕ) (s : List (List ℕ)) → IsShort family s
    → times n (init_turn family key nonce (context_block 0 1)) s ≡ times n (plain_turn family key nonce) s
turns-plain family key nonce zero s is = refl
turns-plain family key nonce (suc n) s is =
    ap (init_turn family key nonce (context_block 0 1)) (turns-plain family key nonce n s is)
    ∙ turn-plain family key nonce (times n (plain_turn family key nonce) s) (turns-short family key nonce n s is)

pub init_plain : (variant : Variant) → variant.lanes ≡ 1 → IsInitPlain variant
unfolding init
init_plain variant one key nonce = grind (arith, turns-plain, first_blocks-short)
