-- Updates of initialization, one after the other.
use Rattle.std.proofs.Common.{◌≡◌, ◌∙◌, ap, refl, ◌+◌, ◌*◌, arith}
use Rattle.std.specs.Prelude.{ℕ, zero, suc, ◌%◌, List, [], ◌∷◌, slice_index_or}
use Rattle.aegis_aes.specs.Block.{xor}
use Rattle.aegis_base.specs.Variant.{Family256}
use Rattle.aegis_base.specs.Lane.{add_context, high_half, low_half, init_turn, update, times}

-- the lane s after the first n updates by these four blocks, over and over, each with the context block c
abbrev pub turned : List ℕ → List (List ℕ) → List (List ℕ) → ℕ → List (List ℕ)
turned c blocks s zero = s
turned c blocks s (suc n) = update Family256 (add_context Family256 c (turned c blocks s n)) (slice_index_or blocks (n % 4) [] ∷ [])

-- the four blocks of a turn
abbrev pub turn_blocks : (key nonce : List ℕ) → List (List ℕ)
turn_blocks key nonce = low_half key ∷ high_half key ∷ xor (low_half key) (low_half nonce) ∷ xor (high_half key) (high_half nonce) ∷ []

-- four more updates are a turn
one-turn : (key nonce c : List ℕ) (s : List (List ℕ)) (n : ℕ) → n % 4 ≡ 0
    → turned c (turn_blocks key nonce) s (suc (suc (suc (suc n)))) ≡ init_turn Family256 key nonce c (turned c (turn_blocks key nonce) s n)
one-turn key nonce c s n first =
    let second : suc n % 4 ≡ 1 = omega arith in
    let third : suc (suc n) % 4 ≡ 2 = omega arith in
    let fourth : suc (suc (suc n)) % 4 ≡ 3 = omega arith in
    rw (first, second, third, fourth) refl

pub turns-are : (key nonce c : List ℕ) (s : List (List ℕ)) (m : ℕ)
    → turned c (turn_blocks key nonce) s (4 * m) ≡ times m (init_turn Family256 key nonce c) s
turns-are key nonce c s zero = refl
turns-are key nonce c s (suc m) =
    let whole : 4 * m % 4 ≡ 0 = omega arith in
    let next : 4 * suc m ≡ suc (suc (suc (suc (4 * m)))) = omega arith in
    ap (turned c (turn_blocks key nonce) s) next ∙ one-turn key nonce c s (4 * m) whole
    ∙ ap (init_turn Family256 key nonce c) (turns-are key nonce c s m)

-- one more update
pub turned-next : (c : List ℕ) (blocks : List (List ℕ)) (s : List (List ℕ)) (n : ℕ)
    → turned c blocks s (n + 1) ≡ update Family256 (add_context Family256 c (turned c blocks s n)) (slice_index_or blocks (n % 4) [] ∷ [])
turned-next c blocks s n =
    let next : n + 1 ≡ suc n = omega arith in
    ap (turned c blocks s) next

-- after sixteen updates
pub all-turns : (key nonce c : List ℕ) (blocks s t : List (List ℕ)) (n : ℕ) → n ≡ 16 → blocks ≡ turn_blocks key nonce
    → t ≡ turned c blocks s n → t ≡ times 4 (init_turn Family256 key nonce c) s
all-turns key nonce c blocks s t n done are same =
    same ∙ ap (λ b. turned c b s n) are ∙ ap (turned c (turn_blocks key nonce) s) done ∙ turns-are key nonce c s 4
