-- A destination keeps what lies after the bytes that are written.
use Rattle.std.proofs.Common.{◌≡◌, ◌∙◌, sym, ap, ℕ, ◌+◌, ◌≤◌, ◌++◌, List, length, replicate, drop, take, append_assoc, arith}
use Rattle.std.proofs.lemmas.Grind.{common_steps}
use Rattle.std.proofs.lemmas.Slice.{drop-append-drop}
use Rattle.std.proofs.lemmas.List.{drop-drop, length-replicate}

pub rest_stays : (n : ℕ) (xs : List ℕ) → drop n (replicate n 0 ++ drop n xs) ≡ drop n xs
rest_stays n xs = drop-append-drop n xs (replicate n 0) n (omega arith) (length-replicate n 0)

pub rest-after : (xs ys : List ℕ) (at k n : ℕ) → at ≤ length xs → length ys ≡ k → at + k ≤ n → drop n (take at xs ++ (ys ++ drop k (drop at xs))) ≡ drop n xs
rest-after xs ys at k n low long high =
    ap (λ (rest : List ℕ). drop n (take at xs ++ (ys ++ rest))) (drop-drop k at xs) ∙ ap (drop n) (sym (append_assoc (take at xs) ys (drop (at + k) xs)))
    ∙ drop-append-drop (at + k) xs (take at xs ++ ys) n high (grind (arith, common_steps))
