-- A record that is opened in the buffer that it begins.
use borrow.Rule.Slice.PartMut.{put_mid}
use Rattle.std.proofs.Common.{◌≡◌, ℕ, ◌+◌, ◌-◌, ◌<◌, ◌≤◌, List, ◌++◌, length, take, drop, get_or, refl, sym, ap, ◌∙◌, append_assoc, arith}
use Rattle.std.proofs.lemmas.List.{drop_at, get_or-take, get_or_append_left, length-append, length-drop, length-take, take_at, take-append-drop, take-append-le}
use Rattle.aegis.specs.declared.record.version.Version.{Version}
use Rattle.aegis.specs.RecordResults.{message_at, rest_at, with_message}
use Rattle.aegis.specs.RecordStream.{Parts}
use Rattle.aegis.proofs.Reading.{Cut}

-- where a record's sealed message lies in the buffer
abbrev there : Parts → ℕ
there p = (5 + length p.1) - 5

there_is : (p : Parts) → there p ≡ length p.1
there_is p = omega arith

pub sealed_is : (v : Version) (p : Parts) (bytes : List ℕ) → Cut v p bytes → take (there p) (drop 5 bytes) ≡ p.1
sealed_is v p bytes c = rw (there_is p, c.body) (take_at p.1 p.2 (length p.1) refl)

pub sealed_end : (v : Version) (p : Parts) (bytes : List ℕ) → Cut v p bytes → 5 + length p.1 ≤ length bytes
sealed_end v p bytes c = grind (arith, length-append, length-drop)

-- what the buffer is if these bytes are written there
put_is : (v : Version) (p : Parts) (bytes made : List ℕ) → Cut v p bytes → put_mid 5 (there p) bytes made ≡ take 5 bytes ++ (made ++ p.2)
put_is v p bytes made c = ap (λ (l : List ℕ). take 5 bytes ++ (made ++ l)) (rw (there_is p, c.body) (drop_at p.1 p.2 (length p.1) refl))

-- a sealed message became its message, with the tag as it was
pub record Left (p : Parts) (n : ℕ) (bytes made new : List ℕ) : Type 0 where
  pub message : message_at n new ≡ take n made
  pub others : rest_at n new ≡ p.2
  pub is : new ≡ with_message bytes (take n made)
  pub size : length (take n made) ≡ n

pub left : (v : Version) (p : Parts) (bytes made : List ℕ) → Cut v p bytes → length made ≡ length p.1
    → drop (length p.1 - 32) made ≡ drop (length p.1 - 32) p.1 → Left p (length p.1 - 32) bytes made (put_mid 5 (there p) bytes made)
left v p bytes made c same tag =
    let n : ℕ = length p.1 - 32 in
    let five = c.five in
    let long = c.size in
    let head : List ℕ = take 5 bytes in
    let first : length head ≡ 5 = omega (arith, length-take 5 bytes) in
    let m : List ℕ = take n made in
    let size : length m ≡ n = omega (arith, length-take n made) in
    let old : bytes ≡ (head ++ take n p.1) ++ (drop n p.1 ++ p.2) =
    sym (take-append-drop 5 bytes) ∙ ap (λ (l : List ℕ). head ++ l) (c.body ∙ ap (λ (l : List ℕ). l ++ p.2) (sym (take-append-drop n p.1)) ∙ append_assoc (take n p.1) (drop n p.1) p.2)
    ∙ sym (append_assoc head (take n p.1) (drop n p.1 ++ p.2)) in
    let others : drop (5 + length m) bytes ≡ drop n p.1 ++ p.2 =
    ap (drop (5 + length m)) old ∙ drop_at (head ++ take n p.1) (drop n p.1 ++ p.2) (5 + length m) (omega (arith, length-append head (take n p.1), length-take n p.1)) in
    rw (put_is v p bytes made c) (record {
      message = ap (take n) (drop_at head (made ++ p.2) 5 first) ∙ take-append-le n made p.2 (omega arith);
      others = ap (drop (37 + n)) (sym (append_assoc head made p.2)) ∙ drop_at (head ++ made) p.2 (37 + n) (omega (arith, length-append head made));
      is = ap (λ (l : List ℕ). head ++ (l ++ p.2)) (sym (take-append-drop n made)) ∙ ap (λ (l : List ℕ). head ++ l) (append_assoc m (drop n made) p.2)
          ∙ ap (λ (l : List ℕ). head ++ (m ++ (l ++ p.2))) tag ∙ ap (λ (l : List ℕ). head ++ (m ++ l)) (sym others);
      size = size;
    })

-- the head is as it was, so its bytes are still bytes
pub head_fits : (v : Version) (p : Parts) (bytes made : List ℕ) → Cut v p bytes → ((i : ℕ) → get_or (put_mid 5 (there p) bytes made) i 0 < 256)
    → (i : ℕ) → i < 5 → get_or bytes i 0 < 256
head_fits v p bytes made c fits i low =
    let five = c.five in
    let same : get_or bytes i 0 ≡ get_or (put_mid 5 (there p) bytes made) i 0 =
    sym (get_or-take 5 bytes i 0 low) ∙ sym (get_or_append_left (take 5 bytes) (made ++ drop (there p) (drop 5 bytes)) 0 i (omega (arith, length-take 5 bytes))) in
    rw same (fits i)
