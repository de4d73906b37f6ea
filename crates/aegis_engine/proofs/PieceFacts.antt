-- A pass in pieces: one more piece, and all of them.
use Rattle.std.proofs.Common.{◌≡◌, ◌∙◌, sym, ap, subst, ℕ, ◌+◌, List, [], ◌++◌, length, append_assoc, arith}
use Rattle.std.proofs.lemmas.List.{append-nil, length-append}
use Rattle.aegis_aes.specs.Block.{bytes_at}
use Rattle.aegis_aes.proofs.Places.{length-bytes_at}
use Rattle.aegis_base.specs.Variant.{Variant}
use Rattle.aegis_base.specs.Message.{ciphertext}
use Rattle.aegis_base.specs.Context.{Held, Stands, Takes}
use Rattle.aegis_base.proofs.LaneFacts.{bytes_at-all, bytes_at-append}
use Rattle.aegis_engine.specs.Pass.{IsPassed}
use Rattle.aegis_engine.specs.declared.pass.Pass.{Pass}
use Rattle.aegis_engine.specs.declared.pass.Pass.TheVariants.{Seal, Open, Keystream}
use Rattle.aegis_engine.proofs.PassFacts.{sealed-append, absorbed-append}

-- nothing is taken in, or passed
pub takes-none : (variant : Variant) (h : Held) → Takes variant h h []
takes-none variant h key nonce ad m is = rw append-nil is

pub passed-none : (variant : Variant) (h : Held) (pass : Pass) → IsPassed variant h h pass [] []
passed-none variant h Seal = record { takes = takes-none variant h; encrypts = λ key nonce ad m is. rw append-nil (sym (append-nil (ciphertext variant key nonce ad m))) }
passed-none variant h Open = record { takes = takes-none variant h; encrypts = λ key nonce ad m is. rw append-nil (sym (append-nil (ciphertext variant key nonce ad m))) }
passed-none variant h Keystream = record { takes = takes-none variant h; encrypts = λ key nonce ad m is. rw append-nil (sym (append-nil (ciphertext variant key nonce ad m))) }

pub passed-more : (variant : Variant) (old now new : Held) (pass : Pass) (a b c d : List ℕ) → length c ≡ length a
    → IsPassed variant old now pass a c → IsPassed variant now new pass b d → IsPassed variant old new pass (a ++ b) (c ++ d)
passed-more variant old now new pass a b c d long first next =
    grind (arith, absorbed-append, append_assoc, sealed-append)

-- all of `source` but `rest` is processed, and `out` is written so far
pub record IsDone (variant : Variant) (old now : Held) (pass : Pass) (source rest out : List ℕ) : Type 0 where
  pub done : List ℕ
  pub split : done ++ rest ≡ source
  pub long : length out ≡ length done
  pub passed : IsPassed variant old now pass done out

pub done-more : {variant : Variant} {old now next : Held} {pass : Pass} {source rest left out more : List ℕ} (piece part : List ℕ)
    → more ≡ out ++ part → rest ≡ piece ++ left → length part ≡ length piece
    → IsPassed variant now next pass piece part → IsDone variant old now pass source rest out → IsDone variant old next pass source left more
done-more {variant} {old} {now} {next} {pass} {source} {rest} {left} {out} {more} piece part written cut long last so_far =
    rw written (record {
      done = so_far.done ++ piece;
      split = append_assoc so_far.done piece left ∙ ap (λ (xs : List ℕ). so_far.done ++ xs) (sym cut) ∙ so_far.split;
      long = omega (arith, length-append out part, length-append so_far.done piece, long, so_far.long);
      passed = passed-more variant old now next pass so_far.done piece out part so_far.long so_far.passed last;
    })

-- ---- the part that fills the open block, the whole rate blocks, and the rest

-- a list of bytes in three parts
three-parts : (xs : List ℕ) (a b c : ℕ) → a + (b + c) ≡ length xs → bytes_at xs 0 a ++ (bytes_at xs a b ++ bytes_at xs (a + b) c) ≡ xs
three-parts xs a b c all =
    let start : 0 + a ≡ a = omega arith in
    ap (λ (l : List ℕ). bytes_at xs 0 a ++ l) (bytes_at-append xs a b c) ∙ rw start at (bytes_at-append xs 0 a (b + c)) ∙ rw all (bytes_at-all xs)

pub takes-thrice : (variant : Variant) (h0 h1 h2 h3 : Held) (xs : List ℕ) (a b c : ℕ) → a + (b + c) ≡ length xs → Takes variant h0 h1 (bytes_at xs 0 a)
    → Takes variant h1 h2 (bytes_at xs a b) → Takes variant h2 h3 (bytes_at xs (a + b) c) → Takes variant h0 h3 xs
takes-thrice variant h0 h1 h2 h3 xs a b c all first second third key nonce ad m is =
    let x : List ℕ = bytes_at xs 0 a in let y : List ℕ = bytes_at xs a b in let z : List ℕ = bytes_at xs (a + b) c in
    subst (Stands variant h3 key nonce ad) (append_assoc (m ++ x) y z ∙ append_assoc m x (y ++ z) ∙ ap (λ (l : List ℕ). m ++ l) (three-parts xs a b c all))
    (third key nonce ad ((m ++ x) ++ y) (second key nonce ad (m ++ x) (first key nonce ad m is)))

pub passed-thrice : (variant : Variant) (h0 h1 h2 h3 : Held) (pass : Pass) (source out : List ℕ) (a b c : ℕ) → a + (b + c) ≡ length source → length out ≡ length source
    → IsPassed variant h0 h1 pass (bytes_at source 0 a) (bytes_at out 0 a) → IsPassed variant h1 h2 pass (bytes_at source a b) (bytes_at out a b)
    → IsPassed variant h2 h3 pass (bytes_at source (a + b) c) (bytes_at out (a + b) c) → IsPassed variant h0 h3 pass source out
passed-thrice variant h0 h1 h2 h3 pass source out a b c all long first second third =
    let size : (i n : ℕ) → length (bytes_at out i n) ≡ length (bytes_at source i n) = λ i n. length-bytes_at out i n ∙ sym (length-bytes_at source i n) in
    rw (← three-parts source a b c all, ← three-parts out a b c (all ∙ sym long))
    (passed-more variant h0 h1 h3 pass (bytes_at source 0 a) _ (bytes_at out 0 a) _ (size 0 a) first
    (passed-more variant h1 h2 h3 pass (bytes_at source a b) _ (bytes_at out a b) _ (size a b) second third))

-- whole rate blocks alone
pub passed-all : (variant : Variant) (h0 h1 : Held) (pass : Pass) (source out : List ℕ) (n : ℕ) → length source ≡ n → length out ≡ n
    → IsPassed variant h0 h1 pass (bytes_at source 0 n) (bytes_at out 0 n) → IsPassed variant h0 h1 pass source out
passed-all variant h0 h1 pass source out n all long passed =
    let whole : (xs : List ℕ) → length xs ≡ n → bytes_at xs 0 n ≡ xs = λ xs is. rw is at (bytes_at-all xs) in
    rw (whole source all, whole out long) at passed
