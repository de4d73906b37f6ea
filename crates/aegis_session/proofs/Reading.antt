-- How the lines after begun bytes change with each byte, and what holds between two reads.
use Rattle.std.proofs.Common.{◌≡◌, ◌≢◌, ℕ, ◌+◌, ◌<◌, Bool, true, List, [], ◌∷◌, ◌++◌, drop, get_or, length, map, refl, ap, sym, ◌∙◌, add-one, arith, false, Option, None, Some, IfSome, append_assoc}
use Rattle.std.proofs.Math.Seq.{drop-cons}
use Rattle.std.proofs.lemmas.Bool.Decides.{nat_tests}
use Rattle.std.specs.Io.BufRead.{strip_last}
use Rattle.std.proofs.KnownBytes.{Appends-nil, Consumes-all, Consumes-kept, Consumes-nil, Consumes-trans}
use Rattle.std.proofs.lemmas.Bool.{true≢false}
use Rattle.std.specs.Io.KnownBytes.{Consumes, IsAtEnd, Keeps}
use Rattle.aegis_session.specs.Output.{lines_of, pieces, with_byte, lines, AnswersRead, AnswersSome}
use Rattle.aegis_session.specs.Private.{lines_after, with_bytes, Answers}
use Rattle.aegis_session.proofs.OutputFacts.{appends_none, more_answers, more_beginning, no_answers, no_beginning}

pub lines_after-none : (ends : Bool) (text : List ℕ) → lines_after ends [] text ≡ lines_of ends text
unfolding lines_after lines_of
lines_after-none ends text = refl

with_bytes-ended : (ends : Bool) (begun : List ℕ) (more : List (List ℕ)) → with_bytes ends begun ([] ∷ more) ≡ begun ∷ more
with_bytes-ended ends [] more = refl
with_bytes-ended ends (byte ∷ bytes) more = ap (with_byte ends byte) (with_bytes-ended ends bytes more)

pub lines_after-ended : (ends : Bool) (begun more : List ℕ) → lines_after ends begun (10 ∷ more) ≡ strip_last 13 begun ∷ lines_after ends [] more
unfolding lines_after
lines_after-ended ends begun more = ap (map (strip_last 13)) (with_bytes-ended ends begun (pieces ends more))

with_bytes-longer : (ends : Bool) (begun : List ℕ) (byte : ℕ) (more : List (List ℕ))
    → with_bytes ends (begun ++ byte ∷ []) more ≡ with_bytes ends begun (with_byte ends byte more)
with_bytes-longer ends [] byte more = refl
with_bytes-longer ends (first ∷ bytes) byte more = ap (with_byte ends first) (with_bytes-longer ends bytes byte more)

pieces-byte : (ends : Bool) (byte : ℕ) (more : List ℕ) → byte ≢ 10 → pieces ends (byte ∷ more) ≡ with_byte ends byte (pieces ends more)
pieces-byte ends byte more other = grind (arith, nat_tests)

pub lines_after-longer : (ends : Bool) (begun more : List ℕ) (byte : ℕ) → byte ≢ 10
    → lines_after ends begun (byte ∷ more) ≡ lines_after ends (begun ++ byte ∷ []) more
unfolding lines_after
lines_after-longer ends begun more byte other =
    ap (λ ps. map (strip_last 13) ps) (ap (with_bytes ends begun) (pieces-byte ends byte more other) ∙ sym (with_bytes-longer ends begun byte (pieces ends more)))

with_bytes-alone : (byte : ℕ) (bytes : List ℕ) → with_bytes true (byte ∷ bytes) [] ≡ (byte ∷ bytes) ∷ []
with_bytes-alone byte [] = refl
with_bytes-alone byte (next ∷ bytes) = ap (with_byte true byte) (with_bytes-alone next bytes)

-- At the end of the input, an empty rest is no line, and any other is the last line.
pub no_last_line : (begun : List ℕ) → length begun ≡ 0 → lines_after true begun [] ≡ []
unfolding lines_after
no_last_line [] none = refl
no_last_line (byte ∷ bytes) none = absurd (omega arith)

pub last_line : (begun : List ℕ) → 0 < length begun → lines_after true begun [] ≡ strip_last 13 begun ∷ []
unfolding lines_after
last_line [] some = absurd (omega arith)
last_line (byte ∷ bytes) some = ap (map (strip_last 13)) (with_bytes-alone byte bytes)

-- one byte after the bytes before it
pub next_byte : (ends : Bool) (begun bytes more : List ℕ) (i : ℕ) → i < length bytes
    → lines_after ends begun (drop i bytes ++ more) ≡ lines_after ends begun (get_or bytes i 0 ∷ (drop (i + 1) bytes ++ more))
next_byte ends begun bytes more i within = rw (add-one, drop-cons bytes i 0 within)

-- All lines of the bytes read are answered but the begun one, for any bytes that follow.
pub record ReadsSome (bytes : List ℕ) (left : Option (List ℕ)) (begun : List ℕ) (saw : Bool) (old new : Option (List ℕ)) : Type 0 where
  pub read : List ℕ
  pub split : Consumes (Some bytes) left read
  pub answers : (ends : Bool) (more : List ℕ) → Answers (lines_of ends (read ++ more)) (lines_after ends begun more) false saw old new

abbrev pub Reads : Option (List ℕ) → Option (List ℕ) → List ℕ → Bool → Option (List ℕ) → Option (List ℕ) → Type 0
Reads known left begun saw old new = IfSome known (λ bytes. ReadsSome bytes left begun saw old new)

-- `AnswersRead` of a reader's bytes, if they are known
abbrev pub Stops : Option (List ℕ) → Option (List ℕ) → Option (List ℕ) → Option (List ℕ) → Type 0
Stops known left old new = IfSome known (λ bytes. AnswersRead bytes left old new)

pub Reads-begin : (known : Option (List ℕ)) (begun : List ℕ) (saw : Bool) (old : Option (List ℕ)) → begun ≡ [] → saw ≡ false → Reads known known begun saw old old
Reads-begin None begun saw old empty none = tt
Reads-begin (Some bytes) begun saw old empty none = record {
  read = [];
  split = refl;
  answers = λ ends more. rw (empty, none, lines_after-none ends more) (no_answers (lines_of ends more) false old old (Appends-nil old));
}

pub Reads-more : (known left rest : Option (List ℕ)) (taken begun begun' : List ℕ) (saw saw' : Bool) (x y z : Option (List ℕ)) → Reads known left begun saw x y
    → Consumes left rest taken
    → ((ends : Bool) (more : List ℕ) → Answers (lines_after ends begun (taken ++ more)) (lines_after ends begun' more) saw saw' y z)
    → Reads known rest begun' saw' x z
Reads-more None left rest taken begun begun' saw saw' x y z p e step = tt
Reads-more (Some bytes) left rest taken begun begun' saw saw' x y z p e step = record {
  read = p.read ++ taken;
  split = Consumes-trans (Some bytes) left rest p.read taken p.split e;
  answers = λ ends more. rw (append_assoc p.read taken more) (more_answers _ _ _ _ _ _ _ _ _ (p.answers ends (taken ++ more)) (step ends more));
}

-- The last line is answered, and the writer flushed.
pub Reads-end : (known left rest : Option (List ℕ)) (begun : List ℕ) (saw saw' : Bool) (x y z w : Option (List ℕ)) → Reads known left begun saw x y
    → Consumes left rest [] → IsAtEnd rest → Answers (lines_after true begun []) [] saw saw' y z → Keeps z w
    → IfSome known (λ bytes. Answers (lines bytes) [] false saw' x w)
Reads-end None left rest begun saw saw' x y z w p e end last flush = tt
Reads-end (Some bytes) left rest begun saw saw' x y z w p e end last flush =
    let all : p.read ++ [] ≡ bytes = Consumes-all (Some bytes) rest (p.read ++ []) [] (p.read ++ []) (Consumes-trans (Some bytes) left rest p.read [] p.split e) end refl in
    more_answers _ _ _ _ _ _ _ _ _ (rw all at (p.answers true [])) (more_answers _ _ _ _ _ _ _ _ _ last (no_answers [] saw' z w (appends_none z w flush)))

-- The bytes of a read could not be answered. They are all that there are only if the input ended.
pub Reads-stop : (known left rest : Option (List ℕ)) (taken begun : List ℕ) (saw ends : Bool) (x y z : Option (List ℕ)) → Reads known left begun saw x y
    → Consumes left rest taken → (ends ≡ true → IsAtEnd rest) → AnswersSome (lines_after ends begun taken) y z → Stops known rest x z
Reads-stop None left rest taken begun saw ends x y z p e end some = tt
Reads-stop (Some bytes) left rest taken begun saw ends x y z p e end some = record {
  read = p.read ++ taken;
  ends = ends;
  split = Consumes-trans (Some bytes) left rest p.read taken p.split e;
  at_end = end;
  written = more_beginning _ _ _ _ _ _ _ (p.answers ends taken) some;
}

-- A read failed.
pub Reads-fail : (known left left' : Option (List ℕ)) (begun : List ℕ) (saw : Bool) (x y : Option (List ℕ)) → Reads known left begun saw x y
    → Keeps left left' → Stops known left' x y
Reads-fail known left left' begun saw x y p kept =
    Reads-stop known left left' [] begun saw false x y y p (Consumes-kept left left left' [] (Consumes-nil left) kept) (λ ends. absurd (true≢false (sym ends)))
    (no_beginning _ y y (Appends-nil y))
