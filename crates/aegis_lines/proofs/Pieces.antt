-- Fields and pieces of bytes: that their digits decode, and to how many bytes.
use Rattle.std.proofs.lemmas.Grind.{flat_map-append}
use Rattle.std.proofs.Common.{◌≡◌, ℕ, ◌+◌, ◌/◌, ◌%◌, ◌<◌, ◌==◌, ◌&&◌, ◌++◌, Bool, true, false, List, [], ◌∷◌, Ok, append-nil, arith, get_or, leb, length, map, refl, take, append_assoc}
use Rattle.std.proofs.lemmas.List.{get_or-map, length-append, length-map, map-append, map_push, take_more}
use Rattle.std.proofs.lemmas.List.Folds.{concat-append, list_all-append, list_all_more}
use Rattle.std.proofs.lemmas.List.Splits.{length-slice_split}
use Rattle.std.proofs.lemmas.Bool.{leb-true}
use Rattle.std.proofs.lemmas.Slice.Eq.{bytes_eq-Decides}
use Rattle.std.specs.Vec.{vec_items}
use Rattle.std.specs.declared.vec.Vec.{Vec}
use Rattle.std.proofs.lemmas.List.Sums.{AllPass-from_list_all}
use Rattle.std.specs.Borrow.{Bor}
use Rattle.std.specs.List.{concat, list_all}
use Rattle.std.specs.Prelude.{codes}
use Rattle.std.specs.Str.{bytes_eq}
use Rattle.hex.proofs.HexLemmas.{decode_of-digits, decode_of-ok}
use Rattle.hex.specs.Hex.{decode_of, is_hex_digit}
use Rattle.aegis.specs.RecordStream.{AreWithin, frames_length, limit, records_length}
use Rattle.aegis.specs.declared.record.version.Version.TheVariants.{Second}
use Rattle.aegis_base.specs.Chunks.{texts}
use Rattle.aegis_lines.specs.Answer.{bytes_of, is_bytes, messages_of, are_messages}

pub and_parts : (a b : Bool) → (a && b) ≡ true → (a ≡ true) × (b ≡ true)
and_parts true b e = (refl, e)
and_parts false b e = absurd cc

and_true : (a : Bool) → (a && true) ≡ a
and_true true = refl
and_true false = refl

digits_of : (field : List ℕ) → is_bytes field ≡ true → bytes_eq field (codes "-") ≡ false → (length field % 2 ≡ 0) × (list_all is_hex_digit field ≡ true)
unfolding is_bytes
digits_of field are digits = grind arith

-- a field other than `-` decodes
pub decodes : (field : List ℕ) → is_bytes field ≡ true → bytes_eq field (codes "-") ≡ false → decode_of field ≡ Ok (bytes_of field)
unfolding bytes_of
decodes field are digits =
    let d = digits_of field are digits in
    let r = decode_of-digits field d.0 (AllPass-from_list_all is_hex_digit field d.1) in
    rw (digits, r.1) refl

half_from : (b : Bool) (field : List ℕ) → bytes_eq field (codes "-") ≡ b → is_bytes field ≡ true → length field / 2 ≡ length (bytes_of field)
unfolding bytes_of
half_from true field is are = rw (is, (bytes_eq-Decides field (codes "-")).0 is) refl
half_from false field is are = let ok = decode_of-ok field (bytes_of field) (decodes field are is) in omega (arith, ok.2)

-- a field has two digits for each byte, or is `-`
pub half_length : (field : List ℕ) → is_bytes field ≡ true → length field / 2 ≡ length (bytes_of field)
half_length field are = half_from (bytes_eq field (codes "-")) field refl are

pub is_bytes_at : (pieces : List (Bor (List ℕ))) (i : ℕ) (d : Bor (List ℕ)) → list_all is_bytes (texts pieces) ≡ true → i < length pieces
    → is_bytes (get_or pieces i d).now ≡ true
is_bytes_at pieces i d are low =
    rw (← get_or-map (λ piece. piece.now) pieces i d [] low) (AllPass-from_list_all is_bytes (texts pieces) are i [] (rw length-map low))

-- one more piece
pub more_bytes : (pieces : List (Bor (List ℕ))) (i : ℕ) (d : Bor (List ℕ)) → i < length pieces
    → map bytes_of (take (i + 1) (texts pieces)) ≡ map bytes_of (take i (texts pieces)) ++ bytes_of (get_or pieces i d).now ∷ []
more_bytes pieces i d low =
    let here : i < length (texts pieces) = rw length-map low in
    rw (take_more (texts pieces) i [] here, map-append, get_or-map (λ piece. piece.now) pieces i d [] low) refl

pub more_read : {A : Type 0} (pieces : List (Bor (List ℕ))) (i : ℕ) (d : Bor (List ℕ)) (read : List (Vec ℕ A)) (next : Vec ℕ A) → i < length pieces
    → vec_items next ≡ bytes_of (get_or pieces i d).now → map vec_items read ≡ map bytes_of (take i (texts pieces))
    → map vec_items (read ++ next ∷ []) ≡ map bytes_of (take (i + 1) (texts pieces))
more_read pieces i d read next low is before = rw (map_push, before, is, more_bytes pieces i d low) refl

-- there is at least one piece
pub some_piece : (field : List ℕ) → 0 < length (messages_of field)
some_piece field = let count = length-slice_split (λ byte. byte == 44) field in rw length-map (omega (arith, count))

-- messages that are within the limit of a record
pub within_all : (ms : List (List ℕ)) → are_messages ms ≡ true → AreWithin Second ms
within_all [] e = tt
within_all (m ∷ ms) e =
    let both = and_parts (leb (length m) (limit Second)) _ e in
    (leb-true _ _ both.0, within_all ms both.1)

frames_length-push : (ms : List (List ℕ)) (m : List ℕ) → frames_length (ms ++ m ∷ []) ≡ frames_length ms + (37 + length m)
frames_length-push [] m = omega arith
frames_length-push (first ∷ ms) m = omega (arith, frames_length-push ms m)

-- what is found of the first i pieces
pub record AreMeasured (pieces : List (Bor (List ℕ))) (i : ℕ) (bytes messages : Bool) (total records : ℕ) : Type 0 where
  pub bytes-is : bytes ≡ list_all is_bytes (take i (texts pieces))
  pub messages-is : list_all is_bytes (texts pieces) ≡ true → messages ≡ are_messages (map bytes_of (take i (texts pieces)))
  pub total-is : list_all is_bytes (texts pieces) ≡ true → total ≡ length (concat (map bytes_of (take i (texts pieces))))
  pub records-is : list_all is_bytes (texts pieces) ≡ true → records ≡ records_length (map bytes_of (take i (texts pieces)))

pub more_measured : (pieces : List (Bor (List ℕ))) (i : ℕ) (d : Bor (List ℕ)) (bytes messages here : Bool) (total records next : ℕ) → i < length pieces
    → here ≡ is_bytes (get_or pieces i d).now → (is_bytes (get_or pieces i d).now ≡ true → next ≡ length (bytes_of (get_or pieces i d).now))
    → AreMeasured pieces i bytes messages total records
    → AreMeasured pieces (i + 1) (bytes && here) (messages && leb next (limit Second)) (total + next) (records + (37 + next))
more_measured pieces i d bytes messages here total records next low here-is next-is before =
    let more = more_bytes pieces i d low in
    record {
      bytes-is = rw (list_all_more is_bytes (texts pieces) i [] (rw length-map low), get_or-map (λ piece. piece.now) pieces i d [] low, before.bytes-is, here-is) refl;
      messages-is = λ are. rw (more, list_all-append, ← before.messages-is are, ← next-is (is_bytes_at pieces i d are low), and_true) refl;
      total-is = λ are. rw (more, concat-append, length-append, append-nil, ← before.total-is are, ← next-is (is_bytes_at pieces i d are low)) refl;
      records-is = λ are. rw (more, frames_length-push, ← next-is (is_bytes_at pieces i d are low), before.records-is are) (omega arith);
    }

-- field i of the texts is the text of field i
pub ruleset field_laws = (get_or-map)

-- one more message that is shown
pub ruleset shown_laws = (append_assoc, flat_map-append, map-append, take_more)
