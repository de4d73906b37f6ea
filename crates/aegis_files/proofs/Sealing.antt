-- The facts that hold between two pieces that are sealed, and those that hold if sealing fails.
use borrow.Rule.Slice.PartMut.{post_of, put_mid}
use Rattle.std.proofs.Common.{◌≡◌, ◌≢◌, ◌⊎◌, ℕ, ◌+◌, ◌-◌, ◌*◌, ◌<◌, ◌≤◌, Bool, true, false, List, [], ◌∷◌, ◌++◌, Option, None, Some, IfSome, drop, length, take, refl, sym, ap, subst, ◌∙◌, append_assoc, arith, inl, inr}
use Rattle.std.proofs.KnownBytes.{Consumes-trans}
use Rattle.std.proofs.lemmas.List.{append-nil, drop-take, drop_at, length-append, length-drop, length-take, take-append-drop, take-append-le, take-take, with_items_is}
use Rattle.std.proofs.lemmas.Nat.{le-div}
use Rattle.std.specs.Io.KnownBytes.{Appends, Consumes, IsAtEnd}
use Rattle.std.specs.Prelude.{Vec}
use Rattle.std.specs.Vec.{with_items}
use Rattle.std.specs.List.{concat}
use Rattle.aegis_base.specs.declared.error.TheConstants.{MAX_AEAD_BYTES}
use Rattle.aegis.proofs.Frames.{beginning_push, version_after, within_append}
use Rattle.aegis.proofs.Stepwise.{length-record, sealed_one_stream}
use Rattle.aegis.specs.declared.record.length.TheConstants.{RECORD_BYTES}
use Rattle.aegis.specs.declared.record.position.RecordPosition.{RecordPosition}
use Rattle.aegis.specs.declared.record.version.Version.TheVariants.{Second}
use Rattle.aegis.specs.RecordResults.{Progress, progress_after, last_flag, message_at, message_in, progress_at, record_of, start_of}
use Rattle.aegis.specs.RecordStream.{AreRecords, AreWithin, Sealing, beginning, first_position, frame, frames, header, position_after, sealed}
use Rattle.aegis_files.specs.declared.error.FileError.{FileError}
use Rattle.aegis_files.specs.declared.error.FileError.TheVariants.{TooLong}
use Rattle.aegis_files.specs.declared.seal.TheConstants.{PIECE_BYTES}
use Rattle.aegis_files.specs.Opening.{IsFileInPieces, IsSealedFile, IsWriteError, WritesFileBeginning, messages_for, piece_bytes, pieces_in, stream_length}
use Rattle.aegis_files.proofs.Cutting.{AreAll, AreFirst, IsCut, IsNextPiece, cut_end, cut_more, cut_none, first_messages, known_cut}
use Rattle.aegis_files.proofs.Filling.{put_long, put_part}
use Rattle.aegis_files.proofs.Pieces.{concat-push, read_some, some_with, two_prefixes}
use Rattle.aegis_files.proofs.Reaching.{Reaches, reaches_counts, reaches_more, reaches_none, reaches_size, reaches_stream}

-- the message of n bytes of a record in the buffer
pub length-message : (n : ℕ) (bytes : List ℕ) → RECORD_BYTES + n ≤ length bytes → length (message_at n bytes) ≡ n
length-message n bytes fits = omega (arith, length-take n (drop 5 bytes), length-drop 5 bytes)

pub message_cut : (n : ℕ) (bytes : List ℕ) → RECORD_BYTES + n ≤ length bytes → message_in (take (RECORD_BYTES + n) bytes) ≡ message_at n bytes
message_cut n bytes fits =
    let size : length (take (RECORD_BYTES + n) bytes) - 37 ≡ n = omega (arith, length-take (RECORD_BYTES + n) bytes) in
    let cut : RECORD_BYTES + n ≡ 5 + (32 + n) = omega arith in
    ap (λ (k : ℕ). message_at k (take (RECORD_BYTES + n) bytes)) size ∙ ap (λ (k : ℕ). message_at n (take k bytes)) cut
    ∙ ap (take n) (drop-take 5 (32 + n) bytes) ∙ take-take n (32 + n) (drop 5 bytes) (omega arith)

-- a piece was read to its place
pub piece_read : {Z : Type 0} (v : Vec ℕ Z) (all piece : List ℕ) (n : ℕ) (left left' : Option (List ℕ)) → length v.items ≡ RECORD_BYTES + PIECE_BYTES → all ≡ v.items
    → length piece ≡ length (take PIECE_BYTES (drop 5 all)) → n ≤ length piece → Consumes left left' (take n piece)
    → Consumes left left' (message_at n (with_items v (put_mid 5 PIECE_BYTES all piece)).items)
piece_read v all piece n left left' room is same within read =
    let fits : 5 + PIECE_BYTES ≤ length all = omega (arith, room, ap length is) in
    let whole : List ℕ = put_mid 5 PIECE_BYTES all piece in
    let after : List ℕ = post_of 5 PIECE_BYTES all in
    let kept = with_items_is v whole (omega (arith, put_long 5 PIECE_BYTES all piece fits same, ap length is, v.ok.0)) in
    subst (Consumes left left') (sym (ap (λ (l : List ℕ). message_at n l) kept
    ∙ ap (take n) (drop_at (take 5 all) (piece ++ after) 5 (omega (arith, length-take 5 all))) ∙ take-append-le n piece after within)) read

-- what reading a piece uses
pub ruleset piece_laws = (piece_read, put_part, put_long, with_items_is)

-- The messages were read from the contents, and a header and the records `sent` were written after the prefix.
pub record SealsSome (p : Progress) (key prefix context : List ℕ) (contents left old new : Option (List ℕ)) : Type 0 where
  pub messages : List (List ℕ)
  pub sent : List ℕ
  pub reaches : Reaches key prefix context (first_position Second) p false messages sent
  pub read : Consumes contents left (concat messages)
  pub written : Appends old new (prefix ++ (header Second ++ sent))
  pub cut : IsCut contents left messages
  -- there is room for the last record
  pub room : start_of p + 37 ≤ MAX_AEAD_BYTES

pub seals_begin : (p : Progress) (key prefix context : List ℕ) (contents old new : Option (List ℕ)) → p ≡ progress_at key prefix context (first_position Second)
    → Appends old new (prefix ++ header Second) → SealsSome p key prefix context contents contents old new
seals_begin p key prefix context contents old new is written = grind (arith, reaches_none, cut_none)

-- one more record was written
more_written : (prefix sent bytes : List ℕ) (old new new' : Option (List ℕ)) → Appends old new (prefix ++ (header Second ++ sent)) → Appends new new' bytes
    → Appends old new' (prefix ++ (header Second ++ (sent ++ bytes)))
more_written prefix sent bytes old new new' before written = grind (arith, append_assoc)

-- one more record, which may be the last one: no piece is too long for it
piece_reaches : (p q : Progress) (last : Bool) (key prefix context : List ℕ) (ms : List (List ℕ)) (sent m : List ℕ)
    → Reaches key prefix context (first_position Second) p false ms sent → q ≡ progress_after p last m → length m ≤ piece_bytes
    → Reaches key prefix context (first_position Second) q last (ms ++ m ∷ []) (sent ++ record_of p (last_flag last) m)
piece_reaches p q last key prefix context ms sent m r next piece =
    reaches_more key prefix context (first_position Second) p q last ms sent m r next (rw (r.reached, version_after (first_position Second) ms) (omega (arith, piece)))

-- one more piece was read
more_read : (contents left left' : Option (List ℕ)) (ms : List (List ℕ)) (m : List ℕ) → Consumes contents left (concat ms) → Consumes left left' m
    → Consumes contents left' (concat (ms ++ m ∷ []))
more_read contents left left' ms m before read = grind (arith, concat-push, Consumes-trans)

pub seals_more : (p q : Progress) (key prefix context : List ℕ) (contents left left' old new new' : Option (List ℕ)) (m bytes : List ℕ)
    → SealsSome p key prefix context contents left old new → Consumes left left' m → q ≡ progress_after p false m → bytes ≡ record_of p 0 m → Appends new new' bytes
    → IsNextPiece m left' → start_of q + 37 ≤ MAX_AEAD_BYTES → SealsSome q key prefix context contents left' old new'
seals_more p q key prefix context contents left left' old new new' m bytes s read next is written piece room = record {
  messages = s.messages ++ m ∷ [];
  sent = s.sent ++ record_of p 0 m;
  reaches = piece_reaches p q false key prefix context s.messages s.sent m s.reaches next piece.within;
  read = more_read contents left left' s.messages m s.read read;
  written = more_written prefix s.sent (record_of p 0 m) old new new' s.written (subst (Appends new new') is written);
  cut = cut_more contents left left' s.messages m s.read read s.cut piece;
  room = room;
}

-- ---- the contents end

-- the length of the file, whose stream has room for the last record
file_size : (p : Progress) (key prefix context t sent : List ℕ) (ms : List (List ℕ)) → length prefix ≡ 24 → Reaches key prefix context (first_position Second) p false ms sent → AreAll t ms
    → (length (prefix ++ (header Second ++ (sent ++ record_of p 1 []))) ≡ 24 + stream_length (length t)) × (stream_length (length t) ≡ start_of p + 37)
file_size p key prefix context t sent ms long r all =
    let c = reaches_counts key prefix context (first_position Second) p false ms sent r in
    let size = reaches_size key prefix context (first_position Second) p false ms sent r in
    let stream : stream_length (length t) ≡ start_of p + 37 = omega (arith, c.0, c.1, all.count, ap length all.whole) in (
      omega (
        arith,
        long,
        size,
        stream,
        length-append prefix (header Second ++ (sent ++ record_of p 1 [])),
        length-append (header Second) (sent ++ record_of p 1 []),
        length-append sent (record_of p 1 []),
        length-record p.key p.prefix p.context p.position 1 [],
      ),
      stream,
    )

pub seals_end : (p : Progress) (key prefix context : List ℕ) (contents left left' old new new' : Option (List ℕ)) (bytes : List ℕ) → length prefix ≡ 24
    → SealsSome p key prefix context contents left old new → Consumes left left' [] → IsAtEnd left' → bytes ≡ record_of p 1 []
    → Appends new new' bytes
    → IfSome contents (λ t. (file : List ℕ) × IsFileInPieces key prefix context t file × Appends old new' file)
seals_end p key prefix context contents left left' old new new' bytes long s read end is written =
    some_with contents _ _ (λ t all.
    let ms : List (List ℕ) = s.messages ++ [] ∷ [] in
    let bytes : List ℕ = s.sent ++ record_of p 1 [] in
    let q : Progress = progress_after p true [] in
    let size = file_size p key prefix context t s.sent s.messages long s.reaches all in (
      prefix ++ (header Second ++ bytes),
      record {
        is = record {
          messages = ms;
          stream = header Second ++ bytes;
          are = reaches_stream key prefix context q ms bytes (piece_reaches p q true key prefix context s.messages s.sent [] s.reaches refl (omega arith));
          contents_is = all.whole ∙ sym (concat-push s.messages [] ∙ append-nil (concat s.messages));
          file_is = refl;
        };
        pieces = ap (λ (l : List (List ℕ)). l ++ [] ∷ []) all.are;
        size = size.0;
        fits = omega (arith, size.1, s.room);
      },
      more_written prefix s.sent (record_of p 1 []) old new new' s.written (subst (Appends new new') is written),
    )) (cut_end contents left left' s.messages s.read read end s.cut)

-- ---- what was written, if it stops

-- no stream is a beginning of records that have no last one: with a last one they are another stream
no_stream : (key prefix context : List ℕ) (ms others : List (List ℕ)) (stream rest : List ℕ) → AreWithin Second ms
    → beginning (sealed key prefix context) Second 0 ms ≡ stream ++ rest → AreRecords Second key prefix context others stream → ⊥
no_stream key prefix context ms others stream rest within is are =
    let s : Sealing = sealed key prefix context in
    let at : RecordPosition = position_after (first_position Second) ms in
    let last : List ℕ = frame s at 1 [] in
    let all : List ℕ = beginning s Second 1 (ms ++ [] ∷ []) in
    let one = sealed_one_stream key prefix context Second Second others (ms ++ [] ∷ []) stream all (rest ++ last) [] are
    (record { some = omega (arith, length-append ms ([] ∷ [])); within = within_append Second ms ([] ∷ []) within (omega arith, tt); are = refl })
    (sym (append_assoc stream rest last) ∙ ap (λ (l : List ℕ). l ++ last) (sym is) ∙ sym (beginning_push s Second 1 ms []) ∙ sym (append-nil all)) in
    omega (arith, ap length one.2, length-append rest last, length-record key prefix context at 1 [])

no_records : (key prefix context : List ℕ) → beginning (sealed key prefix context) Second 0 [] ≡ beginning (sealed key prefix context) Second 1 []
unfolding frames
no_records key prefix context = refl

-- a beginning of a file is a file that opens only if it has the last record
pub opens_whole : (key prefix context begun rest other : List ℕ) (ms : List (List ℕ)) (flag : ℕ) (P Q : Type 0) → length prefix ≡ 24 → AreWithin Second ms
    → prefix ++ beginning (sealed key prefix context) Second flag ms ≡ begun ++ rest → (flag ≡ 0) ⊎ ((flag ≡ 1) × P × Q) → IsSealedFile key context other begun → (other ≡ concat ms) × P × Q
opens_whole key prefix context begun rest other ms flag P Q long within is ends file = by_flag ends
  where
    both : (prefix ≡ file.prefix) × (beginning (sealed key prefix context) Second flag ms ≡ file.is.stream ++ rest)
    both =
        two_prefixes prefix file.prefix (beginning (sealed key prefix context) Second flag ms) (file.is.stream ++ rest) long file.long
        (is ∙ ap (λ (l : List ℕ). l ++ rest) file.is.file_is ∙ append_assoc file.prefix file.is.stream rest)

    are : AreRecords Second key prefix context file.is.messages file.is.stream
    are = subst (λ (l : List ℕ). AreRecords Second key l context file.is.messages file.is.stream) (sym both.0) file.is.are

    beginning_is : (n : ℕ) → flag ≡ n → beginning (sealed key prefix context) Second n ms ≡ file.is.stream ++ rest
    beginning_is n e = ap (λ (k : ℕ). beginning (sealed key prefix context) Second k ms) (sym e) ∙ both.1

    whole : (l : List (List ℕ)) → ms ≡ l → beginning (sealed key prefix context) Second 1 ms ≡ file.is.stream ++ rest → other ≡ concat ms
    whole [] e all = absurd (no_stream key prefix context [] file.is.messages file.is.stream rest tt (no_records key prefix context ∙ subst (λ (l : List (List ℕ)). beginning (sealed key prefix context) Second 1 l ≡ file.is.stream ++ rest) e all) are)
    whole (m ∷ l) e all =
        let stream : List ℕ = beginning (sealed key prefix context) Second 1 ms in
        let one = sealed_one_stream key prefix context Second Second file.is.messages ms file.is.stream stream rest [] are
        (record { some = omega (arith, ap length e); within = within; are = refl }) (sym all ∙ sym (append-nil stream)) in
        file.is.contents_is ∙ ap concat one.1

    by_flag : (flag ≡ 0) ⊎ ((flag ≡ 1) × P × Q) → (other ≡ concat ms) × P × Q
    by_flag (inl zero) = absurd (no_stream key prefix context ms file.is.messages file.is.stream rest within (beginning_is 0 zero) are)
    by_flag (inr (one, p, q)) = (whole ms refl (beginning_is 1 one), p, q)

stops : (key prefix context t begun rest more : List ℕ) (ms : List (List ℕ)) (flag : ℕ) (old new : Option (List ℕ)) (e : FileError) → length prefix ≡ 24
    → AreWithin Second ms → prefix ++ beginning (sealed key prefix context) Second flag ms ≡ begun ++ rest → t ≡ concat ms ++ more → Appends old new begun
    → (after : List (List ℕ)) × (messages_for t ≡ ms ++ after)
    → (flag ≡ 0) ⊎ ((flag ≡ 1) × (t ≡ concat ms) × IsWriteError e) → (e ≡ TooLong → MAX_AEAD_BYTES < stream_length (length t))
    → WritesFileBeginning key prefix context t old new e
stops key prefix context t begun rest more ms flag old new e long within is contents written pieces ends too_long = record {
  begun = begun;
  written = written;
  messages = ms;
  flag = flag;
  of_file = (rest, is);
  of_contents = (more, contents);
  of_pieces = pieces;
  ends = ends;
  opens = λ other file.
      let it = opens_whole key prefix context begun rest other ms flag (t ≡ concat ms) (IsWriteError e) long within is ends file in
      (it.0 ∙ sym it.1, it.2);
  too_long = too_long;
}

pub written_in_time : (e : FileError) → IsWriteError e → e ≢ TooLong
written_in_time e (why, is) long = absurd cc

-- some bytes of the prefix and the header were written
pub stops_in_front : (key prefix context : List ℕ) (contents old new : Option (List ℕ)) (n : ℕ) (e : FileError) → length prefix ≡ 24 → e ≢ TooLong
    → Appends old new (take n (prefix ++ header Second)) → IfSome contents (λ t. WritesFileBeginning key prefix context t old new e)
unfolding frames
stops_in_front key prefix context None old new n e long time written = tt
stops_in_front key prefix context (Some t) old new n e long time written =
    let all : List ℕ = prefix ++ header Second in
    stops key prefix context t (take n all) (drop n all) t [] 0 old new e long tt (sym (take-append-drop n all)) refl written (messages_for t, refl) (inl refl) (λ it. absurd (time it))

-- some bytes of the records were written, none of them of the last one
sent_beginning : (p : Progress) (key prefix context t sent rest begun left : List ℕ) (ms : List (List ℕ)) (old new : Option (List ℕ)) (e : FileError) → length prefix ≡ 24
    → Reaches key prefix context (first_position Second) p false ms sent → prefix ++ (header Second ++ sent) ≡ begun ++ rest → t ≡ concat ms ++ left → Appends old new begun
    → AreFirst t ms left → (e ≡ TooLong → MAX_AEAD_BYTES < stream_length (length t)) → WritesFileBeginning key prefix context t old new e
sent_beginning p key prefix context t sent rest begun left ms old new e long r is contents written first too_long =
    stops key prefix context t begun rest left ms 0 old new e long r.within (ap (λ (l : List ℕ). prefix ++ (header Second ++ l)) (sym r.are) ∙ is) contents written
    (first_messages t left ms first) (inl refl) too_long

pub stops_between : (p : Progress) (key prefix context : List ℕ) (contents left old new : Option (List ℕ)) (e : FileError) → length prefix ≡ 24
    → e ≢ TooLong → SealsSome p key prefix context contents left old new → IfSome contents (λ t. WritesFileBeginning key prefix context t old new e)
stops_between p key prefix context contents left old new e long time s = read_some contents left (concat s.messages) _ s.read (λ t rest known is after.
    sent_beginning p key prefix context t s.sent [] (prefix ++ (header Second ++ s.sent)) rest s.messages old new e long s.reaches
    (sym (append-nil (prefix ++ (header Second ++ s.sent)))) is s.written (known_cut contents left t rest s.messages s.cut known after) (λ it. absurd (time it)))

-- the contents have more full pieces than the limit allows
pub stops_long : (p : Progress) (key prefix context : List ℕ) (contents left left' old new : Option (List ℕ)) (m : List ℕ) → length prefix ≡ 24
    → SealsSome p key prefix context contents left old new → Consumes left left' m → 0 < length m → MAX_AEAD_BYTES < start_of p + (74 + length m)
    → IfSome contents (λ t. WritesFileBeginning key prefix context t old new TooLong)
stops_long p key prefix context contents left left' old new m long s read some past = read_some contents left (concat s.messages) _ s.read (λ f rest known is left_is.
    let first = known_cut contents left f rest s.messages s.cut known left_is in
    sent_beginning p key prefix context f s.sent [] (prefix ++ (header Second ++ s.sent)) rest s.messages old new TooLong long s.reaches
    (sym (append-nil (prefix ++ (header Second ++ s.sent)))) is s.written first (λ it. past_limit f rest left' is (subst (λ l. Consumes l left' m) left_is read) first.full))
  where
    past_limit : (f rest : List ℕ) (left' : Option (List ℕ)) → f ≡ concat s.messages ++ rest → Consumes (Some rest) left' m
        → (length (concat s.messages) ≡ length s.messages * piece_bytes) ⊎ (rest ≡ []) → MAX_AEAD_BYTES < stream_length (length f)
    past_limit f rest None is read full = absurd read
    past_limit f rest (Some r) is read (inr over) = absurd (omega (arith, some, ap length read, ap length over, length-append m r))
    past_limit f rest (Some r) is read (inl full) =
        let c = reaches_counts key prefix context (first_position Second) p false s.messages s.sent s.reaches in
        let sizes = ap length is in
        let more = ap length read in
        let low : (length s.messages + 1) * piece_bytes ≤ length f + (piece_bytes - 1) =
        omega (arith, full, some, length-append (concat s.messages) rest, length-append m r) in
        let pieces : length s.messages + 1 ≤ pieces_in (length f) = le-div (length s.messages + 1) (length f + (piece_bytes - 1)) piece_bytes (omega arith) low in
        omega (arith, pieces, c.0, c.1, past, length-append (concat s.messages) rest, length-append m r)

-- some bytes of the next record were written
cut : (prefix sent out : List ℕ) (n : ℕ) → prefix ++ (header Second ++ (sent ++ out)) ≡ (prefix ++ (header Second ++ (sent ++ take n out))) ++ drop n out
cut prefix sent out n = grind (arith, take-append-drop, append_assoc)

-- what is read before the next record: a piece, or nothing more before the last one
abbrev pub IsNext : Bool → List ℕ → Option (List ℕ) → Type 0
IsNext false m left = IsNextPiece m left
IsNext true m left = (m ≡ []) × IsAtEnd left

pub stops_writing : (p : Progress) (last : Bool) (key prefix context : List ℕ) (contents left left' old new new' : Option (List ℕ)) (m bytes : List ℕ) (n : ℕ) (e : FileError)
    → length prefix ≡ 24 → SealsSome p key prefix context contents left old new → Consumes left left' m → IsNext last m left' → bytes ≡ record_of p (last_flag last) m
    → Appends new new' (take n bytes) → IsWriteError e → IfSome contents (λ t. WritesFileBeginning key prefix context t old new' e)
stops_writing p last key prefix context contents left left' old new new' m bytes n e long s read next is written why =
    let ms : List (List ℕ) = s.messages ++ m ∷ [] in
    let r = piece_reaches p (progress_after p last m) last key prefix context s.messages s.sent m s.reaches refl (short last next) in
    read_some contents left' (concat ms) _ (more_read contents left left' s.messages m s.read read) (λ t rest known contents_is left_is.
    stops key prefix context t (prefix ++ (header Second ++ (s.sent ++ take n bytes))) (drop n bytes) rest ms (last_flag last) old new' e long r.within
    (ap (λ (l : List ℕ). prefix ++ (header Second ++ l)) (sym r.are ∙ ap (λ (l : List ℕ). s.sent ++ l) (sym is)) ∙ cut prefix s.sent bytes n) contents_is
    (more_written prefix s.sent (take n bytes) old new new' s.written written)
    (pieces last next t rest known left_is) (ends last next t known) (λ it. absurd (written_in_time e why it)))
  where
    short : (last : Bool) → IsNext last m left' → length m ≤ piece_bytes
    short false next = next.within
    short true next = omega (arith, ap length next.0)

    all : IsNext true m left' → (t : List ℕ) → contents ≡ Some t → AreAll t s.messages
    all next t known =
        subst (λ c. IfSome c (λ t. AreAll t s.messages)) known (cut_end contents left left' s.messages s.read (subst (Consumes left left') next.0 read) next.1 s.cut)

    pieces : (last : Bool) → IsNext last m left' → (t rest : List ℕ) → contents ≡ Some t → left' ≡ Some rest → (more : List (List ℕ)) × (messages_for t ≡ (s.messages ++ m ∷ []) ++ more)
    pieces false next t rest known left_is =
        first_messages t rest (s.messages ++ m ∷ []) (known_cut contents left' t rest (s.messages ++ m ∷ []) (cut_more contents left left' s.messages m s.read read s.cut next) known left_is)
    pieces true next t rest known left_is =
        ([], ap (λ (l : List (List ℕ)). l ++ [] ∷ []) (sym (all next t known).are) ∙ ap (λ (l : List ℕ). s.messages ++ l ∷ []) (sym next.0) ∙ sym (append-nil (s.messages ++ m ∷ [])))

    ends : (last : Bool) → IsNext last m left' → (t : List ℕ) → contents ≡ Some t
        → (last_flag last ≡ 0) ⊎ ((last_flag last ≡ 1) × (t ≡ concat (s.messages ++ m ∷ [])) × IsWriteError e)
    ends false next t known = inl refl
    ends true next t known =
        inr (refl, (all next t known).whole ∙ sym (concat-push s.messages m ∙ ap (λ (l : List ℕ). concat s.messages ++ l) next.0 ∙ append-nil (concat s.messages)), why)
