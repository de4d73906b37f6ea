-- A sealed file has one list of messages, and so one contents.
use Rattle.std.proofs.Common.{◌≡◌, List, [], ◌++◌, ℕ, refl, sym, ap, subst, ◌∙◌, append_assoc}
use Rattle.std.proofs.lemmas.List.{append-nil}
use Rattle.std.specs.List.{concat}
use Rattle.aegis.proofs.Stepwise.{sealed_one_stream}
use Rattle.aegis.specs.RecordStream.{AreRecords}
use Rattle.aegis.specs.declared.record.version.Version.TheVariants.{Second}
use Rattle.aegis_files.specs.Opening.{IsSealedFile}
use Rattle.aegis_files.proofs.Pieces.{two_prefixes}

-- two files, of which one begins with the other
one_file : (key context file rest other a b : List ℕ) → (x : IsSealedFile key context a file) → (y : IsSealedFile key context b other) → other ≡ file ++ rest
    → (x.is.messages ≡ y.is.messages) × (rest ≡ [])
one_file key context file rest other a b x y more =
    let prefixes = two_prefixes x.prefix y.prefix (x.is.stream ++ rest) y.is.stream x.long y.long
    (sym (append_assoc x.prefix x.is.stream rest) ∙ ap (λ (l : List ℕ). l ++ rest) (sym x.is.file_is) ∙ sym more ∙ y.is.file_is) in
    let are : AreRecords Second key x.prefix context y.is.messages y.is.stream =
    subst (λ (l : List ℕ). AreRecords Second key l context y.is.messages y.is.stream) (sym prefixes.0) y.is.are in
    let one = sealed_one_stream key x.prefix context Second Second x.is.messages y.is.messages x.is.stream y.is.stream rest [] x.is.are are
    (prefixes.1 ∙ sym (append-nil y.is.stream)) in
    (one.1, one.2)

pub one_list : (key context file a b : List ℕ) → (x : IsSealedFile key context a file) → (y : IsSealedFile key context b file) → x.is.messages ≡ y.is.messages
one_list key context file a b x y = (one_file key context file [] file a b x y (sym (append-nil file))).0

pub one_contents : (key context file a b : List ℕ) → IsSealedFile key context a file → IsSealedFile key context b file → a ≡ b
one_contents key context file a b x y = x.is.contents_is ∙ ap concat (one_list key context file a b x y) ∙ sym y.is.contents_is

pub one_end : (key context file rest a b : List ℕ) → IsSealedFile key context a file → IsSealedFile key context b (file ++ rest) → rest ≡ []
one_end key context file rest a b x y = (one_file key context file rest (file ++ rest) a b x y refl).1
