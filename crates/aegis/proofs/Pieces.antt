-- A message that is sealed piece by piece after the bytes of a stream.
use borrow.Rule.Slice.PartMut.{put_mid}
use Rattle.std.proofs.Common.{◌≡◌, ℕ, ◌-◌, List, [], ◌++◌, length, take, drop, sym, ap, ◌∙◌, append_assoc, arith}
use Rattle.std.proofs.lemmas.List.{append-nil, drop_at, length-append, nil_from_length, take_at, with_items_is}
use Rattle.std.specs.Prelude.{Vec}
use Rattle.std.specs.Vec.{with_items}
use Rattle.aegis_base.specs.Variant.{Aegis256}
use Rattle.aegis_base.specs.Message.{ciphertext, tag}
use Rattle.aegis_base.specs.Context.{Held, Stands}
use Rattle.aegis.specs.RecordResults.{sealing_of}
use Rattle.aegis.specs.RecordStream.{record_associated_data, nonce, sealed}
use Rattle.aegis.specs.declared.record.position.RecordPosition.{RecordPosition}
use Rattle.aegis.specs.declared.record.record_cipher.RecordCipher.{RecordCipher}
use Rattle.aegis.proofs.Sealed.{drop-past}

-- the nonce and the associated data of a record
abbrev pub nonce_of : RecordCipher → RecordPosition → List ℕ
nonce_of cipher position = nonce cipher.prefix.now position.number

abbrev pub data_of : RecordCipher → RecordPosition → ℕ → List ℕ
data_of cipher position flag = record_associated_data position flag cipher.context.now

-- an encryptor stands for this beginning of a record's message
abbrev pub StandsFor : RecordCipher → RecordPosition → ℕ → Held → List ℕ → Type 0
StandsFor cipher position flag encryptor m =
    Stands Aegis256 encryptor cipher.key.now (nonce_of cipher position) (data_of cipher position flag) m

-- of a record's message `rest` is to be sealed yet, and the ciphertext of the bytes before it follows what the stream held
pub record HasSealed (cipher : RecordCipher) (position : RecordPosition) (flag : ℕ) (message rest : List ℕ) (encryptor : Held) (before out : List ℕ) : Type 0 where
  pub done : List ℕ
  pub parts : done ++ rest ≡ message
  pub stands : StandsFor cipher position flag encryptor done
  pub bytes : encryptor.message_bytes ≡ length done
  pub items : out ≡ before ++ ciphertext Aegis256 cipher.key.now (nonce_of cipher position) (data_of cipher position flag) done

-- the piece that was appended
pub piece_is : (n : ℕ) (all out piece : List ℕ) → all ≡ out ++ piece → n ≡ length out → take (length all - n) (drop n all) ≡ piece
piece_is n all out piece e long =
    rw (e, drop_at out piece n (sym long)) (ap (λ (l : List ℕ). take (length (out ++ piece) - n) l) (sym (append-nil piece))
    ∙ take_at piece [] (length (out ++ piece) - n) (omega (arith, long, length-append out piece)))

-- what the stream holds once the piece is sealed there
pub piece_sealed : {Z : Type 0} (stream : Vec ℕ Z) (n : ℕ) (all out piece sealed : List ℕ) → all ≡ stream.items → stream.items ≡ out ++ piece → n ≡ length out
    → length sealed ≡ length piece → (with_items stream (put_mid n (length all - n) all sealed)).items ≡ out ++ sealed
piece_sealed stream n all out piece sealed is e long same =
    grind (arith, with_items_is, length-append, take_at, drop_at, drop-past, append-nil)

-- the ciphertext and the tag of all of a message
pub all_sealed : (cipher : RecordCipher) (position : RecordPosition) (flag : ℕ) (message rest : List ℕ) (encryptor : Held) (before out t all : List ℕ)
    → HasSealed cipher position flag message rest encryptor before out → length rest ≡ 0
    → ((m : List ℕ) → StandsFor cipher position flag encryptor m → t ≡ tag Aegis256 32 cipher.key.now (nonce_of cipher position) (data_of cipher position flag) m)
    → all ≡ out ++ t → all ≡ before ++ sealing_of cipher position flag message
unfolding sealed
all_sealed cipher position flag message rest encryptor before out t all has none is e =
    grind (arith, append-nil, nil_from_length, append_assoc)
