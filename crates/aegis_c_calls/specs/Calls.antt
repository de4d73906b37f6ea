-- What each call does, for the variant that its number names, or its state has: the code that it returns, and the bytes at its
-- pointers before and after it. If no variant has the number, it changes nothing. A record has the name of its call; one in
-- place has that of the call for another buffer, whose input is what the buffer was.
use Rattle.std.specs.Prelude.{◌≡◌, ◌≢◌, ℕ, ℤ, List, [], Option, length, replicate, ◌+◌, ◌-◌, leb, drop, if◌then◌else◌, ◌≤◌, ◌∷◌, ◌++◌}
use Rattle.aegis_base.specs.Variant.{Variant, Family256, key_length, max_aead_bytes}
use Rattle.aegis_base.specs.Mac.{mac}
use Rattle.aegis_base.specs.Message.{Opens, ciphertext, keystream, seal, tag as tag_of, xor_keystream, erased_byte}
use Rattle.aegis_engine.specs.SavedContexts.{HasChecked, HasSealed, HasTaken, IsSaved}
use Rattle.aegis_c_calls.specs.Codes.{checking_role, chunk_code, context_code, decrypting_role, encrypting_role, ended_state, state_code, tag_code, head_code, lengths_code, mac_code, mac_final_code, mac_role, message_code, message_role, position_of, number_of, opened_code, opening_mark, record_code, sealing_mark, success, the, variant_code}
use Rattle.aegis_c_calls.specs.declared.refusal.Refusal.TheVariants.{InvalidTag, MessageTooLong, UnknownHeader}
use Rattle.aegis_c_calls.specs.declared.state.State.{State}
use Rattle.aegis.specs.RecordResults.{Begun, Progress, message_in, progress_at, record_of, with_message}
use Rattle.aegis.specs.declared.record.version.Version.TheVariants.{Second}
use Rattle.aegis_c_calls.specs.declared.record.state.RecordState.{RecordState}
use Rattle.aegis.specs.RecordStream.{AreRecords, header, length_at, limit, start_at, record_overhead, prefix_bytes}

-- The call encrypts the message `plain` to `new`, over `old`, and overwrites `tag` with the tag; or it changes nothing.
pub record Encrypt (variant : Option Variant) (key nonce ad plain old new tag tag' : List ℕ) (code : ℤ) : Type 0 where
  pub answered : code ≡ lengths_code variant (length key) (length nonce) (length plain) (length ad) (length tag)
  pub sealed : code ≡ success → (new, tag') ≡ seal (the variant) (length tag) key nonce ad plain
  pub kept : code ≢ success → (new ≡ old) × (tag' ≡ tag)

-- The call decrypts the ciphertext `sealed`, and overwrites `old` with the message `new`. If no message is sealed to the
-- ciphertext and the tag, it erases every byte; and if a length is wrong, it changes nothing.
pub record Decrypt (variant : Option Variant) (key nonce ad sealed old new tag : List ℕ) (code : ℤ) : Type 0 where
  pub answered : code ≢ number_of InvalidTag → code ≡ lengths_code variant (length key) (length nonce) (length sealed) (length ad) (length tag)
  pub lengths : code ≡ number_of InvalidTag → lengths_code variant (length key) (length nonce) (length sealed) (length ad) (length tag) ≡ success
  pub opened : code ≡ success → Opens (the variant) (length tag) key nonce ad sealed tag new
  pub accepted : (m : List ℕ) → Opens (the variant) (length tag) key nonce ad sealed tag m → code ≢ number_of InvalidTag
  pub erased : code ≡ number_of InvalidTag → new ≡ replicate (length old) erased_byte
  pub kept : code ≢ success → code ≢ number_of InvalidTag → new ≡ old

-- The call overwrites `old` with keystream; or it changes nothing.
pub record Stream (variant : Option Variant) (key nonce old new : List ℕ) (code : ℤ) : Type 0 where
  pub answered : code ≡ variant_code variant (length key) (length nonce) success
  pub done : code ≡ success → new ≡ keystream (the variant) key nonce (length old)
  pub kept : code ≢ success → new ≡ old

-- The call xors `old` with keystream; or it changes nothing.
pub record StreamXorInPlace (variant : Option Variant) (key nonce old new : List ℕ) (code : ℤ) : Type 0 where
  pub answered : code ≡ variant_code variant (length key) (length nonce) success
  pub done : code ≡ success → new ≡ xor_keystream (the variant) key nonce old
  pub kept : code ≢ success → new ≡ old

-- The call overwrites `old` with the MAC of `input`; or it changes nothing.
pub record Mac (variant : Option Variant) (key nonce input old new : List ℕ) (code : ℤ) : Type 0 where
  pub answered : code ≡ mac_code variant (length key) (length nonce) (length input) (length old)
  pub made : code ≡ success → new ≡ mac (the variant) (length old) key nonce input
  pub kept : code ≢ success → new ≡ old

-- The call returns `success` exactly if `expected` is the MAC of `input`, unless a length is wrong.
pub record MacVerify (variant : Option Variant) (key nonce input expected : List ℕ) (code : ℤ) : Type 0 where
  pub answered : code ≢ number_of InvalidTag → code ≡ mac_code variant (length key) (length nonce) (length input) (length expected)
  pub lengths : code ≡ number_of InvalidTag → mac_code variant (length key) (length nonce) (length input) (length expected) ≡ success
  pub verified : code ≡ success → expected ≡ mac (the variant) (length expected) key nonce input
  pub accepted : expected ≡ mac (the variant) (length expected) key nonce input → code ≢ number_of InvalidTag

-- ---- Calls on a state that the caller keeps between them. A state has its variant and its role. For a state that
-- stands for nothing, a record states the code and what is unchanged.

-- the state of the same variant, whose role is now `role`
abbrev pub GoesOn : (old new : State) (role : ℕ) → Type 0
GoesOn old new role = (new.variant ≡ old.variant) × (new.role ≡ role)

-- The call begins a message with this associated data, or a MAC, by `role`; or it changes nothing.
pub record Begins (variant : Option Variant) (number role : ℕ) (key nonce ad : List ℕ) (old new : State) (code : ℤ) : Type 0 where
  pub answered : code ≡ variant_code variant (length key) (length nonce) (message_code 0 (length ad) success)
  pub begun : code ≡ success → IsSaved (the variant) new.context key nonce ad []
  pub empty : code ≡ success → ciphertext (the variant) key nonce ad [] ≡ []
  pub named : code ≡ success → (new.variant ≡ number) × (new.role ≡ role)
  pub kept : code ≢ success → new ≡ old

-- The call encrypts the next bytes `plain` of the message to `sealed`, over `before`; or it changes nothing.
pub record StateEncrypt (variant : Option Variant) (old new : State) (plain before sealed : List ℕ) (code : ℤ) : Type 0 where
  pub answered : code ≡ chunk_code variant old message_role encrypting_role (length plain)
  pub taken : code ≡ success → HasTaken (the variant) old.context new.context plain
  pub written : code ≡ success → HasSealed (the variant) old.context plain sealed
  pub goes_on : code ≡ success → GoesOn old new encrypting_role
  pub kept : code ≢ success → (new ≡ old) × (sealed ≡ before)

-- The call decrypts the next bytes `sealed` to `plain`, over `before`, while the tag is not known; or it changes nothing.
pub record StateDecryptUnverified (variant : Option Variant) (old new : State) (sealed before plain : List ℕ) (code : ℤ) : Type 0 where
  pub answered : code ≡ chunk_code variant old message_role decrypting_role (length sealed)
  pub taken : code ≡ success → HasTaken (the variant) old.context new.context plain
  pub written : code ≡ success → HasSealed (the variant) old.context plain sealed
  pub goes_on : code ≡ success → GoesOn old new decrypting_role
  pub kept : code ≢ success → (new ≡ old) × (plain ≡ before)

-- The call takes in the next bytes of the ciphertext without writing, or changes nothing. A message is checked or decrypted.
pub record StateDecryptCheck (variant : Option Variant) (old new : State) (sealed : List ℕ) (code : ℤ) : Type 0 where
  pub answered : code ≡ chunk_code variant old message_role checking_role (length sealed)
  pub checked : code ≡ success → HasChecked (the variant) old.context new.context sealed
  pub goes_on : code ≡ success → GoesOn old new checking_role
  pub state_kept : code ≢ success → new ≡ old

-- The call overwrites `tag` with the tag of the message, and ends the state; or it changes nothing.
pub record StateEncryptFinal (variant : Option Variant) (old new : State) (tag tag' : List ℕ) (code : ℤ) : Type 0 where
  pub answered : code ≡ state_code variant old message_role encrypting_role (tag_code (length tag))
  pub made : (key nonce ad m : List ℕ) → code ≡ success → IsSaved (the variant) old.context key nonce ad m → tag' ≡ tag_of (the variant) (length tag) key nonce ad m
  pub ended : code ≡ success → new ≡ ended_state
  pub kept : code ≢ success → (new ≡ old) × (tag' ≡ tag)

-- The call returns `success` exactly if the message is sealed to its ciphertext and this tag, unless a length or the state
-- is wrong. If no message is, it erases every byte of `opened`, which has as many as the message, or none, as after a check.
-- Both end the state; and if a length or the state is wrong, it changes nothing. It does not read `opened`: the message is
-- what the calls before have written (`StateDecryptUnverified`).
pub record StateDecryptFinal (variant : Option Variant) (old new : State) (opened opened' tag : List ℕ) (code : ℤ) : Type 0 where
  pub answered : code ≢ number_of InvalidTag → code ≡ opened_code variant old (length opened) (length tag)
  pub lengths : code ≡ number_of InvalidTag → opened_code variant old (length opened) (length tag) ≡ success
  pub right : (key nonce ad m : List ℕ) → code ≡ success → IsSaved (the variant) old.context key nonce ad m
      → Opens (the variant) (length tag) key nonce ad (ciphertext (the variant) key nonce ad m) tag m
  pub accepted : (key nonce ad m m' : List ℕ) → IsSaved (the variant) old.context key nonce ad m
      → Opens (the variant) (length tag) key nonce ad (ciphertext (the variant) key nonce ad m) tag m' → code ≢ number_of InvalidTag
  pub ended : code ≡ success → new ≡ ended_state
  pub refused : code ≡ number_of InvalidTag → new ≡ ended_state
  pub state_kept : code ≢ success → code ≢ number_of InvalidTag → new ≡ old
  pub erased : code ≡ number_of InvalidTag → opened' ≡ replicate (length opened) erased_byte
  pub kept : code ≢ number_of InvalidTag → opened' ≡ opened

-- The call takes in the next bytes of the input of a MAC; or it changes nothing.
pub record MacUpdate (variant : Option Variant) (old new : State) (input : List ℕ) (code : ℤ) : Type 0 where
  pub answered : code ≡ chunk_code variant old mac_role mac_role (length input)
  pub taken : code ≡ success → HasTaken (the variant) old.context new.context input
  pub goes_on : code ≡ success → GoesOn old new old.role
  pub state_kept : code ≢ success → new ≡ old

-- The call overwrites `old` with the MAC of the input so far; or it changes nothing.
pub record MacFinal (variant : Option Variant) (st : State) (old new : List ℕ) (code : ℤ) : Type 0 where
  pub answered : code ≡ mac_final_code variant st (length old)
  pub made : (key nonce x : List ℕ) → code ≡ success → IsSaved (the variant) st.context key nonce [] x → new ≡ mac (the variant) (length old) key nonce x
  pub kept : code ≢ success → new ≡ old

-- The call returns `success` exactly if `expected` is the MAC of the input so far, unless a length or the state is wrong.
pub record MacFinalVerify (variant : Option Variant) (st : State) (expected : List ℕ) (code : ℤ) : Type 0 where
  pub answered : code ≢ number_of InvalidTag → code ≡ mac_final_code variant st (length expected)
  pub lengths : code ≡ number_of InvalidTag → mac_final_code variant st (length expected) ≡ success
  pub verified : (key nonce x : List ℕ) → code ≡ success → IsSaved (the variant) st.context key nonce [] x → expected ≡ mac (the variant) (length expected) key nonce x
  pub accepted : (key nonce x : List ℕ) → IsSaved (the variant) st.context key nonce [] x → expected ≡ mac (the variant) (length expected) key nonce x → code ≢ number_of InvalidTag

-- ---- Calls on a record stream. A state stands for a stream of a context, which C passes to each call again.

-- the progress that a state is of, in a stream of this context
abbrev pub progress_of : RecordState → List ℕ → Progress
progress_of st context = progress_at st.key st.prefix context (position_of st)

-- a state at the record of this number, which so many bytes of messages come before
abbrev pub state_at : (mark number before : ℕ) (key prefix : List ℕ) → RecordState
state_at mark number before key prefix = record { mark = mark; number = number; before = before; key = key; prefix = prefix }

-- a state after its end: zeros
abbrev pub ended_stream : RecordState
ended_stream = state_at 0 0 0 (replicate (key_length Family256) 0) (replicate prefix_bytes 0)

-- the state after a record of so many bytes
abbrev pub after_record : RecordState → ℕ → RecordState
after_record st bytes = state_at st.mark (st.number + 1) (st.before + (bytes - record_overhead)) st.key st.prefix

-- The call begins to seal a stream, and writes its header; or it changes nothing.
pub record RecordBegin (key prefix context : List ℕ) (old new : RecordState) (bytes bytes' : List ℕ) (code : ℤ) : Type 0 where
  pub answered : code ≡ context_code (length context) success
  pub written : code ≡ success → bytes' ≡ header Second
  pub first : code ≡ success → new ≡ state_at sealing_mark 0 0 key prefix
  pub begun : code ≡ success → Begun (progress_of new context) [] bytes'
  pub kept : code ≢ success → (new ≡ old) × (bytes' ≡ bytes)

-- The call begins to open a stream, if this is its header; or it changes nothing.
pub record RecordBeginOpen (key prefix context : List ℕ) (old new : RecordState) (bytes : List ℕ) (code : ℤ) : Type 0 where
  pub answered : code ≢ number_of UnknownHeader → code ≡ context_code (length context) success
  pub known : bytes ≡ header Second → code ≢ number_of UnknownHeader
  pub unknown : bytes ≢ header Second → code ≡ number_of UnknownHeader
  pub first : code ≡ success → new ≡ state_at opening_mark 0 0 key prefix
  pub begun : code ≡ success → Begun (progress_of new context) [] bytes
  pub state_kept : code ≢ success → new ≡ old

-- The call begins to open a stream at this record, after so many bytes of messages, of which nothing is known; or changes nothing.
pub record RecordBeginOpenAt (key prefix context : List ℕ) (number before : ℕ) (old new : RecordState) (code : ℤ) : Type 0 where
  pub answered : code ≡ context_code (length context)
      (if leb (start_at (position_of (state_at opening_mark number before key prefix))) max_aead_bytes then success else number_of MessageTooLong)
  pub at : code ≡ success → new ≡ state_at opening_mark number before key prefix
  pub state_kept : code ≢ success → new ≡ old

-- The call seals the next message where it lies, and the bytes become its record; or it changes nothing.
pub record RecordSeal (context : List ℕ) (old new : RecordState) (bytes bytes' : List ℕ) (code : ℤ) : Type 0 where
  pub answered : code ≡ record_code old sealing_mark (length context) (length bytes)
  pub sealed : code ≡ success → bytes' ≡ record_of (progress_of old context) 0 (message_in bytes)
  pub after : code ≡ success → new ≡ after_record old (length bytes)
  pub begun : code ≡ success → (ms : List (List ℕ)) (before : List ℕ)
      → Begun (progress_of old context) ms before
      → Begun (progress_of new context) (ms ++ message_in bytes ∷ []) (before ++ bytes')
  pub kept : code ≢ success → (new ≡ old) × (bytes' ≡ bytes)

-- The call seals the last message where it lies, and ends the state; or it changes nothing.
pub record RecordSealLast (context : List ℕ) (old new : RecordState) (bytes bytes' : List ℕ) (code : ℤ) : Type 0 where
  pub answered : code ≡ record_code old sealing_mark (length context) (length bytes)
  pub sealed : code ≡ success → bytes' ≡ record_of (progress_of old context) 1 (message_in bytes)
  pub ended : code ≡ success → new ≡ ended_stream
  pub whole : code ≡ success → (ms : List (List ℕ)) (before : List ℕ)
      → Begun (progress_of old context) ms before
      → AreRecords Second old.key old.prefix context (ms ++ message_in bytes ∷ []) (before ++ bytes')
  pub kept : code ≢ success → (new ≡ old) × (bytes' ≡ bytes)

-- The call overwrites `old` with how many bytes the record has that begins with `head`; or it changes nothing.
pub record RecordLen (st : RecordState) (head : List ℕ) (old new : ℕ) (code : ℤ) : Type 0 where
  pub answered : code ≡ head_code st head
  pub found : code ≡ success → new ≡ record_overhead + length_at (drop 1 head)
  pub is_length : code ≡ success → (context : List ℕ) (flag : ℕ) (m body : List ℕ) → length m ≤ limit Second
      → head ++ body ≡ record_of (progress_of st context) flag m → new ≡ length (head ++ body)
  pub kept : code ≢ success → new ≡ old

-- The call opens the next record, which `bytes` are: its message is written over its ciphertext, and `flag` becomes 1
-- for the last record and 0 for another. After the last one it ends the state. If `bytes` are no next record it erases
-- them all, and keeps the state; and if the state or a length is wrong, it changes nothing.
pub record RecordOpen (context : List ℕ) (old new : RecordState) (bytes bytes' : List ℕ) (flag flag' : ℕ) (code : ℤ) : Type 0 where
  pub answered : code ≢ number_of InvalidTag → code ≡ record_code old opening_mark (length context) (length bytes)
  pub lengths : code ≡ number_of InvalidTag → record_code old opening_mark (length context) (length bytes) ≡ success
  pub known : code ≡ success → flag' ≤ 1
  -- the bytes are the record of this message, of no other, and of no other flag
  pub opened : code ≡ success → bytes ≡ record_of (progress_of old context) flag' (message_in bytes')
  pub one : code ≡ success → (f : ℕ) (m : List ℕ) → bytes ≡ record_of (progress_of old context) f m → (flag' ≡ f) × (message_in bytes' ≡ m)
  pub written : code ≡ success → bytes' ≡ with_message bytes (message_in bytes')
  pub accepted : (f : ℕ) (m : List ℕ) → f ≤ 1 → bytes ≡ record_of (progress_of old context) f m → code ≢ number_of InvalidTag
  -- whatever messages the stream began with, this is the next one, or the last one
  pub after : code ≡ success → flag' ≡ 0 → new ≡ after_record old (length bytes)
  pub begun : code ≡ success → flag' ≡ 0 → (ms : List (List ℕ)) (before : List ℕ)
      → Begun (progress_of old context) ms before
      → Begun (progress_of new context) (ms ++ message_in bytes' ∷ []) (before ++ bytes)
  pub ended : code ≡ success → flag' ≡ 1 → new ≡ ended_stream
  pub whole : code ≡ success → flag' ≡ 1 → (ms : List (List ℕ)) (before : List ℕ)
      → Begun (progress_of old context) ms before
      → AreRecords Second old.key old.prefix context (ms ++ message_in bytes' ∷ []) (before ++ bytes)
  pub erased : code ≡ number_of InvalidTag → bytes' ≡ replicate (length bytes) erased_byte
  pub kept : code ≢ success → code ≢ number_of InvalidTag → bytes' ≡ bytes
  pub state_kept : code ≢ success → (new ≡ old) × (flag' ≡ flag)
