-- The journal of writes, what recovery makes of a storage by it, and the errors of both.
use Rattle.std.specs.Prelude.{◌≡◌, ℕ, ◌+◌, ◌-◌, ◌^◌, ◌≤◌, ◌⊎◌, List, [], ◌++◌, IfSome, Option, Some, length, take, ◌<◌, None, Result, OnOk}
use Rattle.std.specs.Int.{to_le_bytes, w64}
use Rattle.std.specs.List.{AllByRecursion, flat_map}
use Rattle.aegis_base.specs.Mac.{mac}
use Rattle.aegis_base.specs.Variant.{Aegis128L, long_tag_bytes}
use Rattle.aegis_storage.specs.Disk.{CrashLeaves, Crashed, Disk, IfKnown, IsWithin, Writes, after_writes, certain}
use Rattle.std.specs.IoError.{error_kind}
use Rattle.std.specs.declared.io.Error.{Error}
use Rattle.std.specs.declared.io.ErrorKind.TheVariants.{AlreadyExists, InvalidData, InvalidInput, OutOfMemory, UnexpectedEof}

-- the last byte of a storage lies below this place, as in a file of Linux
abbrev pub max_storage_bytes : ℕ
max_storage_bytes = 2 ^ 63 - 1

-- how many bytes a journal has at most
abbrev pub max_journal_bytes : ℕ
max_journal_bytes = 2 ^ 60

-- a write in a journal: its place, its length and its bytes
abbrev pub entry : ℕ × List ℕ → List ℕ
entry write = to_le_bytes w64 write.0 ++ (to_le_bytes w64 (length write.1) ++ write.1)

-- the writes in a journal, one after the other
abbrev pub entries : Writes → List ℕ
entries writes = flat_map entry writes

-- no write passes the last place of a storage
abbrev pub AreWithinStorage : Writes → Type 0
AreWithinStorage writes = AllByRecursion (λ write. write.0 + length write.1 ≤ max_storage_bytes) writes

-- what the MAC of a journal is of: the context behind its length, and the writes
abbrev pub authenticated : (context content : List ℕ) → List ℕ
authenticated context content = to_le_bytes w64 (length context) ++ (context ++ content)

-- a journal: a beginning, a nonce, the writes, and the MAC; how many bytes the first has, and the first two
abbrev pub journal_beginning_bytes : ℕ
journal_beginning_bytes = 512

abbrev pub journal_start_bytes : ℕ
journal_start_bytes = 528

abbrev pub framed : (key beginning nonce context content : List ℕ) → List ℕ
framed key beginning nonce context content = beginning ++ (nonce ++ (content ++ mac Aegis128L long_tag_bytes key nonce (authenticated context content)))

-- how many bytes the journal of the writes has
abbrev pub journal_length : Writes → ℕ
journal_length writes = journal_beginning_bytes + (16 + (length (entries writes) + long_tag_bytes))

-- The bytes are a beginning, a nonce, this content, and its MAC under the nonce, the key and the context.
pub record IsFramed (key context content bytes : List ℕ) : Type 0 where
  pub beginning : List ℕ
  pub nonce : List ℕ
  pub beginning_size : length beginning ≡ journal_beginning_bytes
  pub nonce_size : length nonce ≡ 16
  pub fits : length bytes ≤ max_journal_bytes
  pub are : bytes ≡ framed key beginning nonce context content

-- The bytes are a journal of these writes.
pub record IsJournal (key context : List ℕ) (writes : Writes) (bytes : List ℕ) : Type 0 where
  pub within : AreWithinStorage writes
  pub framed : IsFramed key context (entries writes) bytes

-- Recovery of a storage that holds `old`, by what the journal holds, gives bytes of which P holds.
pub record Gives (key context journal old : List ℕ) (P : List ℕ → Type 0) : Type 0 where
  -- the writes of a whole journal are made again
  pub whole : (writes : Writes) → IsJournal key context writes journal → P (after_writes writes old)
  -- any other journal changes nothing
  pub other : ((writes : Writes) → IsJournal key context writes journal → ⊥) → P old

-- recovery by a known journal turns known bytes into what it gives
abbrev pub RecoversKnown : (key context : List ℕ) → (journal old new : Option (List ℕ)) → Type 0
RecoversKnown key context journal old new = IfSome journal (λ js. IfKnown (λ xs ys. Gives key context js xs (λ given. ys ≡ given)) old new)

abbrev pub IsOneOf : (a b bytes : List ℕ) → Type 0
IsOneOf a b bytes = (bytes ≡ a) ⊎ (bytes ≡ b)

-- recovery gives a or b
abbrev pub GivesOneOf : (key context a b journal old : List ℕ) → Type 0
GivesOneOf key context a b journal old = Gives key context journal old (IsOneOf a b)

-- The premise on what a crash leaves: if the bytes are a whole journal under the key and the context, then of these writes.
-- It excludes forgeries, which are found without the key by chance only, and older whole journals, which a disk may have.
abbrev pub IsNoOtherJournal : (key context : List ℕ) → Writes → List ℕ → Type 0
IsNoOtherJournal key context writes bytes = (found : Writes) → IsJournal key context found bytes → found ≡ writes

-- What the storage holds is certain, or the journal is certain, and is that of these writes.
abbrev pub IsSafe : (key context : List ℕ) → Writes → (storage journal : Disk) → Type 0
IsSafe key context writes storage journal =
    ((bytes : List ℕ) × IsWithin storage (certain bytes)) ⊎ ((bytes : List ℕ) × IsJournal key context writes bytes × IsWithin journal (certain bytes))

-- Whatever a crash now leaves of the storage and of the journal, unless it leaves another whole journal, recovery gives xs,
-- or xs with all the writes over it. Without a crash it does so too, whichever syncs have failed, since one of the two is certain.
pub record RecoversUnlessOtherJournal (key context xs : List ℕ) (writes : Writes) (storage journal : Option Disk) : Type 0 where
  pub storage_disk : Disk
  pub journal_disk : Disk
  pub storage_is : storage ≡ Some storage_disk
  pub journal_is : journal ≡ Some journal_disk
  pub gives : (ys js : List ℕ) → Crashed storage_disk ys → Crashed journal_disk js → IsNoOtherJournal key context writes js
      → GivesOneOf key context xs (after_writes writes xs) js ys
  pub safe : IsSafe key context writes storage_disk journal_disk

-- the bytes are at most 512, as many as the beginning of a journal, or begin with this beginning
abbrev pub HasBeginning : (beginning bytes : List ℕ) → Type 0
HasBeginning beginning bytes = (length bytes ≤ journal_beginning_bytes) ⊎ (take journal_beginning_bytes bytes ≡ beginning)

-- Whatever a crash now leaves of the journal has at most 512 bytes, or begins with this beginning. So the file of a
-- longer journal is known by its beginning, also if the journal is torn.
abbrev pub KeepsBeginning : (beginning : List ℕ) → (journal : Option Disk) → Type 0
KeepsBeginning beginning journal = CrashLeaves (HasBeginning beginning) journal

-- The storage holds xs and the journal is empty, and both are certain.
pub record IsAtRest (storage journal : Option Disk) (xs : List ℕ) : Type 0 where
  pub storage_is : storage ≡ Some (certain xs)
  pub journal_is : journal ≡ Some (certain [])

-- the same, with xs or with all the writes over it
pub record RestsAtEither (storage journal : Option Disk) (xs : List ℕ) (writes : Writes) : Type 0 where
  pub bytes : List ℕ
  pub one : IsOneOf xs (after_writes writes xs) bytes
  pub rests : IsAtRest storage journal bytes

-- ---- which error a call returns

-- memory ran out
abbrev pub IsOutOfMemory : Error → Type 0
IsOutOfMemory e = error_kind e ≡ OutOfMemory

-- n bytes were to be read from place `at` on, and the storage, where its bytes are known, has fewer
abbrev pub IsPastEnd : Option (List ℕ) → (at n : ℕ) → Error → Type 0
IsPastEnd bytes at n e = (error_kind e ≡ UnexpectedEof) × IfSome bytes (λ xs. length xs < at + n)

-- the journal of the writes would be too long
abbrev pub IsTooLong : Writes → Error → Type 0
IsTooLong writes e = (error_kind e ≡ InvalidInput) × (max_journal_bytes < journal_length writes)

-- Of a commit: a call on one of the two returned it, memory ran out, the journal had bytes, or that of the writes is too long.
abbrev pub IsCommitError : (of_storage of_journal : Error → Type 0) → (journal : Option (List ℕ)) → Writes → Error → Type 0
IsCommitError of_storage of_journal journal writes e =
    of_storage e ⊎ (of_journal e ⊎ (IsOutOfMemory e ⊎ (((error_kind e ≡ AlreadyExists) × IfSome journal (λ js. 0 < length js)) ⊎ IsTooLong writes e)))

-- What a commit of n writes finds before it writes: by its result, the bytes of the journal, and both before and after it.
pub record Checks {Y S J : Type 0} (result : Result Y Error) (bytes : Option (List ℕ)) (n : ℕ) (writes : Writes) (old new : S) (journal journal' : J) : Type 0 where
  -- with `Ok` the journal was empty, unless there was nothing to write
  pub empty : OnOk result (0 < n → IfSome bytes (λ js. length js ≡ 0))
  -- if it was not, or would be too long, both are as they were
  pub occupied : IfSome bytes (λ js. 0 < length js → (new ≡ old) × (journal' ≡ journal))
  pub too_long : max_journal_bytes < journal_length writes → (new ≡ old) × (journal' ≡ journal)

-- Of reading all bytes: a call returned it, memory ran out, there are too many, or they ended early, which known bytes do not.
abbrev pub IsReadAllError : (of_storage : Error → Type 0) → Option (List ℕ) → Error → Type 0
IsReadAllError of_storage bytes e =
    of_storage e ⊎ (IsOutOfMemory e ⊎ (((error_kind e ≡ InvalidData) × IfSome bytes (λ xs. max_storage_bytes < length xs))
    ⊎ ((error_kind e ≡ UnexpectedEof) × (bytes ≡ None))))

-- Of a recovery: a call on the storage returned it, or reading the journal or another call on it did.
abbrev pub IsRecoverError : (of_storage of_journal : Error → Type 0) → (journal : Option (List ℕ)) → Error → Type 0
IsRecoverError of_storage of_journal journal e = of_storage e ⊎ IsReadAllError of_journal journal e
