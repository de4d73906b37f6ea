-- What a state stands for, before its first record and after one more.
use Rattle.std.proofs.Common.{◌≡◌, ℕ, ◌+◌, ◌-◌, ◌∙◌, ◌≤◌, List, [], ◌∷◌, ◌++◌, length, ap, arith}
use Rattle.aegis.specs.RecordResults.{Begun, record_of}
use Rattle.aegis.specs.RecordStream.{AreRecords, header}
use Rattle.aegis.specs.declared.record.version.TheConstants.{MAX_MESSAGE_BYTES}
use Rattle.aegis.specs.declared.record.version.Version.TheVariants.{Second}
use Rattle.aegis.proofs.Stepwise.{begun_last, begun_more, begun_none, length-record}
use Rattle.aegis_c_calls.specs.Calls.{after_record, progress_of, state_at}
use Rattle.aegis_c_calls.specs.Codes.{position_of}
use Rattle.aegis_c_calls.specs.declared.record.state.RecordState.{RecordState}

pub first_begun : (st : RecordState) (mark : ℕ) (key prefix context bytes : List ℕ) → st ≡ state_at mark 0 0 key prefix
    → bytes ≡ header Second → Begun (progress_of st context) [] bytes
first_begun st mark key prefix context bytes is e = rw is (begun_none key prefix context Second bytes e)

message_long : (st : RecordState) (context : List ℕ) (flag : ℕ) (m bytes : List ℕ) → bytes ≡ record_of (progress_of st context) flag m
    → length bytes ≡ 37 + length m
message_long st context flag m bytes e = ap length e ∙ length-record st.key st.prefix context (position_of st) flag m

pub next_begun : (st st' : RecordState) (context : List ℕ) (n : ℕ) (m bytes : List ℕ) → st' ≡ after_record st n → n ≡ length bytes
    → length bytes ≤ 37 + MAX_MESSAGE_BYTES → bytes ≡ record_of (progress_of st context) 0 m
    → (ms : List (List ℕ)) (before : List ℕ) → Begun (progress_of st context) ms before
    → Begun (progress_of st' context) (ms ++ m ∷ []) (before ++ bytes)
next_begun st st' context n m bytes is ne low e ms before b =
    let long = message_long st context 0 m bytes e in
    rw (is, e) (begun_more (progress_of st context) (n - 37) m (omega arith) (omega arith) ms before b)

pub last_whole : (st : RecordState) (context m bytes : List ℕ) → length bytes ≤ 37 + MAX_MESSAGE_BYTES
    → bytes ≡ record_of (progress_of st context) 1 m
    → (ms : List (List ℕ)) (before : List ℕ) → Begun (progress_of st context) ms before
    → AreRecords Second st.key st.prefix context (ms ++ m ∷ []) (before ++ bytes)
last_whole st context m bytes low e ms before b =
    let long = message_long st context 1 m bytes e in
    rw e (begun_last (progress_of st context) m (omega arith) ms before b)
