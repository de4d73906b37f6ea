-- What the bodies and their proofs use, and no public contract.
use Rattle.std.specs.Prelude.{ℕ, ℤ, Result, Ok, Err, ◌≤◌, List, [], length, take}
use Rattle.aegis_base.specs.Variant.{Variant}
use Rattle.aegis_c_calls.specs.declared.refusal.Refusal.{Refusal}
use Rattle.aegis_c_calls.specs.declared.state.State.{State}
use Rattle.aegis_c_calls.specs.Codes.{number_of, success}
use Rattle.aegis_c_calls.specs.PageCalls.{IsJournaling}
use Rattle.aegis_pages.specs.Commits.{IsOfCommit, head_bytes}
use Rattle.aegis_storage.specs.Disk.{Writes}
use Rattle.aegis_storage.specs.Journal.{IsJournal}
use Rattle.aegis_pages.specs.Layouts.{header_block_bytes}

-- of what a body returns
abbrev pub code_of : {Y : Type 0} → Result Y Refusal → ℤ
code_of (Ok _) = success
code_of (Err refusal) = number_of refusal

-- the same, and a whole journal under a key, each as one word, which the proofs of callers take from one call to the next
unfoldable pub IsJournaled : (key : List ℕ) (all rest : Writes) (st : State) (bytes : List ℕ) → Type 0
IsJournaled key all rest st bytes = IsJournaling key all rest st bytes

unfoldable pub IsWhole : (key : List ℕ) → Writes → (journal : List ℕ) → Type 0
IsWhole key writes journal = IsJournal key [] writes journal

-- the commit of the writes began or ended with the first bytes of the file, as one word too
unfoldable pub IsOwnCommit : Variant → (file : List ℕ) → Writes → Type 0
IsOwnCommit variant file writes = (header_block_bytes ≤ length file) × IsOfCommit (take (head_bytes variant) (take header_block_bytes file)) writes
