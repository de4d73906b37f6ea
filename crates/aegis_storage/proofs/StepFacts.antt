-- The order of the steps.
use Rattle.std.proofs.Common.{◌≡◌, ◌≢◌, ℕ, zero, suc, ◌+◌, ◌-◌, ◌<◌, ◌≤◌, ◌⊎◌, inl, inr, List, [], ◌∷◌, ◌++◌, length, map, take, zero-add, refl, ◌∙◌, arith}
use Rattle.std.proofs.lemmas.List.{get_or_append_left, get_or-append_right, take-append-le}
use Rattle.std.proofs.lemmas.List.FromFn.{get_or-map-range_with_len, length-map-range_with_len, take-map-range_with_len}
use Rattle.std.proofs.Math.Seq.{take-append-add}
use Rattle.std.specs.List.{range_with_len}
use Rattle.aegis_storage.specs.Steps.{commit_steps, recovery_steps, step_at, writing_steps}
use Rattle.aegis_storage.specs.declared.steps.Step.{Step}
use Rattle.aegis_storage.specs.declared.steps.Step.TheVariants.{Done, EmptyJournal, MakeWrite, ReplaceJournal, SyncJournal, SyncStorage, WriteBeginning, WriteRest}

abbrev pub makes : ℕ → List Step
makes n = map MakeWrite (range_with_len 0 n)

abbrev pub ends : List Step
ends = SyncStorage ∷ EmptyJournal ∷ SyncJournal ∷ []

pub long-makes : (n : ℕ) → length (makes n) ≡ n
long-makes n = length-map-range_with_len MakeWrite 0 n

pub step_making : (n k : ℕ) → k < n → step_at (writing_steps n) k ≡ MakeWrite k
step_making n k low =
    get_or_append_left (makes n) ends Done k (let long = long-makes n in omega (arith, long)) ∙ get_or-map-range_with_len MakeWrite 0 n k k Done low (zero-add k)

pub step_ended : (n k : ℕ) → n ≤ k → step_at (writing_steps n) k ≡ step_at ends (k - n)
step_ended n k high = get_or-append_right (makes n) ends n k Done (long-makes n) high

-- the steps of a commit from its first write on, and those of a recovery
pub commit_step_is : (n k : ℕ) → 4 ≤ k → step_at (commit_steps n) k ≡ step_at (writing_steps n) (k - 4)
commit_step_is n k high = get_or-append_right (WriteBeginning ∷ SyncJournal ∷ WriteRest ∷ SyncJournal ∷ []) (writing_steps n) 4 k Done refl high

pub recovery_none_is : (n k : ℕ) → n ≡ 0 → step_at (recovery_steps n) k ≡ step_at (SyncStorage ∷ SyncJournal ∷ EmptyJournal ∷ SyncJournal ∷ []) k
recovery_none_is n k none = rw none refl

pub recovery_some_is : (n k : ℕ) → n ≢ 0 → step_at (recovery_steps n) k ≡ step_at (SyncStorage ∷ ReplaceJournal ∷ writing_steps n) k
recovery_some_is zero k some = absurd (some refl)
recovery_some_is (suc n) k some = refl

pub recovery_step_is : (n k : ℕ) → n ≢ 0 → 2 ≤ k → step_at (recovery_steps n) k ≡ step_at (writing_steps n) (k - 2)
recovery_step_is n k some high = recovery_some_is n k some ∙ get_or-append_right (SyncStorage ∷ ReplaceJournal ∷ []) (writing_steps n) 2 k Done refl high

-- m is at most n, or comes after it
pub far : (m n : ℕ) → (m ≤ n) ⊎ ((j : ℕ) × (m ≡ n + suc j))
far zero n = inl (omega arith)
far (suc m) zero = inr (m, omega arith)
far (suc m) (suc n) = elim (far m n) [ inl low ↦ inl (omega arith) | inr more ↦ inr (more.0, (let is = more.1 in omega (arith, is))) ]

pub take_making : (n m : ℕ) → m ≤ n → take m (writing_steps n) ≡ makes m
take_making n m low = take-append-le m (makes n) ends (let long = long-makes n in omega (arith, long)) ∙ take-map-range_with_len MakeWrite 0 n m low

pub take_ended : (n j : ℕ) → take (n + j) (writing_steps n) ≡ makes n ++ take j ends
take_ended n j = rw long-makes at (take-append-add (makes n) ends j)
