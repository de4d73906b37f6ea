-- A stream whose records are opened, and sealed again one after the other.
use Rattle.std.proofs.Common.{◌≡◌, ◌⊎◌, ℕ, ◌+◌, List, [], length, refl, sym, subst, ◌∙◌, Result, Ok, Err}
use Rattle.std.specs.Prelude.{IfErr, IfOk, Vec}
use Rattle.aegis.specs.declared.record.error.RecordError.{RecordError}
use Rattle.aegis.specs.declared.record.error.RecordError.TheVariants as errors
use Rattle.aegis.specs.declared.record.version.Version.{Version}
use Rattle.aegis.specs.declared.record.version.Version.TheVariants.{Second}
use Rattle.aegis.specs.RecordResults.{Begun, MigratesTo, Progress, start_of}
use Rattle.aegis.specs.Private.{IsUnder}
use Rattle.aegis.specs.RecordStream.{AreRecords, IsFault, sealed}
use Rattle.aegis.proofs.Frames.{one_record_stream, only_memory}
use Rattle.aegis.proofs.Lengths.{begun_start}
use Rattle.aegis.proofs.Sealed.{sealed-is}
use Rattle.aegis.proofs.Stepwise.{SoFar, so_far_long}

-- Of the bytes the records of these messages are opened, and sealed under the other prefix; `rest` is to be opened yet.
pub record Migrating (key old new context bytes : List ℕ) (opener sealer : Progress) (rest stream : List ℕ) : Type 0 where
  pub messages : List (List ℕ)
  pub opened : SoFar key old context opener messages rest bytes
  pub sealed : Begun sealer messages stream
  pub under : IsUnder key new context sealer
  pub fits : start_of opener + length rest ≡ length bytes
  pub same : start_of sealer ≡ start_of opener

pub migrating : (key old new context bytes : List ℕ) (p q : Progress) (rest stream : List ℕ) (ms : List (List ℕ)) → SoFar key old context p ms rest bytes
    → Begun q ms stream → IsUnder key new context q → Migrating key old new context bytes p q rest stream
migrating key old new context bytes p q rest stream ms s b under = record {
  messages = ms;
  opened = s;
  sealed = b;
  under = under;
  fits = so_far_long key old context p ms rest bytes s;
  same = begun_start q ms stream b ∙ sym (begun_start p ms s.before s.begun);
}

-- the stream of one list is sealed again as the stream of that list
pub migrates_to : {A : Type 0} (key old new context bytes : List ℕ) (v : Version) (ms : List (List ℕ)) (r : Result (Vec ℕ A) RecordError)
    → AreRecords v key old context ms bytes
    → IfOk r (λ stream. (w : Version) × (ns : List (List ℕ)) × AreRecords w key old context ns bytes × AreRecords Second key new context ns stream.items)
    → IfErr r (λ e. (e ≡ errors.OutOfMemory) ⊎ IsFault key old context bytes e) → MigratesTo key new context ms r
migrates_to key old new context bytes v ms (Ok stream) are good bad =
    subst (λ (l : List (List ℕ)). AreRecords Second key new context l stream.items)
    ((one_record_stream (sealed key old context) (sealed-is key old context) good.0 v good.1 ms bytes bytes [] [] good.2 are refl).1) good.3
migrates_to key old new context bytes v ms (Err e) are good bad = only_memory (sealed key old context) (sealed-is key old context) v ms bytes e are bad
