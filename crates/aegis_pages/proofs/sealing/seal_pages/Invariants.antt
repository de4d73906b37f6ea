use Rattle.std.proofs.Common.{◌≡◌, ◌++◌}
use Rattle.aegis_storage.specs.Disk.{Writes, writes_of}
use Rattle.aegis_pages.specs.OpenFile.{Plaintexts}
use Rattle.aegis_pages.specs.Private.{plaintexts_in, Seals}
use Rattle.aegis_pages.proofs.ChangedFacts.{plaintexts_of}
use Rattle.aegis_pages.proofs.sealing.seal_pages.Given as goal

-- the contents so far are sealed
abbrev pub invariant-loop-number : goal.invariant-loop-number
invariant-loop-number g l = record {
  parts : (done : Plaintexts) × (more : Writes) × (done ++ plaintexts_of l.number-iterator ≡ plaintexts_in l.plaintexts)
      × (writes_of l.writes.items ≡ writes_of l.fn.writes.items ++ more) × Seals l.fn.layout done more;
}
