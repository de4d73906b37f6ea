use Rattle.std.proofs.Common.{◌≡◌, ◌++◌, ◌∙◌, ap, arith, length, List, ℕ}
use Rattle.std.proofs.lemmas.List.{append_assoc}
use Rattle.std.specs.Int.{to_le_bytes, w64}
use Rattle.aegis_storage.proofs.Journals.{entries_taken}
use Rattle.aegis_storage.proofs.journal.append_writes.Goals as goal

joined : (start done place count bytes a b c d : List ℕ) → a ≡ start ++ done → b ≡ a ++ place → c ≡ b ++ count → d ≡ c ++ bytes → d ≡ start ++ (done ++ (place ++ (count ++ bytes)))
joined start done place count bytes a b c d p q r s = rw (s, r, q, p) (simp append_assoc)

pub loop-write-preserved : goal.loop-write-preserved
loop-write-preserved g c =
    let more = entries_taken c.args.writes.now c.loop-write.write-index c.write-item.result c.deref.result.now c.loop-write-test.true c.write-item.is c.deref.ensures.value in
    let count : c.to_le_bytes-in-loop-write.result ≡ to_le_bytes w64 (length c.deref.result.now) = c.to_le_bytes-in-loop-write.ensures ∙ ap (to_le_bytes w64) (grind arith) in
    rw more
    (joined _ _ _ _ _ _ _ _ _ c.loop-write.invariant (rw c.to_le_bytes.ensures at c.in_ok-extend_from_slice.ensures.items) (rw count at c.in_ok-extend_from_slice-2.ensures.items)
    c.in_ok-extend_from_slice-3.ensures.items)
