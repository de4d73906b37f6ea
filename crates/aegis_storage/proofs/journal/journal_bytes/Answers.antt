use Rattle.std.proofs.Common.{◌≡◌, ◌++◌, ◌∙◌, ap, arith, drop, List, ℕ}
use Rattle.std.proofs.lemmas.Grind.{common_steps}
use Rattle.std.proofs.lemmas.List.{append_assoc, drop_at, length-append}
use Rattle.aegis_storage.specs.Journal.{entries}
use Rattle.aegis_storage.specs.Disk.{writes_of}
use Rattle.aegis_storage.proofs.Journals.{all_within}
use Rattle.aegis_storage.proofs.journal.journal_bytes.Goals as goal

pub returns-clause-journal : goal.returns-clause-journal
returns-clause-journal g c =
    let beginning = c.args.beginning.now in
    let nonce = c.args.nonce.now in
    let content : List ℕ = entries (writes_of c.args.writes.now) in
    let begun : c.append_writes.new.journal.items ≡ (beginning ++ nonce) ++ content = grind (arith, common_steps) in
    let last = c.split_at.ensures.back ∙ ap (drop 528) (c.deref.ensures.value ∙ begun) ∙ drop_at (beginning ++ nonce) content 528 (omega (arith, length-append beginning nonce)) in
    let tag = rw last at (c.finalize-mac.ensures c.args.key.now nonce _ c.mac_of.ensures) in rw (c.in_ok-extend_from_slice-3.ensures.items, begun, tag) (simp append_assoc)

pub returns-clause-whole : goal.returns-clause-whole
returns-clause-whole g c = record {
  within = all_within c.args.writes.now;
  framed = record {
    beginning = c.args.beginning.now;
    nonce = c.args.nonce.now;
    beginning_size = omega arith;
    nonce_size = omega arith;
    fits = grind (arith, common_steps);
    are = returns-clause-journal g c;
  };
}
