-- The slices are the messages.
use Rattle.std.proofs.Common.{◌≡◌, ◌∙◌, ap, arith, length, map, vec_items}
use Rattle.std.proofs.lemmas.List.{length-map}
use Rattle.aegis_base.specs.Chunks.{texts}
use Rattle.aegis_lines.proofs.Pieces.{some_piece}
use Rattle.aegis_lines.proofs.records.answer_sealing.Goals as goal

pub seal_records-requires-clause-some : goal.seal_records-requires-clause-some
seal_records-requires-clause-some g c =
    let same = ap texts c.deref-3.ensures.value ∙ c.in_ok-slices.ensures.each ∙ ap (map vec_items) c.deref-2.ensures.value ∙ c.in_ok-messages.ensures in
    let count : length (texts c.deref-3.result.now) ≡ length c.deref-3.result.now = length-map c.deref-3.result.now (λ slice. slice.now) in
    omega (arith, some_piece c.field-4.result.now, ap length same, count)
