use Rattle.std.proofs.Common.{◌≡◌, ◌++◌, ◌∷◌, map, take, vec_items}
use Rattle.std.specs.Prelude.{flat_map}
use Rattle.aegis_lines.specs.Answer.{shown}
use Rattle.aegis_lines.proofs.records.opened_text.Given as goal

-- The text has the other messages so far.
abbrev pub invariant-loop-message : goal.invariant-loop-message
invariant-loop-message g l = l.text.items ≡ l.initial.text.items ++ flat_map (λ n. 44 ∷ shown n) (map vec_items (take l.message-index l.others))
