use Rattle.std.proofs.Common.{◌%◌, ◌++◌, get_or, ◌∙◌, arith}
use Rattle.std.proofs.lemmas.List.FromFn.{get_or-map-range_with_len}
use Rattle.std.proofs.lemmas.List.{get_or_append_left}
use Rattle.aegis_aes.proofs.permutes.twice.Goals as goal

pub returns : goal.returns
returns c = λ i l.
    let all = c.args.bytes in
    get_or-map-range_with_len (λ j. get_or (all ++ all) (j % 16) 0) 0 32 i i 0 l (omega arith)
    ∙ get_or_append_left all all 0 (i % 16) (omega arith)
