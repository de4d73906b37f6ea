use Rattle.std.proofs.Common.{◌≡◌, ◌+◌, ◌*◌, arith, ◌∙◌}
use Rattle.aegis_aes.proofs.Places.{bytes_at-part}
use Rattle.aegis_aes.proofs.row.AesBlockRow.load.Goals as goal

pub returns : goal.returns
returns c = λ j lt.
    let first : c.args.at + 16 * j ≡ c.args.at = omega arith in
    rw first (c.from_bytes.ensures ∙ bytes_at-part c.args.bytes.now c.args.at 16 _ (omega arith) (omega arith))
