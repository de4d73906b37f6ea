use Rattle.std.proofs.Common.{◌≡◌, zero, suc, ◌+◌, ◌*◌, arith}
use Rattle.aegis_aes.proofs.Places.{block_at-kept}
use Rattle.aegis_aes.proofs.pair.Rows2Pair.store.Goals as goal

-- the first row stays as it was written, since the second write does not change the bytes below it
pub returns-clause-written : goal.returns-clause-written
returns-clause-written g c zero j low inside =
    let place : c.args.at + 16 * (0 * g.R.Row.LANES + j) ≡ c.args.at + 16 * j = omega arith in
    rw place (block_at-kept c.store.new.out c.store-2.new.out (c.args.at + 16 * j) (c.args.at + 16 * c.LANES.result) _
    (omega (arith, c.LANES.ensures)) c.store-2.ensures.below (c.store.ensures.written j inside))
returns-clause-written g c (suc zero) j low inside =
    let place : c.args.at + 16 * (1 * g.R.Row.LANES + j) ≡ c.args.at + 16 * c.LANES.result + 16 * j = omega (arith, c.LANES.ensures) in
    rw place (c.store-2.ensures.written j inside)
returns-clause-written g c (suc (suc h)) j low inside = absurd (omega arith)
