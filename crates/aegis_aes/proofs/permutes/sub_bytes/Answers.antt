-- Each step is a function of one byte. That their composition is SubBytes is computed for all 256 bytes.
use Rattle.std.proofs.Common.{ap, ◌/◌, ◌^◌, ◌∙◌, bit_xor}
use Rattle.std.proofs.lemmas.Simd.{splat_is_map}
use Rattle.aegis_aes.specs.Block.{block_at}
use Rattle.aegis_aes.specs.Permutes.{table_entry}
use Rattle.aegis_aes.specs.Round.{sub_bytes, substitute}
use Rattle.aegis_aes.specs.declared.permutes.TheConstants.{IN_HIGH, IN_LOW, INVERSE, OUT_ONE, OUT_TWO, SCALED}
use Rattle.aegis_aes.proofs.Nibbles.{all_substituted, changed, first, found, half, halves, inverse_places, lower, scaled_places, second, shifted, small, sum_of, themselves, total, upper, xor_places}
use Rattle.aegis_aes.proofs.Places.{block_at_map}
use Rattle.aegis_aes.proofs.permutes.sub_bytes.Goals as goal

-- the places of an inverse xored with those of the scaled quotient
pub look-requires-4 : goal.look-requires-4
look-requires-4 g c =
    (small g.row.N c.requires, (c.requires, xor_places (c.look-3.ensures.places inverse_places) (c.look-scaled.ensures.places scaled_places)))

pub look-requires-6 : goal.look-requires-6
look-requires-6 g c =
    (small g.row.N c.requires, (c.requires, xor_places (c.look-5.ensures.places inverse_places) (c.look-scaled.ensures.places scaled_places)))

pub look-requires-7 : goal.look-requires-7
look-requires-7 g c =
    (small g.row.N c.requires, (c.requires, xor_places (c.look-4.ensures.places inverse_places) (xor_places c.low-v.ensures.places c.low-u.ensures.places)))

pub look-requires-8 : goal.look-requires-8
look-requires-8 g c =
    (small g.row.N c.requires, (c.requires, xor_places (c.look-6.ensures.places inverse_places) c.low-v.ensures.places))

pub returns-clause-bytes : goal.returns-clause-bytes
returns-clause-bytes g c =
    let xs = c.args.bytes in
    let n = g.row.N in
    let long = c.fits-bytes.0 in
    let self = themselves xs n long in
    let in-low = found xs n long IN_LOW half (halves xs n long (λ x. x) self c.low.ensures.bits) c.look.ensures.entries in
    let in-high = found xs n long IN_HIGH (λ x. half (x / 2 ^ 4)) (halves xs n long (λ x. x / 2 ^ 4) (shifted xs n long (λ x. x) self) c.low-2.ensures.bits) c.look-2.ensures.entries in
    let both = sum_of xs n long (λ x. table_entry IN_LOW (half x)) (λ x. table_entry IN_HIGH (half (x / 2 ^ 4))) in-low in-high in
    let u = halves xs n long changed both c.low-u.ensures.bits in
    let v = halves xs n long (λ x. changed x / 2 ^ 4) (shifted xs n long changed both) c.low-v.ensures.bits in
    let both-sum = sum_of xs n long upper lower v u in
    let scaled = found xs n long SCALED lower u c.look-scaled.ensures.entries in
    let one = found xs n long INVERSE (λ x. bit_xor (table_entry INVERSE (upper x)) (table_entry SCALED (lower x)))
    (sum_of xs n long (λ x. table_entry INVERSE (upper x)) (λ x. table_entry SCALED (lower x)) (found xs n long INVERSE upper v c.look-3.ensures.entries) scaled) c.look-4.ensures.entries in
    let two = found xs n long INVERSE (λ x. bit_xor (table_entry INVERSE (total x)) (table_entry SCALED (lower x)))
    (sum_of xs n long (λ x. table_entry INVERSE (total x)) (λ x. table_entry SCALED (lower x)) (found xs n long INVERSE total both-sum c.look-5.ensures.entries) scaled) c.look-6.ensures.entries in
    let first-is = sum_of xs n long (λ x. table_entry INVERSE (bit_xor (table_entry INVERSE (upper x)) (table_entry SCALED (lower x)))) total one both-sum in
    let second-is = sum_of xs n long (λ x. table_entry INVERSE (bit_xor (table_entry INVERSE (total x)) (table_entry SCALED (lower x)))) upper two v in
    sum_of xs n long (λ x. bit_xor (table_entry OUT_ONE (first x)) (table_entry OUT_TWO (second x))) (λ _. 99)
    (sum_of xs n long (λ x. table_entry OUT_ONE (first x)) (λ x. table_entry OUT_TWO (second x)) (found xs n long OUT_ONE first first-is c.look-7.ensures.entries)
    (found xs n long OUT_TWO second second-is c.look-8.ensures.entries))
    (splat_is_map xs n 99 long)
    ∙ all_substituted xs c.fits-bytes.1

pub returns-clause-blocks : goal.returns-clause-blocks
unfolding sub_bytes
returns-clause-blocks g c p whole room =
    ap (λ x. block_at x p) (returns-clause-bytes g c) ∙ block_at_map substitute c.args.bytes g.row.N p c.fits-bytes.0 room
