-- One more digit.
use Rattle.std.proofs.Common.{◌≡◌, ◌+◌, ◌-◌, ◌*◌, ◌^◌, ◌<◌, ◌≤◌, ℕ, true, length, get_or, rules, arith, add-one}
use Rattle.std.proofs.Math.Nat.{pow-suc}
use Rattle.std.proofs.lemmas.Int.Digits.{digits_value_more}
use Rattle.std.proofs.lemmas.List.Sums.{AllPass-from_list_all}
use Rattle.std.specs.Char.{is_ascii_digit, digit_value}
use Rattle.aegis_lines.proofs.fields.decimal.Goals as goal

-- the codes of the digits
digit_bounds : (x : ℕ) → is_ascii_digit x ≡ true → (48 ≤ x) × (x ≤ 57)
digit_bounds x h = search rules

digit_value-digit : (x : ℕ) → 48 ≤ x → x ≤ 57 → digit_value x ≡ x - 48
digit_value-digit x low high = grind arith

-- a number, with one more digit
bound_more : (v d i : ℕ) → v < 10 ^ i → d ≤ 9 → v * 10 + d < 10 ^ (i + 1)
bound_more v d i h k = rw (add-one, pow-suc) (omega arith)

pub loop-digit-preserved : goal.loop-digit-preserved
loop-digit-preserved c =
    let i : ℕ = c.loop-digit.digit-index in
    let x : ℕ = get_or c.args.digits.now i 0 in
    let lt : c.loop-digit.digit-index < length c.args.digits.now = omega arith in
    let bounds : (48 ≤ x) × (x ≤ 57) = digit_bounds x (AllPass-from_list_all is_ascii_digit c.args.digits.now c.requires.digits i 0 lt) in
    let value : digit_value x ≡ x - 48 = digit_value-digit x bounds.0 bounds.1 in
    let more = digits_value_more 10 c.args.digits.now c.loop-digit.digit-index lt in
    record {
      read = cc;
      bound = bound_more c.loop-digit.value c.from.result i c.loop-digit.invariant.bound (omega (arith, bounds.0, bounds.1, c.from.ensures));
    }
