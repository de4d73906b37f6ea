use Rattle.std.proofs.Common.{◌≡◌, ◌<◌, ◌^◌, take}
use Rattle.std.specs.Str.Parse.{digits_value}
use Rattle.aegis_lines.proofs.fields.decimal.Given as goal

-- The value so far is that of the digits so far, whose number bounds it.
abbrev pub invariant-loop-digit : goal.invariant-loop-digit
invariant-loop-digit l = record {
  read : l.value ≡ digits_value 10 (take l.digit-index l.digits);
  bound : l.value < 10 ^ l.digit-index;
}
