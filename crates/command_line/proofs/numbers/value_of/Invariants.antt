use Rattle.std.proofs.Common.{◌≡◌, ◌<◌, ◌^◌, drop, true}
use Rattle.std.specs.List.{list_all}
use Rattle.cbase.specs.Bytes.{is_digit, decimal_value}
use Rattle.command_line.specs.Numbers.{decimal}
use Rattle.command_line.proofs.numbers.value_of.Given as goal

abbrev pub invariant-loop-digit : goal.invariant-loop-digit
invariant-loop-digit l = record {
  value : decimal_value l.value (drop l.digit-index l.digits) ≡ decimal l.digits;
  digits : list_all is_digit (drop l.digit-index l.digits) ≡ true;
  small : l.value < 10 ^ l.digit-index;
}
