use Rattle.std.proofs.Common.{◌≡◌, ◌<◌, ◌^◌, true, take}
use Rattle.std.specs.Char.{is_ascii_digit}
use Rattle.std.specs.List.{list_all}
use Rattle.std.specs.Str.Parse.{digits_value}
use Rattle.bsi_syntax.proofs.numbers.read_long.Given as goal

-- the bytes so far are digits, and they write the value
abbrev pub invariant-digits : goal.invariant-digits
invariant-digits l = record {
  value_is : l.value ≡ digits_value 10 (take l.byte-index l.text);
  all_digits : list_all is_ascii_digit (take l.byte-index l.text) ≡ true;
  small : l.value < 2 ^ 64;
}
