use Rattle.std.proofs.Common.{◌≡◌, ◌<◌, ◌≤◌, ◌^◌, take}
use Rattle.std.specs.List.{position_or_len}
use Rattle.std.specs.Str.Parse.{digits_value}
use Rattle.dsd_values.specs.Reading.{is_no_digit}
use Rattle.dsd_values.proofs.number.digits.Given as goal

-- the number of the bytes so far, which are digits
abbrev pub invariant-loop-place : goal.invariant-loop-place
invariant-loop-place l = record {
  value : l.number ≡ digits_value 10 (take l.place l.text);
  under : l.number < 10 ^ l.place;
  digits : l.place ≤ position_or_len is_no_digit l.text;
}
