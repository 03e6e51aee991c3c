use Rattle.std.proofs.Common.{◌≡◌, map, take}
use Rattle.std.specs.Char.{to_ascii_uppercase}
use Rattle.dsd_values.proofs.writers.write_check.Given as goal

abbrev pub invariant-loop-digit : goal.invariant-loop-digit
invariant-loop-digit l = l.text.items ≡ map to_ascii_uppercase (take l.digit-index l.digit-items)
