use Rattle.std.proofs.Common.{◌≡◌, replicate}
use Rattle.transaction_set.proofs.texts.control_digits.Given as goal

abbrev pub invariant-loop : goal.invariant-loop
invariant-loop l = l.text.items ≡ replicate l.counter 48
