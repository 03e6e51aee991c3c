use Rattle.std.proofs.Common.{◌≡◌, fold, take}
use Rattle.own_turn.specs.DueSets.{with_spoken}
use Rattle.own_turn.proofs.asked.AskedSets.speak_each.Given as goal

abbrev pub invariant-loop-number : goal.invariant-loop-number
invariant-loop-number l = l.self ≡ fold with_spoken l.fn.self (take l.number-index l.numbers)
