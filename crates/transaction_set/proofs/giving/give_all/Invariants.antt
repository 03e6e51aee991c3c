use Rattle.std.proofs.Common.{map}
use Rattle.transaction_set.proofs.GivenRows.{IsGivenTo}
use Rattle.transaction_set.proofs.giving.give_all.Given as goal

abbrev pub invariant-loop-element : goal.invariant-loop-element
invariant-loop-element l = IsGivenTo l.fn.segments l.segments (map (λ e. e.now) l.elements) l.element-index
