use Rattle.std.proofs.Common.{length}
use Rattle.adjustment_895.specs.FirstRefusal.{judged}
use Rattle.adjustment_895.specs.Said.{nothing}
use Rattle.transaction_set.proofs.Taking.{StandsIn}
use Rattle.adjustment_895.proofs.from_text.read_895.Given as goal

-- what was taken stands before what is left of the text
abbrev pub invariant-loop-segment : goal.invariant-loop-segment
invariant-loop-segment l = StandsIn judged nothing l.fn.text l.reader l.segments

abbrev pub decreases-loop-segment : goal.decreases-loop-segment
decreases-loop-segment l = length l.segments.rest
