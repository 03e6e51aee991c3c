use Rattle.transaction_set.proofs.Trimmed.{no_lines}
use Rattle.transaction_set.proofs.numbered_lines.NumberedLines.new.Goals as goal

pub invariant_of-result : goal.invariant_of-result
invariant_of-result c = no_lines _ _ c.new.ensures c.new-2.ensures.items
