use Rattle.receiver_core.proofs.Worked.{at_first, at_second}
use Rattle.receiver_core.proofs.laws.choices_by_level.Goals as goal

pub returns-clause-first : goal.returns-clause-first
returns-clause-first c change changes counters = at_first change changes counters

pub returns-clause-second : goal.returns-clause-second
returns-clause-second c change changes counters = at_second change changes counters
