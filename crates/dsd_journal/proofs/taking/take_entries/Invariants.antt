use Rattle.std.proofs.Common.{length}
use Rattle.dsd_journal.specs.Reading.{Takes}
use Rattle.dsd_journal.proofs.taking.take_entries.Given as goal

abbrev pub invariant-loop-next : goal.invariant-loop-next
invariant-loop-next l = Takes l.fn.entries.list l.entries.list l.bytes l.rest

abbrev pub decreases-loop-next : goal.decreases-loop-next
decreases-loop-next l = length l.rest
