use Rattle.dsd_journal.specs.Reading.{FitsBelow}
use Rattle.dsd_journal.proofs.header.first_misfit.Given as goal

abbrev pub invariant-loop-place : goal.invariant-loop-place
invariant-loop-place l = FitsBelow l.place l.bytes
