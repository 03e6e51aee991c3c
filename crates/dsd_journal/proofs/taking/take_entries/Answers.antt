use Rattle.dsd_journal.specs.declared.opening.OpenFault.TheVariants.{NotAJournal}
use Rattle.dsd_journal.proofs.Takes.{takes_then, meets_then, same_err}
use Rattle.dsd_journal.proofs.taking.take_entries.Goals as goal

pub returns-in_err-next-clause-bad : goal.returns-in_err-next-clause-bad
returns-in_err-next-clause-bad c = λ place is.
    meets_then c.args.entries.now.list c.loop-next.entries.list c.args.bytes.now c.loop-next.rest.now place c.loop-next.invariant
    (c.in_err-next.ensures.bad place (same_err _ _ _ c.from_residual.result c.in_err-next.field-0.0 (NotAJournal place) c.from_residual.ensures.1 is))

pub loop-next-preserved : goal.loop-next-preserved
loop-next-preserved c =
    takes_then c.args.entries.now.list c.loop-next.entries.list c.take_entry.new.entries.list c.args.bytes.now c.loop-next.rest.now c.in-Some.next.now c.loop-next.invariant (rw c.in-Some.is at c.in_ok-next.ensures.taken)
