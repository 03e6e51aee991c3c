use Rattle.std.proofs.Common.{◌<◌, subst, arith}
use Rattle.dsd_journal.specs.declared.limits.TheConstants.{JOURNAL_BYTES}
use Rattle.dsd_journal.proofs.Places.{few_entries}
use Rattle.dsd_journal.proofs.entries.Entries.len.Goals as goal

pub returns-clause-most : goal.returns-clause-most
returns-clause-most c =
    let is = c.self.invariant in let below = subst (λ n. n < JOURNAL_BYTES) is.gate is.below in
    omega (arith, c.len.ensures, few_entries c.self.inside.list.items is.each below)
