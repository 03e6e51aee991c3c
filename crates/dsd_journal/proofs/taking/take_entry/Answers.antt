use Rattle.std.proofs.Common.{◌≡◌, ℕ, subst}
use Rattle.dsd_journal.specs.Reading.{IsBad}
use Rattle.dsd_journal.proofs.Takes.{meets_here}
use Rattle.dsd_journal.proofs.taking.take_entry.Goals as goal

pub returns-in-Err-clause-bad : goal.returns-in-Err-clause-bad
returns-in-Err-clause-bad c = λ place is.
    let same : c.in-Err.place ≡ place = cc in
    meets_here c.args.entries.now.list c.in-Some.behind.now c.args.bytes.now c.gate.result place c.in-Some.ensures c.gate.ensures.value c.gate.ensures.below
    (subst (λ (p : ℕ). IsBad c.gate.result c.in-Some.behind.now p) same c.in-Err.ensures.bad)
