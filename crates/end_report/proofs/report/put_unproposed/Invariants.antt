use Rattle.std.proofs.Common.{◌≡◌, ◌++◌, drop, length}
use Rattle.end_report.specs.Reports.{unproposed_text}
use Rattle.end_report.proofs.report.put_unproposed.Given as goal

-- what is printed, and what is still to be printed
abbrev pub invariant-loop-index : goal.invariant-loop-index
invariant-loop-index g l = (l.index-end ≡ length (g.D.Decider.chooser l.decider).drafts)
    × (l.out.items ++ unproposed_text l.book.known (drop l.index (g.D.Decider.chooser l.decider).drafts) ≡ l.fn.out.items ++ unproposed_text l.book.known (g.D.Decider.chooser l.decider).drafts)
