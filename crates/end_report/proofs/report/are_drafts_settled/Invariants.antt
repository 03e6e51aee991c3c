use Rattle.std.proofs.Common.{◌≡◌, drop, length}
use Rattle.end_report.specs.Reports.{are_drafts_final}
use Rattle.end_report.proofs.report.are_drafts_settled.Given as goal

-- all are final where those are that were not looked at yet
abbrev pub invariant-loop-index : goal.invariant-loop-index
invariant-loop-index g l = (l.index-end ≡ length (g.D.Decider.chooser l.decider).drafts)
    × (are_drafts_final l.book.known (drop l.index (g.D.Decider.chooser l.decider).drafts) ≡ are_drafts_final l.book.known (g.D.Decider.chooser l.decider).drafts)
