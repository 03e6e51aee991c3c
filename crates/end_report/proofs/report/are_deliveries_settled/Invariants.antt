use Rattle.std.proofs.Common.{◌≡◌, drop, length}
use Rattle.delivery_book.specs.Lookups.{numbers_of}
use Rattle.end_report.specs.Reports.{are_numbers_final}
use Rattle.end_report.proofs.report.are_deliveries_settled.Given as goal

-- all are final where those are that were not looked at yet
abbrev pub invariant-loop-index : goal.invariant-loop-index
invariant-loop-index l = (l.index-end ≡ length (numbers_of l.named.known))
    × (are_numbers_final l.book.known (drop l.index (numbers_of l.named.known)) ≡ are_numbers_final l.book.known (numbers_of l.named.known))
