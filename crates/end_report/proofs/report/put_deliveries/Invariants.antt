use Rattle.std.proofs.Common.{◌≡◌, ◌++◌, drop, length}
use Rattle.std.specs.List.{flat_map}
use Rattle.delivery_book.specs.Lookups.{numbers_of}
use Rattle.end_report.specs.Reports.{deliveries_text, delivery_text}
use Rattle.end_report.proofs.report.put_deliveries.Given as goal

-- what is printed, and what is still to be printed
abbrev pub invariant-loop-index : goal.invariant-loop-index
invariant-loop-index l = (l.index-end ≡ length (numbers_of l.book.known))
    × (l.out.items ++ flat_map (delivery_text l.book.known) (drop l.index (numbers_of l.book.known)) ≡ l.fn.out.items ++ deliveries_text l.book.known)
