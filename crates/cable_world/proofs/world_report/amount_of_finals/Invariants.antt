use Rattle.std.proofs.Common.{◌≡◌, ◌≤◌, ℕ, List, length}
use Rattle.dsd_journal.specs.declared.limits.TheConstants.{MOST_ENTRIES}
use Rattle.delivery_book.specs.Finals.{final_of}
use Rattle.delivery_book.specs.Lookups.{numbers_of}
use Rattle.cable_world.specs.WorldReports.{amount_of}
use Rattle.cable_world.proofs.Counted.{IsSumOf}
use Rattle.cable_world.proofs.world_report.amount_of_finals.Given as goal

abbrev pub invariant-loop-index : goal.invariant-loop-index
invariant-loop-index l =
    (l.index-end ≡ length (numbers_of l.book.known)) × (l.index-end ≤ MOST_ENTRIES) × IsSumOf (λ (number : List ℕ). amount_of (final_of l.book.known number)) 99_999_999_999 l.book.known l.index l.sum
