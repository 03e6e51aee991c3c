use Rattle.std.proofs.Common.{◌≡◌, ◌≤◌, ℕ, List, length}
use Rattle.dsd_journal.specs.declared.limits.TheConstants.{MOST_ENTRIES}
use Rattle.delivery_book.specs.Finals.{final_of}
use Rattle.delivery_book.specs.Lookups.{numbers_of}
use Rattle.cable_world.specs.WorldReports.{quantity_of}
use Rattle.cable_world.proofs.Counted.{IsSumOf}
use Rattle.cable_world.proofs.world_report.quantity_of_finals.Given as goal

abbrev pub invariant-loop-index : goal.invariant-loop-index
invariant-loop-index l =
    (l.index-end ≡ length (numbers_of l.book.known)) × (l.index-end ≤ MOST_ENTRIES) × IsSumOf (λ (number : List ℕ). quantity_of (final_of l.book.known number)) 4_294_967_295 l.book.known l.index l.sum
