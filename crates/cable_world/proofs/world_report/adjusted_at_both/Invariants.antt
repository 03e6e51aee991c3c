use Rattle.std.proofs.Common.{◌≡◌, length}
use Rattle.delivery_book.specs.Lookups.{numbers_of}
use Rattle.cable_world.specs.WorldReports.{is_adjusted_at_both}
use Rattle.cable_world.proofs.Counted.{IsCountOf}
use Rattle.cable_world.proofs.world_report.adjusted_at_both.Given as goal

abbrev pub invariant-loop-index : goal.invariant-loop-index
invariant-loop-index l = (l.index-end ≡ length (numbers_of l.handheld.known)) × IsCountOf (is_adjusted_at_both l.handheld.known l.receiver.known) l.handheld.known l.index l.count
