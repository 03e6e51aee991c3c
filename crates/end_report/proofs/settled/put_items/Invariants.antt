use Rattle.std.proofs.Common.{◌≡◌, ◌++◌, drop}
use Rattle.std.specs.Prelude.{All}
use Rattle.std.specs.List.{flat_map}
use Rattle.transaction_set.specs.Extras.{HasExtras}
use Rattle.end_report.specs.Reports.{item_line}
use Rattle.end_report.proofs.settled.put_items.Given as goal

-- what is printed, and what is still to be printed
abbrev pub invariant-loop-item : goal.invariant-loop-item
invariant-loop-item l = (l.out.items ++ flat_map item_line (drop l.item-index l.version.lines) ≡ l.fn.out.items ++ flat_map item_line l.version.lines)
    × All HasExtras (drop l.item-index l.version.lines)
