use Rattle.std.proofs.Common.{◌≡◌, ◌++◌}
use Rattle.load_route.specs.Deliveries.{lines_of}
use Rattle.load_route.specs.RouteText.{item_text}
use Rattle.load_route.proofs.Rows.{left}
use Rattle.load_route.proofs.writing.put_items.Given as goal

-- what is written, and what is still to be written
abbrev pub invariant-loop-index : goal.invariant-loop-index
invariant-loop-index l = (l.index-end ≡ lines_of l.delivery) × (l.out.items ++ left (item_text l.delivery) l.index (lines_of l.delivery) ≡ l.fn.out.items ++ left (item_text l.delivery) 0 (lines_of l.delivery))
