use Rattle.std.proofs.Common.{◌≡◌, ◌++◌}
use Rattle.load_route.specs.RouteText.{count_text}
use Rattle.load_route.proofs.Rows.{left}
use Rattle.load_route.proofs.writing.put_counts.Given as goal

-- what is written, and what is still to be written
abbrev pub invariant-loop-index : goal.invariant-loop-index
invariant-loop-index l = l.out.items ++ left count_text l.index l.count ≡ l.fn.out.items ++ left count_text 0 l.count
