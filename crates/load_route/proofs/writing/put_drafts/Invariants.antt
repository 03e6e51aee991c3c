use Rattle.std.proofs.Common.{◌≡◌, ◌++◌}
use Rattle.load_route.specs.RouteText.{draft_text}
use Rattle.load_route.proofs.Rows.{left}
use Rattle.load_route.proofs.writing.put_drafts.Given as goal

-- what is written, and what is still to be written
abbrev pub invariant-loop-index : goal.invariant-loop-index
invariant-loop-index l = l.out.items ++ left draft_text l.index l.count ≡ l.fn.out.items ++ left draft_text 0 l.count
