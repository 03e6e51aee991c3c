use Rattle.std.proofs.Common.{◌≡◌, ◌++◌, drop}
use Rattle.receiver_core.specs.Choosing.{differing}
use Rattle.receiver_core.proofs.changes.push_differing.Given as goal

abbrev pub invariant-loop-line : goal.invariant-loop-line
invariant-loop-line l = l.changes ++ differing l.counts (drop l.line-index l.lines) ≡ l.fn.changes ++ differing l.counts l.lines
