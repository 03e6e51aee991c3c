use Rattle.std.proofs.Common.{◌≡◌, ◌++◌, drop}
use Rattle.receiver_core.specs.Choosing.{added}
use Rattle.receiver_core.proofs.changes.push_added.Given as goal

abbrev pub invariant-loop-counted : goal.invariant-loop-counted
invariant-loop-counted l = l.changes ++ added l.seen.lines (drop l.counted-index l.counts) ≡ l.fn.changes ++ added l.seen.lines l.counts
