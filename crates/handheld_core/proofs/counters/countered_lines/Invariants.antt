use Rattle.std.proofs.Common.{◌≡◌, take}
use Rattle.handheld_core.specs.Choosing.{countered}
use Rattle.handheld_core.proofs.counters.countered_lines.Given as goal

abbrev pub invariant-loop-counted : goal.invariant-loop-counted
invariant-loop-counted l = l.lines ≡ countered l.seen.lines (take l.counted-index l.counters)
