use Rattle.std.proofs.Common.{◌≡◌, length}
use Rattle.plain_lines.specs.PlainText.{lines_in}
use Rattle.receiver_core.specs.Reading.{counts_in, nothing}
use Rattle.receiver_core.proofs.counts.Counts.read_lines.Given as goal

abbrev pub invariant-loop-line : goal.invariant-loop-line
invariant-loop-line l = counts_in l.lines l.so_far ≡ counts_in (lines_in l.fn.text) nothing

abbrev pub decreases-loop-line : goal.decreases-loop-line
decreases-loop-line l = length l.lines.lines
