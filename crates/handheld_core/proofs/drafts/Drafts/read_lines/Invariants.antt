use Rattle.std.proofs.Common.{◌≡◌, length}
use Rattle.plain_lines.specs.PlainText.{lines_in}
use Rattle.handheld_core.specs.Reading.{drafts_in, nothing}
use Rattle.handheld_core.proofs.drafts.Drafts.read_lines.Given as goal

abbrev pub invariant-loop-line : goal.invariant-loop-line
invariant-loop-line l = drafts_in l.lines l.so_far ≡ drafts_in (lines_in l.fn.text) nothing

abbrev pub decreases-loop-line : goal.decreases-loop-line
decreases-loop-line l = length l.lines.lines
