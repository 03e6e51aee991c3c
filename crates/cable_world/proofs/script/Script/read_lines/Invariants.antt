use Rattle.std.proofs.Common.{◌≡◌, length}
use Rattle.plain_lines.specs.PlainText.{lines_in}
use Rattle.cable_world.specs.Reading.{script_in}
use Rattle.cable_world.specs.declared.reading.ScriptSoFar.TheVariants as parts
use Rattle.cable_world.proofs.script.Script.read_lines.Given as goal

abbrev pub invariant-loop-line : goal.invariant-loop-line
invariant-loop-line l = script_in l.lines l.so_far ≡ script_in (lines_in l.fn.text) parts.Nothing

abbrev pub decreases-loop-line : goal.decreases-loop-line
decreases-loop-line l = length l.lines.lines
