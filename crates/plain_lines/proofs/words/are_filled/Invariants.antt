use Rattle.std.proofs.Common.{◌≡◌, ◌-◌, ◌≤◌, length, drop}
use Rattle.std.specs.List.{list_any}
use Rattle.plain_lines.specs.PlainText.{is_nothing, words_of}
use Rattle.plain_lines.proofs.words.are_filled.Given as goal

abbrev pub invariant-loop-number : goal.invariant-loop-number
invariant-loop-number l = record {
  inside : l.number ≤ length l.ends;
  filled : list_any is_nothing (words_of l.text) ≡ list_any is_nothing (drop l.number (words_of l.text));
}

abbrev pub decreases-loop-number : goal.decreases-loop-number
decreases-loop-number l = length l.ends - l.number
