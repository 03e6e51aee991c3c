use Rattle.std.proofs.Common.{◌≡◌, ◌-◌, ◌≤◌, ◌++◌, length, drop}
use Rattle.plain_lines.specs.PlainText.{ends_from, words_of}
use Rattle.plain_lines.proofs.words.ends_in.Given as goal

abbrev pub invariant-loop-place : goal.invariant-loop-place
invariant-loop-place l = record {
  inside : l.place ≤ length l.text;
  kept : l.ends.items ++ ends_from l.place (words_of (drop l.place l.text)) ≡ ends_from 0 (words_of l.text);
}

abbrev pub decreases-loop-place : goal.decreases-loop-place
decreases-loop-place l = length l.text - l.place
