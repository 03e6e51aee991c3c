use Rattle.std.proofs.Common.{◌≡◌, ◌+◌, ◌-◌, ◌≤◌, length, drop}
use Rattle.std.specs.List.{position_or_len}
use Rattle.dex_line.specs.Bytes.{is_no_text}
use Rattle.dex_line.proofs.bytes.text_length.Given as goal

abbrev pub invariant-loop-size : goal.invariant-loop-size
invariant-loop-size l = record {
  inside : l.size ≤ length l.bytes;
  count : position_or_len is_no_text l.bytes ≡ l.size + position_or_len is_no_text (drop l.size l.bytes);
}

abbrev pub decreases-loop-size : goal.decreases-loop-size
decreases-loop-size l = length l.bytes - l.size
