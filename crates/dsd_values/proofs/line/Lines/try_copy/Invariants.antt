use Rattle.std.proofs.Common.{◌≡◌, length, take, vec_capacity}
use Rattle.dsd_values.proofs.line.Lines.try_copy.Given as goal

abbrev pub invariant-loop-item : goal.invariant-loop-item
invariant-loop-item l = record {
  so_far : l.items.items ≡ take l.item-index l.item-items;
  room : vec_capacity l.items ≡ length l.item-items;
}
