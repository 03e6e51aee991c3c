use Rattle.std.proofs.Common.{◌≡◌, length, take}
use Rattle.std.specs.List.{filter}
use Rattle.delivery_book.specs.Lookups.{awaits_us, numbers_of}
use Rattle.own_turn.proofs.desk.Desk.awaiting.Given as goal

abbrev pub invariant-loop-index : goal.invariant-loop-index
invariant-loop-index l = record {
  so_far : l.numbers.items ≡ filter (awaits_us l.self.book.known) (take l.index (numbers_of l.self.book.known));
  end : l.index-end ≡ length (numbers_of l.self.book.known);
}
