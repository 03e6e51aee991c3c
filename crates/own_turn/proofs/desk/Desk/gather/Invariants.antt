use Rattle.std.proofs.Common.{◌≡◌, [], drop, length}
use Rattle.std.specs.List.{filter_map}
use Rattle.delivery_book.specs.Lookups.{numbers_of}
use Rattle.own_turn.specs.DueSets.{due_of, due_sets, reached}
use Rattle.own_turn.proofs.desk.Desk.gather.Given as goal

abbrev pub invariant-loop-index : goal.invariant-loop-index
invariant-loop-index l = record {
  reached : reached l.self.book.header l.control l.gathered (filter_map (due_of l.self.book.known l.self.asked) (drop l.index (numbers_of l.self.book.known)))
      ≡ reached l.self.book.header l.control [] (due_sets l.self.book.known l.self.asked);
  end : l.index-end ≡ length (numbers_of l.self.book.known);
}
