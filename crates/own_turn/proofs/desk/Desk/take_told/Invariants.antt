use Rattle.std.proofs.Common.{◌≡◌, [], length}
use Rattle.own_turn.specs.Staging.{IsStaging, KeepsJournal}
use Rattle.own_turn.proofs.TakingOn.{IsTaking}
use Rattle.own_turn.proofs.desk.Desk.take_told.Given as goal

abbrev pub invariant-loop-set : goal.invariant-loop-set
invariant-loop-set l = record {
  journal : KeepsJournal l.fn.self.book l.self.book;
  staging : IsStaging l.self.book;
  none : l.fn.sets.sets ≡ [] → (l.sets.sets ≡ []) × (l.self.refused ≡ l.fn.self.refused);
  taking : IsTaking l.fn.self.book.header.role l.fn.self l.fn.sets l.self l.sets;
}

abbrev pub decreases-loop-set : goal.decreases-loop-set
decreases-loop-set l = length l.sets.sets
