use Rattle.std.proofs.Common.{drop}
use Rattle.own_turn.specs.Desks.{desk_of}
use Rattle.own_turn.specs.OwnTurn.{Answers, awaiting}
use Rattle.own_turn.specs.Staging.{IsStaging, KeepsJournal}
use Rattle.own_turn.proofs.Composing.{Leads}
use Rattle.own_turn.proofs.desk.Desk.answer_each.Given as goal

abbrev pub invariant-loop-number : goal.invariant-loop-number
invariant-loop-number g l = record {
  journal : KeepsJournal l.fn.self.book l.self.book;
  staging : IsStaging l.self.book;
  leads : Leads (Answers l.fn.self.book.header.role (g.D.Decider.chooser l.decider)) (awaiting l.fn.self.book.known) (drop l.number-index l.number-items) (desk_of l.fn.self) (desk_of l.self);
}
