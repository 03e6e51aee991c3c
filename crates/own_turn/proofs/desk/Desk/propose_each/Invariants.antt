use Rattle.std.proofs.Common.{◌≡◌, drop, length}
use Rattle.own_turn.specs.Desks.{desk_of}
use Rattle.own_turn.specs.IdleTurns.{AreKnown}
use Rattle.own_turn.specs.OwnTurn.{Proposes}
use Rattle.own_turn.specs.Staging.{IsStaging, KeepsJournal}
use Rattle.own_turn.proofs.Composing.{Leads}
use Rattle.own_turn.proofs.desk.Desk.propose_each.Given as goal

abbrev pub invariant-loop-index : goal.invariant-loop-index
invariant-loop-index g l = record {
  journal : KeepsJournal l.fn.self.book l.self.book;
  staging : IsStaging l.self.book;
  end : l.index-end ≡ length (g.D.Decider.chooser l.decider).drafts;
  still : AreKnown (g.D.Decider.chooser l.decider).drafts l.fn.self.book.known → l.self.book.known ≡ l.fn.self.book.known;
  leads : Leads (Proposes l.fn.self.book.header.role (g.D.Decider.chooser l.decider)) (g.D.Decider.chooser l.decider).drafts (drop l.index (g.D.Decider.chooser l.decider).drafts) (desk_of l.fn.self) (desk_of l.self);
}
