use Rattle.std.proofs.Common.{length, sym}
use Rattle.std.proofs.lemmas.Bool.{eqb-true}
use Rattle.own_turn.proofs.Idling.{none_heard}
use Rattle.own_turn.proofs.TakingOn.{takes_none}
use Rattle.own_turn.proofs.desk.Desk.take_text.Goals as goal

pub returns-then-is_empty-clause-exact : goal.returns-then-is_empty-clause-exact
returns-then-is_empty-clause-exact c = takes_none c.args.self.now.book.header.role c.args.text.now _ (eqb-true (length c.args.text.now) 0 (sym c.if-is_empty.ensures))

pub returns-clause-idle : goal.returns-clause-idle
returns-clause-idle c = λ none few. c.take_told.ensures.idle (none_heard c.args.text.now c.new-sets.result c.new-sets.ensures (sym c.if-is_empty.ensures) none) few
