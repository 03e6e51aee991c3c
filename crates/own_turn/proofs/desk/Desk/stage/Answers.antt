use Rattle.own_turn.proofs.Turning.{staged_all, stops_answering}
use Rattle.std.proofs.Common.{ap, sym, ◌∙◌, subst}
use Rattle.own_turn.specs.Desks.{desk_of}
use Rattle.own_turn.specs.IdleTurns.{AreKnown}
use Rattle.own_turn.specs.OwnTurn.{Desk, awaiting}
use Rattle.own_turn.proofs.Idling.{answered_still, taken_still}
use Rattle.own_turn.proofs.desk.Desk.stage.Goals as goal

pub returns-in-Ok-clause-exact : goal.returns-in-Ok-clause-exact
returns-in-Ok-clause-exact g c =
    staged_all (g.D.Decider.chooser c.args.decider.now) c.args.text.now c.args.self.now c.take_text.new.self c.in_ok-take_text.ensures.journal c.in_ok-take_text.ensures.exact
    c.answer_each.new.self c.propose_each.new.self c.propose_each.result c.in-Ok.ensures.journal c.in-Ok.ensures.exact c.propose_each.ensures.exact

pub returns-in-Err-clause-exact : goal.returns-in-Err-clause-exact
returns-in-Err-clause-exact g c =
    stops_answering (g.D.Decider.chooser c.args.decider.now) c.args.text.now c.args.self.now c.take_text.new.self c.in_ok-take_text.ensures.journal c.in_ok-take_text.ensures.exact
    c.in-Err.fault c.answer_each.new.self c.in-Err.ensures.exact

pub returns-in-Ok-clause-idle : goal.returns-in-Ok-clause-idle
returns-in-Ok-clause-idle g c = λ adds.
    let chooser = g.D.Decider.chooser c.args.decider.now in
    let old = c.args.self.now in
    let taken = c.take_text.new.self in
    let still = taken_still old.book.header.role c.args.text.now (desk_of old) (desk_of taken) adds.lends c.in_ok-take_text.ensures.exact in
    let answered = answered_still taken.book.header.role chooser (desk_of taken) (desk_of c.answer_each.new.self) (ap awaiting still.entries ∙ adds.awaits) c.in-Ok.ensures.exact in
    c.propose_each.ensures.idle (subst (AreKnown chooser.drafts) (sym (ap (λ (d : Desk). d.entries) answered ∙ still.entries)) adds.drafts)

pub returns-in-Err-clause-idle : goal.returns-in-Err-clause-idle
returns-in-Err-clause-idle g c = λ adds.
    let old = c.args.self.now in
    let still = taken_still old.book.header.role c.args.text.now (desk_of old) (desk_of c.take_text.new.self) adds.lends c.in_ok-take_text.ensures.exact in
    c.in-Err.ensures.idle (ap awaiting still.entries ∙ adds.awaits)
