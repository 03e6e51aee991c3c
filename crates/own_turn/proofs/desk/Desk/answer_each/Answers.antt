use Rattle.std.proofs.Common.{◌<◌, ◌+◌, drop, length, rules}
use Rattle.own_turn.specs.OwnTurn.{Answers, awaiting}
use Rattle.own_turn.proofs.Composing.{kept_then}
use Rattle.own_turn.proofs.Looping.{leads_next, next_of_get}
use Rattle.own_turn.proofs.desk.Desk.answer_each.Goals as goal

pub loop-number-preserved : goal.loop-number-preserved
loop-number-preserved g c =
    let first = c.args.self.now in
    let now = c.loop-number.self in
    let next = c.answer.new.self in
    let list = c.deref-number-items.result.now in
    let index = c.loop-number.number-index in
    let within : index < length list = (search rules) in
    record {
      journal = kept_then first.book now.book next.book c.loop-number.invariant.journal c.in_ok-answer.ensures.journal;
      staging = c.in_ok-answer.ensures.journal.staging c.loop-number.invariant.staging;
      leads = leads_next (λ role. Answers role (g.D.Decider.chooser c.args.decider.now)) (awaiting first.book.known) c.number-item.result (drop index list) (drop (index + 1) list) first now next
          c.loop-number.invariant.journal c.loop-number.invariant.leads (next_of_get list index c.number-item.result within c.number-item.is) c.in_ok-answer.ensures.exact;
    }
