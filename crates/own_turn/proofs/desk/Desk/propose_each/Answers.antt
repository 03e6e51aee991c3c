use Rattle.std.proofs.Common.{◌<◌, ◌+◌, drop, length, rules}
use Rattle.own_turn.specs.OwnTurn.{Proposes}
use Rattle.own_turn.proofs.Composing.{kept_then}
use Rattle.own_turn.proofs.Looping.{leads_next, leads_stop, next_of_drop, there_at}
use Rattle.std.proofs.Common.{ap, sym, ◌∙◌, subst}
use Rattle.own_turn.specs.Desks.{desk_of}
use Rattle.own_turn.specs.IdleTurns.{AreKnown}
use Rattle.own_turn.specs.OwnTurn.{Desk}
use Rattle.own_turn.proofs.Idling.{known_at, not_proposed}
use Rattle.own_turn.proofs.desk.Desk.propose_each.Goals as goal

pub returns-in-Err-clause-exact : goal.returns-in-Err-clause-exact
returns-in-Err-clause-exact g c =
    let first = c.args.self.now in
    let list = (g.D.Decider.chooser c.args.decider.now).drafts in
    let index = c.loop-index.index in
    let within : index < length list = (search rules) in
    let draft = there_at list index within in
    leads_stop (λ role. Proposes role (g.D.Decider.chooser c.args.decider.now)) list draft.0 (drop index list) (drop (index + 1) list) first c.loop-index.self c.propose_at.new.self
    c.loop-index.invariant.journal c.loop-index.invariant.leads (next_of_drop list index draft.0 draft.1) c.in-Err.fault (c.in-Err.ensures.exact draft.0 draft.1)

pub loop-index-preserved : goal.loop-index-preserved
loop-index-preserved g c =
    let first = c.args.self.now in
    let now = c.loop-index.self in
    let next = c.propose_at.new.self in
    let list = (g.D.Decider.chooser c.args.decider.now).drafts in
    let index = c.loop-index.index in
    let within : index < length list = (search rules) in
    let draft = there_at list index within in
    record {
      journal = kept_then first.book now.book next.book c.loop-index.invariant.journal c.in-Ok.ensures.journal;
      staging = c.in-Ok.ensures.journal.staging c.loop-index.invariant.staging;
      end = c.drafts-index-end.ensures.value;
      still = λ known.
          let same = c.loop-index.invariant.still known in
          ap (λ (d : Desk). d.entries)
          (not_proposed now.book.header.role (g.D.Decider.chooser c.args.decider.now) draft.0 (desk_of now) (desk_of next)
          (known_at list now.book.known index draft.0 (subst (AreKnown list) (sym same) known) draft.1) (c.in-Ok.ensures.exact draft.0 draft.1))
          ∙ same;
      leads = leads_next (λ role. Proposes role (g.D.Decider.chooser c.args.decider.now)) list draft.0 (drop index list) (drop (index + 1) list) first now next
          c.loop-index.invariant.journal c.loop-index.invariant.leads (next_of_drop list index draft.0 draft.1) (c.in-Ok.ensures.exact draft.0 draft.1);
    }

pub returns-in-Err-clause-idle : goal.returns-in-Err-clause-idle
returns-in-Err-clause-idle g c = λ known.
    let list = (g.D.Decider.chooser c.args.decider.now).drafts in
    let index = c.loop-index.index in
    let within : index < length list = (search rules) in
    let draft = there_at list index within in
    c.in-Err.ensures.idle draft.0 draft.1 (known_at list c.loop-index.self.book.known index draft.0 (subst (AreKnown list) (sym (c.loop-index.invariant.still known)) known) draft.1)
