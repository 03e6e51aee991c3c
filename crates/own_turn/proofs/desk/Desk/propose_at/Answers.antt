use Rattle.std.proofs.Common.{◌≡◌, Some, sym, subst, ◌∙◌}
use Rattle.base_record_894.specs.BaseRecord.{BaseRecord}
use Rattle.delivery_book.specs.Deeds.{deeds_of}
use Rattle.delivery_book.specs.Standing.{IsNew}
use Rattle.own_turn.specs.NextEntry.{AddsNext}
use Rattle.own_turn.specs.OwnTurn.{Proposes}
use Rattle.own_turn.specs.Staging.{StagesTo}
use Rattle.own_turn.proofs.Looping.{among_at, proposes_so}
use Rattle.own_turn.proofs.desk.Desk.propose_at.Goals as goal

same_draft : (one other : BaseRecord) → Some one ≡ Some other → one ≡ other
same_draft one other e = cc

pub returns-clause-exact : goal.returns-clause-exact
returns-clause-exact g c = λ draft e.
    let role = c.args.self.now.book.header.role in
    let chooser = g.D.Decider.chooser c.args.decider.now in
    let here = c.in-Some.draft.now in
    subst (λ (d : BaseRecord). StagesTo c.propose.result (Proposes role chooser d) (AddsNext (Proposes role chooser d)) c.args.self.now c.propose.new.self) (same_draft here draft (c.in-Some.ensures.value ∙ e))
    (proposes_so role chooser here c.propose.result c.args.self.now c.propose.new.self (among_at chooser.drafts c.args.index here (sym c.in-Some.ensures.value)) c.propose.ensures.exact)

pub returns-clause-idle : goal.returns-clause-idle
returns-clause-idle g c = λ draft e known.
    c.propose.ensures.idle (subst (λ (d : BaseRecord). IsNew d.number (deeds_of c.args.self.now.book.known) → ⊥) (sym (same_draft c.in-Some.draft.now draft (c.in-Some.ensures.value ∙ e))) known)
