use Rattle.std.proofs.Common.{sym, subst}
use Rattle.delivery_book.specs.Books.{BookView}
use Rattle.own_turn.specs.Desks.{DeskView}
use Rattle.own_turn.specs.NextEntry.{AddsNext}
use Rattle.own_turn.specs.OwnTurn.{TakesSet}
use Rattle.own_turn.specs.Staging.{IsStaging, PassesOver, StagesTo}
use Rattle.own_turn.specs.declared.refusal.Refusal.{Refusal}
use Rattle.own_turn.proofs.Taken.{set_passed}
use Rattle.own_turn.proofs.desk.Desk.take_set.Goals as goal

pub returns-in-Err-clause-exact : goal.returns-in-Err-clause-exact
returns-in-Err-clause-exact c =
    let text = c.args.set.now in
    let new = c.pass_over.new.self in
    let desk : BookView → DeskView = λ book. record { book = book; asked = c.self.inside.asked; refused = c.self.inside.refused; turns = c.self.inside.turns } in
    let old = desk c.self.inside.book in
    let passed = subst (λ (book : BookView). PassesOver c.refusal_of.result text c.pass_over.result (desk book) new) c.in-Err.ensures.exact.1 c.pass_over.ensures in
    let told = subst (λ (refusal : Refusal). PassesOver refusal text c.pass_over.result old new) c.refusal_of.ensures passed in
    let staging = subst (λ (v : DeskView). IsStaging v.book) (sym c.self.view_is) c.requires.staging in
    subst (λ (v : DeskView). StagesTo c.pass_over.result (TakesSet v.book.header.role text) (AddsNext (TakesSet v.book.header.role text)) v new) c.self.view_is
    (set_passed old.book.header.role text old new c.role.ensures.legal c.pass_over.result c.in-Err.fault staging c.in-Err.ensures.exact.0 told)
