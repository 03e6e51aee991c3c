use Rattle.std.proofs.Common.{◌≡◌, ℕ, true, List, Some, rules, sym, ◌∙◌, ap, subst}
use Rattle.delivery_book.specs.Lookups.{awaits_us, number_at}
use Rattle.own_turn.specs.Desks.{DeskView}
use Rattle.own_turn.specs.Staging.{IsChoice}
use Rattle.own_turn.proofs.Looping.{answers_so}
use Rattle.own_turn.proofs.desk.Desk.answer.Goals as goal

pub returns-in-Ok-clause-exact : goal.returns-in-Ok-clause-exact
returns-in-Ok-clause-exact g c =
    let chooser = g.D.Decider.chooser c.args.decider.now in
    let known = c.args.self.now.book.known in
    let awaits : awaits_us known c.args.number.now ≡ true = (search rules) in
    let signs : chooser.signature c.args.number.now ≡ Some c.in-Some-signature.signature.now = (search rules) in
    let choice = subst (λ (number : List ℕ). IsChoice chooser known number c.in-Ok.choice) (ap (λ (v : DeskView). number_at v.book.known c.in-Some.index) (sym c.self.view_is) ∙ c.in-Some.ensures.1) c.in-Ok.ensures.chosen in
    answers_so c.args.self.now.book.header.role chooser c.args.number.now c.in-Ok.choice c.in-Some-signature.signature.now c.sign.result c.args.self.now c.sign.new.self awaits choice signs c.sign.ensures.exact
