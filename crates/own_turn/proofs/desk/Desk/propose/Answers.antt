use Rattle.std.proofs.Common.{◌≡◌, ℕ, List, Some, ◌∙◌, subst}
use Rattle.delivery_book.specs.Lookups.{seen_of}
use Rattle.own_turn.specs.Desks.{DeskView, desk_of}
use Rattle.own_turn.specs.Staging.{ProposesDraft}
use Rattle.own_turn.proofs.Adjusting.{known_not_proposed}
use Rattle.own_turn.proofs.desk.Desk.propose.Goals as goal

pub returns-in-Some-clause-exact : goal.returns-in-Some-clause-exact
returns-in-Some-clause-exact c =
    let old : DeskView = record { book = c.self.inside.book; asked = c.self.inside.asked; refused = c.self.inside.refused; turns = c.self.inside.turns } in
    let seen : seen_of old.book.known c.args.draft.now.number ≡ Some c.seen.result.now = subst (λ (number : List ℕ). seen_of old.book.known number ≡ Some c.seen.result.now) (c.in-Some.ensures.1 ∙ c.number.ensures) c.seen.ensures in
    subst (λ (v : DeskView). ProposesDraft v.book.header.role c.args.draft.now (desk_of v) (desk_of v)) c.self.view_is
    (known_not_proposed old.book.header.role c.args.draft.now (desk_of old) c.seen.result.now seen)
