use Rattle.std.proofs.Common.{◌≡◌, true, false, rules}
use Rattle.delivery_book.specs.Lookups.{number_at}
use Rattle.own_turn.specs.DueSets.{asked_of, is_due}
use Rattle.own_turn.proofs.Reached.{due_not, due_there}
use Rattle.own_turn.proofs.desk.Desk.due.Goals as goal

pub returns-then-is_due : goal.returns-then-is_due
returns-then-is_due c =
    let known = c.args.self.now.book.known in
    let number = number_at known c.args.index in
    let due : is_due known (asked_of number c.args.self.now.asked) ≡ true = (search rules) in
    due_there known c.args.self.now.asked number _ due (search rules)

pub returns-else-is_due : goal.returns-else-is_due
returns-else-is_due c =
    let known = c.args.self.now.book.known in
    let number = number_at known c.args.index in
    let due : is_due known (asked_of number c.args.self.now.asked) ≡ false = (search rules) in
    due_not known c.args.self.now.asked number due
