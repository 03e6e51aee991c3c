use Rattle.std.proofs.Common.{◌≡◌, ◌++◌, ◌∷◌, true, [], rules}
use Rattle.own_turn.specs.DueSets.{DueSet, has_room}
use Rattle.own_turn.proofs.Idling.{room_some}
use Rattle.own_turn.proofs.desk.Desk.gather_set.Goals as goal

pub returns-in-Err-clause-some : goal.returns-in-Err-clause-some
returns-in-Err-clause-some c = λ rest none.
    let header = c.args.self.now.book.header in
    let set : DueSet = record { number = c.args.number.now; text = c.args.text.now } in
    let room : has_room header c.args.control (c.args.gathered.now ++ set ∷ []) ≡ true = (search rules) in
    room_some header c.args.control c.args.gathered.now set rest room none
