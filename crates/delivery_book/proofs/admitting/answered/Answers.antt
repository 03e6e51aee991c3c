use Rattle.std.proofs.Common.{◌≡◌, true, false, rules}
use Rattle.delivery_book.specs.Admissions.{is_turn}
use Rattle.delivery_book.specs.Deeds.{signer}
use Rattle.delivery_book.specs.Refusals.{is_role}
use Rattle.delivery_book.proofs.Bodies.{answered_no, answered_yes}
use Rattle.delivery_book.proofs.admitting.answered.Goals as goal

pub returns-in-Ok : goal.returns-in-Ok
returns-in-Ok c =
    let letter : is_role c.args.answer.now.role (signer c.args.role c.args.kind) ≡ true = (search rules) in
    let open_yet : c.args.delivery.now.accepted ≡ false = (search rules) in
    let turn : is_turn c.args.delivery.now.ours c.args.kind ≡ true = (search rules) in
    answered_yes c.args.role c.args.kind c.args.delivery.now c.seen.result.now c.args.answer.now c.args.check c.in-Ok.after letter open_yet turn c.seen.ensures c.in-Ok.ensures

pub returns-in-Err : goal.returns-in-Err
returns-in-Err c = answered_no c.args.role c.args.kind c.args.delivery.now c.seen.result.now c.args.answer.now c.in-Err.fault c.not_applied.result _ c.seen.ensures c.not_applied.ensures c.in-Err.ensures
