use Rattle.delivery_book.proofs.Signed.{answer_signed}
use Rattle.delivery_book.proofs.signing.sign.Goals as goal

pub returns-in-Ok : goal.returns-in-Ok
returns-in-Ok c = answer_signed c.args.place c.args.control c.args.delivery.now c.args.answer.now (c.in-Ok.text, c.in-Ok.check) c.signed_answer.result c.in-Ok.ensures c.signed_answer.ensures
