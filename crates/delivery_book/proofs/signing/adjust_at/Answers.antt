use Rattle.delivery_book.proofs.Signed.{signs_at}
use Rattle.delivery_book.proofs.signing.adjust_at.Goals as goal

pub sign-requires-clause-applies : goal.sign-requires-clause-applies
sign-requires-clause-applies c =
    signs_at c.args.role c.seen.result.now c.args.delivery.now.seen c.in-Ok.lines c.args.changes.now c.args.totals c.args.signature.now c.answer_to-answer.result c.seen.ensures c.in-Ok.ensures c.answer_to-answer.ensures c.requires.price
