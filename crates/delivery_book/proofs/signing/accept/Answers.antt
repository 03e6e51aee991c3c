use Rattle.std.proofs.Common.{[], subst}
use Rattle.dsd_record.specs.ChangedPrice.{IsPriceAfter}
use Rattle.dsd_record.specs.Version.{Version}
use Rattle.delivery_book.proofs.Signed.{accept_applies, accepting_at, accepts_at}
use Rattle.delivery_book.proofs.signing.accept.Goals as goal

pub sign-requires-clause-applies : goal.sign-requires-clause-applies
sign-requires-clause-applies c = accept_applies c.args.role c.seen.result.now c.args.delivery.now.seen c.args.signature.now c.acceptance-answer.result c.seen.ensures c.acceptance-answer.ensures.value c.acceptance-answer.ensures.price

pub returns : goal.returns
returns c =
    accepting_at c.args.role c.args.place c.args.control c.args.delivery.now c.args.signature.now c.acceptance-answer.result c.sign.result
    (accepts_at c.args.role c.seen.result.now c.args.delivery.now.seen c.args.signature.now c.acceptance-answer.result c.seen.ensures c.acceptance-answer.ensures.value)
    (subst (λ (v : Version). IsPriceAfter v [] v.totals) c.seen.ensures c.acceptance-answer.ensures.price) c.sign.ensures
