use Rattle.std.proofs.Common.{find, ap, ◌∙◌}
use Rattle.delivery_book.specs.Index.{History}
use Rattle.delivery_book.specs.StandFaults.{is_offer}
use Rattle.delivery_book.proofs.Judged.{judged_at}
use Rattle.delivery_book.proofs.judging.version_behind.Goals as goal

pub returns : goal.returns
returns c =
    judged_at c.applied_or_refused.result c.args.delivery.now c.seen-seen.result.now c.args.answer.now c.args.check c.in-Some.offer c.seen-seen.ensures
    c.offer.result c.level_named.result c.check.result c.is_accepted.result c.get-2.result c.get.result
    (c.offer.ensures ∙ ap (λ (h : History). find (is_offer c.level_named.result c.check.result) h.offers) c.history.ensures)
    c.level_named.ensures c.check.ensures c.in-Some.is c.is_accepted.ensures c.if-is_accepted.false
    (c.get-2.ensures.value ∙ c.level.ensures) c.get.ensures.value c.if-get.false c.applied_or_refused.ensures
