use Rattle.std.proofs.Common.{◌≡◌, ◌⊎◌, Some, Ok, subst}
use Rattle.dsd_record.specs.ChangedPrice.{IsPriceAfter, price_with}
use Rattle.dsd_record.specs.Version.{Version}
use Rattle.delivery_book.specs.Signatures.{pricing_fault}
use Rattle.delivery_book.specs.declared.fault.RuleFault.TheVariants.{Memory}
use Rattle.delivery_book.proofs.Signed.{priced_err, priced_ok}
use Rattle.delivery_book.proofs.signing.adjust.Goals as goal

pub adjust_at-requires-clause-price : goal.adjust_at-requires-clause-price
adjust_at-requires-clause-price c = subst (λ (v : Version). IsPriceAfter v c.args.changes.now c.in-Ok.totals) c.seen.ensures c.in-Ok.ensures.price

pub returns-in-Ok : goal.returns-in-Ok
returns-in-Ok c =
    priced_ok c.args.role c.args.place c.args.delivery.now c.args.control c.args.changes.now c.args.signature.now c.in-Ok.totals c.adjust_at.result
    (subst (λ (v : Version). price_with v c.args.changes.now ≡ Ok c.in-Ok.totals) c.seen.ensures c.in-Ok.ensures.exact.1)
    (subst (λ (v : Version). IsPriceAfter v c.args.changes.now c.in-Ok.totals) c.seen.ensures c.in-Ok.ensures.price) c.adjust_at.ensures

pub returns-in-Err : goal.returns-in-Err
returns-in-Err c =
    priced_err c.args.role c.args.control c.args.delivery.now.seen c.args.changes.now c.args.signature.now (price_with c.args.delivery.now.seen c.args.changes.now) c.in-Err.fault
    (subst (λ (v : Version). (c.in-Err.fault ≡ Memory) ⊎ (pricing_fault (price_with v c.args.changes.now) ≡ Some c.in-Err.fault)) c.seen.ensures c.in-Err.ensures.exact)
