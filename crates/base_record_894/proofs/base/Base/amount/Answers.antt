use Rattle.std.proofs.Common.{◌≡◌, pos, subst, sym, ◌∙◌}
use Rattle.dsd_pricing.specs.Pricing.{priced}
use Rattle.base_record_894.specs.BaseRecord.{BaseRecord, amount_of}
use Rattle.base_record_894.proofs.Amounts.{amount_is, price_answer, price_refused}
use Rattle.base_record_894.proofs.base.Base.amount.Goals as goal

pub unreachable-requires : goal.unreachable-requires
unreachable-requires c =
    price_refused c.self.inside.lines c.self.inside.extras c.as_slice.result.now c.as_slice-2.result.now _ _ _ c.as_slice.ensures c.as_slice-2.ensures c.self.invariant.price (sym c.in-Err.is ∙ c.amount_of.ensures)

pub returns-clause-value : goal.returns-clause-value
returns-clause-value c =
    subst (λ (v : BaseRecord). c.in-Ok.totals.amount ≡ amount_of v) c.self.view_is
    (amount_is c.in-Ok.totals.amount _ (price_answer c.self.inside.lines c.self.inside.extras c.as_slice.result.now c.as_slice-2.result.now c.in-Ok.totals c.as_slice.ensures c.as_slice-2.ensures (sym c.in-Ok.is ∙ c.amount_of.ensures)))

pub returns-clause-price : goal.returns-clause-price
returns-clause-price c =
    subst (λ (v : BaseRecord). pos c.in-Ok.totals.amount ≡ priced v.lines v.extras) c.self.view_is
    (price_answer c.self.inside.lines c.self.inside.extras c.as_slice.result.now c.as_slice-2.result.now c.in-Ok.totals c.as_slice.ensures c.as_slice-2.ensures (sym c.in-Ok.is ∙ c.amount_of.ensures))
