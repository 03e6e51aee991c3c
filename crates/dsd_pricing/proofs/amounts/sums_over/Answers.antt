use Rattle.std.proofs.Common.{◌≡◌, ◌*◌, ◌+◌, ◌<◌, ◌^◌, Some, arith, ◌∙◌, ap₂}
use Rattle.std.proofs.lemmas.List.Sums.{sum_by_more}
use Rattle.dsd_pricing.specs.Bounds.{IsWithin, most_effects}
use Rattle.dsd_pricing.specs.Pricing.{effects, line_effects}
use Rattle.dsd_pricing.proofs.Sums.{sum_to_more, within_weaker}
use Rattle.dsd_pricing.proofs.amounts.sums_over.Goals as goal

pub loop-line-preserved : goal.loop-line-preserved
loop-line-preserved c =
    let line = c.line-item.result in
    let one = c.effects_of-effects in
    let value : one.result ≡ line_effects line =
    one.ensures.value ∙ ap₂ (λ xs cents. effects xs cents (Some line.quantity)) c.as_slice.ensures c.extension-cents.ensures.value in
    let within : IsWithin (most_effects 1_000_000_000_000) one.result =
    within_weaker (most_effects c.extension-cents.result) (most_effects 1_000_000_000_000) one.result (omega arith) one.ensures.within in
    record {
      quantity = grind (arith, sum_by_more);
      quantity_within = omega arith;
      extensions = grind (arith, sum_by_more);
      extensions_within = omega arith;
      effects = sum_to_more line_effects c.args.lines.now c.loop-line.line-index (most_effects 1_000_000_000_000)
          line _ one.result c.loop-line-test.true c.line-item.is value within (omega arith) c.loop-line.invariant.effects;
    }
