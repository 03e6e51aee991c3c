use Rattle.std.proofs.Common.{◌≡◌, ℕ, ℤ, pos, ◌+ℤ◌, None, to_z, of_z, ◌∙◌, ap₂, rules}
use Rattle.std.proofs.lemmas.Int.{to_z-of_z}
use Rattle.dsd_pricing.specs.Pricing.{effects, priced, totals_from}
use Rattle.dsd_pricing.proofs.amounts.amount_of.Goals as goal
use mir.Syntax.{w128}

pub returns : goal.returns
returns c =
    let sums = c.sums_over-sums.ensures in
    let same : to_z w128 (of_z w128 c.sum_with.result) ≡ c.sum_with.result = to_z-of_z w128 c.sum_with.result (search rules) in
    let sum : c.sum_with.result ≡ priced c.args.lines.now c.args.extras.now =
    c.sum_with.ensures ∙ ap₂ (λ (cents : ℕ) (z : ℤ). pos cents +ℤ z +ℤ effects c.args.extras.now cents None) sums.extensions sums.effects in
    c.totals_in.ensures ∙ ap₂ totals_from sums.quantity (same ∙ sum)
