use Rattle.std.proofs.Common.{◌≤◌, ℕ, subst}
use Rattle.dsd_values.specs.declared.limits.TheConstants.{MOST_LINES}
use Rattle.delivery_book.proofs.Signed.{few_units}
use Rattle.delivery_book.proofs.signing.acceptance.Goals as goal

pub answer_to-requires-clause-quantity : goal.answer_to-requires-clause-quantity
answer_to-requires-clause-quantity c = few_units c.args.seen.now c.totals.result c.lines.ensures.version (subst (λ (n : ℕ). n ≤ MOST_LINES) c.line_count.ensures.value c.line_count.ensures.few) c.totals.ensures.price
