use Rattle.std.proofs.Common.{◌≡◌, ◌≤◌, ◌*◌, take}
use Rattle.dsd_values.specs.declared.quantity.TheConstants.Quantity.{MAX}
use Rattle.dsd_pricing.specs.Bounds.{most_effects}
use Rattle.dsd_pricing.specs.Pricing.{extensions, line_effects, quantities}
use Rattle.dsd_pricing.proofs.Sums.{IsSumTo}
use Rattle.dsd_pricing.proofs.amounts.sums_over.Given as goal

abbrev pub invariant-loop-line : goal.invariant-loop-line
invariant-loop-line l = record {
  quantity : l.quantity ≡ quantities (take l.line-index l.lines);
  quantity_within : l.quantity ≤ l.line-index * MAX;
  extensions : l.extensions ≡ extensions (take l.line-index l.lines);
  extensions_within : l.extensions ≤ l.line-index * 1_000_000_000_000;
  effects : IsSumTo line_effects l.lines l.line-index (most_effects 1_000_000_000_000) l.effects;
}
