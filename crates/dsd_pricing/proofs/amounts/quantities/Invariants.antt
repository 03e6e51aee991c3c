use Rattle.std.proofs.Common.{◌≡◌, ◌≤◌, ◌*◌, take}
use Rattle.dsd_values.specs.declared.quantity.TheConstants.Quantity.{MAX}
use Rattle.dsd_pricing.specs.Pricing.{quantities}
use Rattle.dsd_pricing.proofs.amounts.quantities.Given as goal

abbrev pub invariant-loop-line : goal.invariant-loop-line
invariant-loop-line l = record {
  so_far : l.sum ≡ quantities (take l.line-index l.lines);
  small : l.sum ≤ l.line-index * MAX;
}
