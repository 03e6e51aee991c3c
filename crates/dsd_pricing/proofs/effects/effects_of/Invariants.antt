use Rattle.dsd_pricing.specs.Bounds.{most_effect}
use Rattle.dsd_pricing.specs.Pricing.{effect_in}
use Rattle.dsd_pricing.proofs.Sums.{IsSumTo}
use Rattle.dsd_pricing.proofs.effects.effects_of.Given as goal

abbrev pub invariant-loop-extra : goal.invariant-loop-extra
invariant-loop-extra l = IsSumTo (effect_in l.basis l.quantity) l.extras l.extra-index (most_effect l.basis) l.sum
