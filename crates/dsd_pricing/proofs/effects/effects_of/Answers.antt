use Rattle.std.proofs.Common.{◌^◌, ◌<◌, arith}
use Rattle.dsd_pricing.specs.Bounds.{most_effect}
use Rattle.dsd_pricing.specs.Pricing.{effect_in}
use Rattle.dsd_pricing.proofs.Sizes.{effects_small}
use Rattle.dsd_pricing.proofs.Sums.{sum_to_more}
use Rattle.dsd_pricing.proofs.effects.effects_of.Goals as goal

pub loop-extra-preserved : goal.loop-extra-preserved
loop-extra-preserved c =
    let one = c.extra_effect-sum in
    let few : c.loop-extra.extra-index < 2 ^ 64 = omega arith in
    sum_to_more (effect_in c.args.basis c.args.quantity) c.args.extras.now c.loop-extra.extra-index (most_effect c.args.basis)
    c.extra-item.result _ one.result c.loop-extra-test.true c.extra-item.is one.ensures.value one.ensures.within
    (effects_small c.loop-extra.extra-index c.args.basis few c.requires.small) c.loop-extra.invariant
