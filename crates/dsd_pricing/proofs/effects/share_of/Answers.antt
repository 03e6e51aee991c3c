use Rattle.std.proofs.Common.{◌≡◌, ◌≤◌, ◌*◌, ◌+◌, arith}
use Rattle.std.proofs.lemmas.Int.{ints}
use Rattle.dsd_values.specs.declared.percent.TheConstants.Percent.{MAX}
use Rattle.dsd_pricing.specs.Pricing.{share}
use Rattle.dsd_pricing.proofs.Sizes.{share_made, share_small}
use Rattle.dsd_pricing.proofs.effects.share_of.Goals as goal

pub returns : goal.returns
returns c =
    let made : c.from.result * c.from-2.result + c.from-3.result ≡ share c.args.basis c.args.percent =
    share_made c.args.basis c.args.percent c.from-percent.result c.from-2.result c.from.result c.from-3.result
    (omega arith) (omega arith) (omega arith) c.from-3.ensures in
    let percent : c.args.percent ≤ MAX = omega arith in
    let small = share_small c.args.basis c.args.percent percent in
    record { value = omega (arith, ints); within = omega (arith, ints) }
