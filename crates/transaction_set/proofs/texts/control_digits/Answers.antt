use Rattle.std.proofs.Common.{subst, sym, arith, ◌<◌, ◌^◌}
use Rattle.std.proofs.lemmas.Grind.{common_steps}
use Rattle.dsd_values.specs.Reading.{IsElementText}
use Rattle.transaction_set.proofs.ControlNumbers.{control_element}
use Rattle.transaction_set.proofs.texts.control_digits.Goals as goal

pub returns-clause-text : goal.returns-clause-text
returns-clause-text c = grind (arith, common_steps)

pub returns-clause-element : goal.returns-clause-element
returns-clause-element c =
    let small : c.args.control < 2 ^ 64 = omega (arith, c.ranges) in
    subst IsElementText (sym (returns-clause-text c)) (control_element c.args.control small)
