use Rattle.std.proofs.Common.{rules, arith, ◌≤◌}
use Rattle.dsd_values.proofs.ReadBack.{decimal_read_back}
use Rattle.dsd_values.proofs.Elements.{decimal_element}
use Rattle.dsd_values.proofs.writers.write_cost.Goals as goal

pub returns-clause-read_back : goal.returns-clause-read_back
returns-clause-read_back c =
    let most : c.args.value ≤ 999_999_999 = omega arith in
    decimal_read_back 4 999_999_999 c.args.value c.write_decimal.result.items (search rules) (omega arith) (omega arith) most

pub returns-clause-element : goal.returns-clause-element
returns-clause-element c =
    decimal_element 4 999_999_999 c.write_decimal.result.items c.args.value (returns-clause-read_back c)
