use Rattle.std.proofs.Common.{rules, arith}
use Rattle.dsd_values.proofs.ReadBack.{number_read_back}
use Rattle.dsd_values.proofs.Elements.{number_element}
use Rattle.dsd_values.proofs.writers.write_number.Goals as goal

pub returns-clause-read_back : goal.returns-clause-read_back
returns-clause-read_back c =
    λ low high least most.
    number_read_back low high c.args.number c.push_number.new.text.items (search rules) c.requires least most

pub returns-clause-element : goal.returns-clause-element
returns-clause-element c =
    number_element 0 c.args.number c.push_number.new.text.items c.args.number
    (returns-clause-read_back c 0 c.args.number (omega arith) (omega arith))
