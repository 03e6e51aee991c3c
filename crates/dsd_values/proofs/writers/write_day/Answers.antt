use Rattle.std.proofs.Common.{rules}
use Rattle.dsd_values.proofs.Dates.{day_read_back}
use Rattle.dsd_values.proofs.Elements.{day_element}
use Rattle.dsd_values.proofs.writers.write_day.Goals as goal

pub returns-clause-read_back : goal.returns-clause-read_back
returns-clause-read_back c =
    day_read_back c.args.value c.push_two-4.new.text.items (search rules) c.year.ensures.there

pub returns-clause-element : goal.returns-clause-element
returns-clause-element c = day_element c.push_two-4.new.text.items c.args.value (returns-clause-read_back c)
