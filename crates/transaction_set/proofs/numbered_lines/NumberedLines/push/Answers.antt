use Rattle.std.proofs.Common.{rules}
use Rattle.transaction_set.proofs.Trimmed.{table_grown, table_push}
use Rattle.transaction_set.proofs.numbered_lines.NumberedLines.push.Goals as goal

pub invariant_of-self-2 : goal.invariant_of-self-2
invariant_of-self-2 c =
    let grown = table_grown c.self.inside.lines c.self.inside.stands.items c.reach.new.stands.items c.self.invariant c.reach.ensures.same in
    table_push c.self.inside.lines c.push.new.self c.args.line c.reach.new.stands.items c.from-number.result grown (search rules) c.requires.bare (search rules) (search rules) (search rules)
