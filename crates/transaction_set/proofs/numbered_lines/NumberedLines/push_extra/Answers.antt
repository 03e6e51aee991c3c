use Rattle.std.proofs.Common.{List, subst, sym}
use Rattle.dsd_values.specs.declared.line.Line.{Line}
use Rattle.transaction_set.specs.Numbers.{HasRoom}
use Rattle.transaction_set.specs.Reasons.{last_extras}
use Rattle.transaction_set.proofs.Trimmed.{table_either}
use Rattle.transaction_set.proofs.numbered_lines.NumberedLines.push_extra.Goals as goal

pub invariant_of-self : goal.invariant_of-self
invariant_of-self c =
    table_either c.push_extra.result c.args.extra c.self.inside.lines c.push_extra.new.self c.self.inside.stands.items c.self.invariant c.requires.sized
    (subst (λ (u : List Line). HasRoom c.args.extra (last_extras u)) (sym c.self.view_is) c.requires.room) c.push_extra.ensures.ok c.push_extra.ensures.err
