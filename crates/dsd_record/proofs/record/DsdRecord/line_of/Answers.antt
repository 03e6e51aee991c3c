use Rattle.std.proofs.Common.{nat_eq, ap, ◌∙◌}
use Rattle.std.specs.Map.{lookup}
use Rattle.dsd_record.proofs.Changed.{found_under, under_lookup}
use Rattle.dsd_record.proofs.record.DsdRecord.line_of.Goals as goal

pub returns-clause-value : goal.returns-clause-value
returns-clause-value c =
    c.get.ensures.value ∙ ap (lookup (nat_eq c.args.dsd)) c.lines.ensures.under ∙ under_lookup c.args.dsd _

pub returns-clause-found : goal.returns-clause-found
returns-clause-found c = found_under c.get.result c.args.dsd c.args.self.now.lines (returns-clause-value c)
