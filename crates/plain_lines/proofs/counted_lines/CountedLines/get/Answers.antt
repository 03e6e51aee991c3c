use Rattle.std.proofs.Common.{nat_eq, ap, ◌∙◌}
use Rattle.std.specs.Map.{lookup}
use Rattle.plain_lines.specs.Counting.{counted_under, number_of}
use Rattle.plain_lines.proofs.Keyed.{turned_numbers, under_lookup}
use Rattle.plain_lines.proofs.counted_lines.CountedLines.get.Goals as goal

pub returns : goal.returns
returns c =
    c.copied.ensures ∙ c.get.ensures.value ∙ ap (lookup (nat_eq c.args.dsd)) c.self.invariant.0 ∙ under_lookup nat_eq turned_numbers number_of c.args.dsd _ ∙ ap (counted_under c.args.dsd) c.self.view_is
