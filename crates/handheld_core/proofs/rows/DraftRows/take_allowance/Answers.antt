use Rattle.std.proofs.Common.{sym, ◌∙◌}
use Rattle.handheld_core.proofs.Plain.{allowance_plain}
use Rattle.handheld_core.proofs.rows.DraftRows.take_allowance.Goals as goal

pub push_allowance-requires-clause-plain : goal.push_allowance-requires-clause-plain
push_allowance-requires-clause-plain c = allowance_plain c.args.in_line c.args.line.now c.in_ok-allowance.allowance (sym c.read_allowance.ensures ∙ c.in_ok-allowance.was)
