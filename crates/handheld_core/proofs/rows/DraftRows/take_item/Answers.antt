use Rattle.std.proofs.Common.{sym, ◌∙◌}
use Rattle.handheld_core.proofs.Plain.{item_plain}
use Rattle.handheld_core.proofs.rows.DraftRows.take_item.Goals as goal

pub push_item-requires-clause-plain : goal.push_item-requires-clause-plain
push_item-requires-clause-plain c = item_plain c.args.line.now c.in_ok-item.item (sym c.read_item.ensures ∙ c.in_ok-item.was)
