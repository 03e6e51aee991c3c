use Rattle.std.proofs.Common.{sym, ap, ◌∙◌}
use Rattle.std.specs.Map.{values_of}
use Rattle.indexmap.specs.IndexMap.{values}
use Rattle.dsd_record.specs.LineChanges.{changed, numbered}
use Rattle.dsd_record.proofs.Changed.{copied_changed, values_numbered}
use Rattle.dsd_record.proofs.changes.changed_lines.Goals as goal

pub put_lines-requires-2 : goal.put_lines-requires-2
put_lines-requires-2 c = c.in_ok-put_lines.ensures ∙ ap numbered (sym (values_numbered _) ∙ ap values_of (sym c.in_ok-put_lines.ensures))

pub returns-clause-under : goal.returns-clause-under
returns-clause-under c =
    copied_changed c.in_ok-after.after.entries c.put_lines.new.lines.entries c.put_lines-2.new.lines.entries (values c.args.lines.now) c.as_slice.result.now c.args.changes.now c.as_slice-changes.result.now
    c.in_ok-after.ensures.empty (c.as_slice.ensures ∙ c.values.ensures.rest) c.as_slice-changes.ensures c.requires c.in_ok-put_lines.ensures c.in_ok-put_lines-2.ensures

pub returns-clause-list : goal.returns-clause-list
returns-clause-list c = ap values_of (returns-clause-under c) ∙ values_numbered (changed (values c.args.lines.now) c.args.changes.now)
