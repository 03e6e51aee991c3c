use Rattle.std.proofs.Common.{◌≡◌, take}
use Rattle.indexmap.specs.IndexMap.{values}
use Rattle.dsd_record.specs.LineChanges.{changed, numbered}
use Rattle.dsd_record.proofs.changes.put_lines.Given as goal

abbrev pub invariant-loop-change : goal.invariant-loop-change
invariant-loop-change l = l.lines.entries ≡ numbered (changed (values l.fn.lines) (take l.change-index l.changes))
