use Rattle.std.proofs.Common.{◌≡◌, nat_eq, subst}
use Rattle.indexmap.specs.IndexMap.{insert_entry, values}
use Rattle.dsd_values.specs.declared.line.Line.{Line}
use Rattle.dsd_record.proofs.Changed.{changed_more}
use Rattle.dsd_record.proofs.changes.put_lines.Goals as goal

pub loop-change-preserved : goal.loop-change-preserved
loop-change-preserved c =
    let step : c.insert.new.self.entries ≡ insert_entry nat_eq c.loop-change.lines.entries c.change-item.result.dsd c.change-item.result =
    subst (λ (line : Line). c.insert.new.self.entries ≡ insert_entry nat_eq c.loop-change.lines.entries c.change-item.result.dsd line) c.in_ok-try_copy.ensures c.in_ok-insert.ensures.entries in
    changed_more c.loop-change.lines.entries c.insert.new.self.entries (values c.args.lines.now) c.args.changes.now c.loop-change.change-index c.change-item.result
    c.loop-change-test.true c.change-item.is c.loop-change.invariant step
