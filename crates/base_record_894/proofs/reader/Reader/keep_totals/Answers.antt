use Rattle.base_record_894.proofs.Totalled.{totals_kept}
use Rattle.base_record_894.proofs.reader.Reader.keep_totals.Goals as goal

pub returns-in-Ok : goal.returns-in-Ok
returns-in-Ok c =
    totals_kept c.compare_totals.result c.self.inside.course c.self.inside.head c.args.self.now c.keep.new.self c.args.segment.now c.self.view_is c.in-Ok.ensures.said.0 c.in-Ok.ensures.said.1 c.compare_totals.ensures
