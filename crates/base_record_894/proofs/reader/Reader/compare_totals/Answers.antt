use Rattle.std.proofs.Common.{ap, ◌∙◌}
use Rattle.base_record_894.specs.Said.{Said}
use Rattle.base_record_894.proofs.Totalled.{rows_said}
use Rattle.base_record_894.proofs.reader.Reader.compare_totals.Goals as goal

pub returns : goal.returns
returns c =
    rows_said c.compare_totals.result c.args.segment.now.start _ _ _ _ _ _ _
    (c.totals.ensures ∙ ap (λ (m : Said). m.course.totals) c.self.view_is)
    (c.lines.ensures.value ∙ ap (λ (m : Said). m.course.lines) c.self.view_is)
    (c.extras.ensures.value ∙ ap (λ (m : Said). m.course.extras) c.self.view_is)
    c.compare_totals.ensures
