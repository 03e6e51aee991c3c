use Rattle.std.proofs.Common.{pos, ap, ◌∙◌, rules}
use Rattle.std.proofs.lemmas.Int.{to_z-of_z}
use Rattle.dsd_record.specs.Applying.{lines_after, refused_by, rows_fault, totals_fault}
use Rattle.dsd_record.specs.Version.{Version}
use Rattle.dsd_record.proofs.Versions.{kept_rows}
use Rattle.dsd_record.proofs.record.DsdRecord.check_kept.Goals as goal
use mir.Syntax.{w128}

pub returns : goal.returns
returns c =
    c.compare.ensures ∙ ap (λ z. refused_by (totals_fault c.args.answer.now c.self.inside.totals.quantity z)) (to_z-of_z w128 c.from.result (search rules) ∙ c.from.ensures ∙ ap pos c.get.ensures.value)
    ∙ ap refused_by (kept_rows _ c.args.answer.now c.self.invariant.1 c.requires)
    ∙ ap (λ (v : Version). refused_by (rows_fault c.args.answer.now (lines_after v c.args.answer.now) v.extras)) c.self.view_is
