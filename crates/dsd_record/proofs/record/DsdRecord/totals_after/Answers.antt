use Rattle.std.proofs.Common.{◌≡◌, List, inr, rules, sym, ◌∙◌, ap, subst}
use Rattle.std.specs.List.{All}
use Rattle.indexmap.specs.IndexMap.{values}
use Rattle.dsd_values.specs.declared.line.Line.{Line}
use Rattle.transaction_set.specs.Extras.{HasExtras}
use Rattle.dsd_record.specs.ChangedPrice.{totals_within}
use Rattle.dsd_record.specs.LineChanges.{changed}
use Rattle.dsd_record.proofs.AfterChanges.{behind_after}
use Rattle.dsd_record.proofs.record.DsdRecord.totals_after.Goals as goal

pub totals_in-requires-clause-behind : goal.totals_in-requires-clause-behind
totals_in-requires-clause-behind c =
    let held : c.as_slice.result.now ≡ values c.in_ok-after.after = search rules in
    let rows : c.as_slice.result.now ≡ changed c.args.self.now.lines c.args.changes.now = held ∙ c.in_ok-after.ensures.list ∙ ap (λ (lines : List Line). changed lines c.args.changes.now) c.lines.ensures.value in
    subst (All HasExtras) (sym rows) (behind_after c.args.self.now c.args.changes.now c.lines.ensures.version c.requires.sound)

pub returns : goal.returns
returns c =
    let held : c.as_slice.result.now ≡ values c.in_ok-after.after = search rules in
    let rows : c.as_slice.result.now ≡ changed c.args.self.now.lines c.args.changes.now = held ∙ c.in_ok-after.ensures.list ∙ ap (λ (lines : List Line). changed lines c.args.changes.now) c.lines.ensures.value in
    let beside : c.as_slice-2.result.now ≡ c.args.self.now.extras = search rules in
    inr (c.totals_in.ensures ∙ ap (λ (lines : List Line). totals_within lines c.as_slice-2.result.now) rows ∙ ap (totals_within (changed c.args.self.now.lines c.args.changes.now)) beside)
