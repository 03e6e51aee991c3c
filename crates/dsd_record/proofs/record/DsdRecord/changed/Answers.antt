use Rattle.std.proofs.Common.{◌≡◌, List, ap, refl, ◌∙◌, rules}
use Rattle.indexmap.specs.IndexMap.{values}
use Rattle.dsd_values.specs.declared.line.Line.{Line}
use Rattle.dsd_record.specs.LineChanges.{changed, numbered}
use Rattle.dsd_record.proofs.Faults.{first_none, refuses_err, rows_are}
use Rattle.dsd_record.proofs.Versions.{behind_after}
use Rattle.dsd_record.proofs.record.DsdRecord.changed.Goals as goal

pub check_rows-requires-clause-behind : goal.check_rows-requires-clause-behind
check_rows-requires-clause-behind c =
    let held : c.as_slice.result.now ≡ values c.in_ok-after.after.value = search rules in
    let rows : c.as_slice.result.now ≡ changed c.args.self.now.lines c.lines.result.now = held ∙ c.in_ok-after.ensures.list ∙ ap (λ (lines : List Line). changed lines c.lines.result.now) c.lines-before.ensures.value in
    behind_after c.args.self.now.lines c.lines.result.now c.as_slice.result.now c.args.answer.now c.lines-before.ensures.version.sound.behind c.lines.ensures.spelled c.lines.ensures.value rows

pub returns-in_err-check_rows : goal.returns-in_err-check_rows
returns-in_err-check_rows c =
    let held : c.as_slice.result.now ≡ values c.in_ok-after.after.value = search rules in
    let rows : c.as_slice.result.now ≡ changed c.args.self.now.lines c.lines.result.now = held ∙ c.in_ok-after.ensures.list ∙ ap (λ (lines : List Line). changed lines c.lines.result.now) c.lines-before.ensures.value in
    let beside : c.as_slice-2.result.now ≡ c.args.self.now.extras = search rules in
    let told = rows_are c.args.self.now c.args.self.now c.args.answer.now c.lines.result.now c.as_slice.result.now c.as_slice-2.result.now c.check_rows.result refl c.lines.ensures.value rows beside c.check_rows.ensures in
    refuses_err _ c.check_rows.result c.from_residual-in_err-check_rows.result c.in_err-check_rows.field-0.0 _ told c.in_err-check_rows.was (search rules)

pub returns : goal.returns
returns c =
    let held : c.as_slice.result.now ≡ values c.in_ok-after.after.value = search rules in
    let rows : c.as_slice.result.now ≡ changed c.args.self.now.lines c.lines.result.now = held ∙ c.in_ok-after.ensures.list ∙ ap (λ (lines : List Line). changed lines c.lines.result.now) c.lines-before.ensures.value in
    let beside : c.as_slice-2.result.now ≡ c.args.self.now.extras = search rules in
    let told = rows_are c.args.self.now c.args.self.now c.args.answer.now c.lines.result.now c.as_slice.result.now c.as_slice-2.result.now c.check_rows.result refl c.lines.ensures.value rows beside c.check_rows.ensures in (
      first_none _ c.check_rows.result c.in_ok-check_rows.field-0 told c.in_ok-check_rows.was,
      c.in_ok-after.ensures.under ∙ ap numbered (ap (changed (values c.lines-before.result.now)) c.lines.ensures.value ∙ ap (λ (lines : List Line). changed lines c.args.answer.now.lines) c.lines-before.ensures.value),
    )
