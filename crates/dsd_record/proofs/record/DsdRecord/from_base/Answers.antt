use Rattle.std.proofs.Common.{◌≡◌, rules, sym, ap, subst, ◌∙◌}
use Rattle.indexmap.specs.IndexMap.{values}
use Rattle.dsd_record.specs.LineChanges.{numbered}
use Rattle.dsd_record.specs.Version.{IsVersion}
use Rattle.dsd_record.proofs.Changed.{made_of}
use Rattle.dsd_record.proofs.Versions.{first_is, first_made, first_right}
use Rattle.dsd_record.proofs.record.DsdRecord.from_base.Goals as goal

pub invariant_of-result : goal.invariant_of-result
invariant_of-result c =
    let lines : values c.in_ok-shared_lines.field-0.value ≡ c.args.base.now.lines = c.in_ok-shared_lines.ensures.list ∙ made_of c.new-none.result.entries c.args.base.now.lines c.lines.result.now c.new-none.ensures.empty c.lines.ensures c.extras.ensures.spelled.sound.apart in
    let extras : c.in_ok-new.field-0.value ≡ c.args.base.now.extras = search rules in (
      c.in_ok-shared_lines.ensures.under ∙ ap numbered (sym c.in_ok-shared_lines.ensures.list),
      subst IsVersion
          (sym
          (first_is c.args.base.now c.flag.result c.copy.result c.day.result (values c.in_ok-shared_lines.field-0.value) c.in_ok-new.field-0.value c.stated.result c.new-2.result c.args.check
          c.flag.ensures (c.copy.ensures ∙ c.number.ensures) c.day.ensures lines extras c.new-2.ensures))
          (first_right c.args.base.now c.args.check c.stated.result c.extras.ensures.spelled c.stated.ensures),
    )

pub returns : goal.returns
returns c =
    let lines : values c.in_ok-shared_lines.field-0.value ≡ c.args.base.now.lines = c.in_ok-shared_lines.ensures.list ∙ made_of c.new-none.result.entries c.args.base.now.lines c.lines.result.now c.new-none.ensures.empty c.lines.ensures c.extras.ensures.spelled.sound.apart in
    let extras : c.in_ok-new.field-0.value ≡ c.args.base.now.extras = search rules in
    first_made c.args.base.now _ c.args.check c.stated.result
    (first_is c.args.base.now c.flag.result c.copy.result c.day.result (values c.in_ok-shared_lines.field-0.value) c.in_ok-new.field-0.value c.stated.result c.new-2.result c.args.check
    c.flag.ensures (c.copy.ensures ∙ c.number.ensures) c.day.ensures lines extras c.new-2.ensures)
    c.stated.ensures
