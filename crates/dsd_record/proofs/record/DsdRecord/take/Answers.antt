use Rattle.std.proofs.Common.{◌≤◌, sym, ap, subst, ◌∙◌, rules}
use Rattle.std.specs.Map.{values_of}
use Rattle.dsd_values.specs.declared.cents.TheConstants.Cents.{MAX}
use Rattle.dsd_record.specs.LineChanges.{numbered}
use Rattle.dsd_record.specs.Version.{IsVersion}
use Rattle.dsd_record.proofs.Changed.{values_numbered}
use Rattle.dsd_record.proofs.Versions.{adjusted_is, adjusted_right}
use Rattle.dsd_record.proofs.record.DsdRecord.take.Goals as goal

pub returns : goal.returns
returns c =
    adjusted_is _ c.args.self.now c.args.answer.now (values_of c.args.after.value.entries) c.quantity.result c.amount.result c.level-self-inside.result c.args.check
    c.self.view_is (ap values_of c.requires.lines ∙ values_numbered _) c.quantity.ensures c.amount.ensures c.level-self-inside.ensures

pub invariant_of-self : goal.invariant_of-self
invariant_of-self c = (
  c.requires.lines ∙ ap numbered (sym (ap values_of c.requires.lines ∙ values_numbered _)),
  subst IsVersion (sym
      (adjusted_is _ c.args.self.now c.args.answer.now (values_of c.args.after.value.entries) c.quantity.result c.amount.result c.level-self-inside.result c.args.check
      c.self.view_is (ap values_of c.requires.lines ∙ values_numbered _) c.quantity.ensures c.amount.ensures c.level-self-inside.ensures))
      (adjusted_right c.args.self.now c.args.answer.now c.args.check (subst IsVersion c.self.view_is c.self.invariant.1) c.lines.ensures.spelled (subst (λ n. n ≤ MAX) c.amount.ensures (search rules)) c.requires.applies),
)
