use Rattle.std.proofs.Common.{◌∙◌}
use Rattle.transaction_set.specs.declared.kind.Form.TheVariants as forms
use Rattle.transaction_set.proofs.Reading.{same_err}
use Rattle.adjustment_895.proofs.Steps.{no_reason, not_admitted, not_kept, stepped}
use Rattle.adjustment_895.proofs.reader.Reader.step.Goals as goal

pub returns-in_err-phase-clause-exact : goal.returns-in_err-phase-clause-exact
returns-in_err-phase-clause-exact c =
    not_admitted _ _ _ _ c.args.self.now c.args.place c.args.segment.now _ _ _ (same_err _ _ c.from_residual.ensures) c.of-kind.ensures c.in_err-phase.ensures.exact

pub returns-in-Ok-clause-exact : goal.returns-in-Ok-clause-exact
returns-in-Ok-clause-exact c = (
  no_reason c.args.self.now c.args.place c.args.segment.now _ c.of-kind.ensures c.in_ok-phase.ensures.exact.0 c.in-Ok.ensures.0,
  stepped c.args.self.now c.args.place c.args.segment.now c.of-kind.result c.in_ok-phase.phase c.self.inside.course c.advance.new.self c.self.inside.head c.of-kind.ensures
      c.in_ok-phase.ensures.exact.1 (c.self.view_is ∙ c.in-Ok.ensures.1) c.advance.ensures,
)

pub returns-in-Err-clause-exact : goal.returns-in-Err-clause-exact
returns-in-Err-clause-exact c =
    not_kept _ _ c.in-Err.fault c.args.self.now c.args.place c.args.segment.now _ _ _ c.of-kind.ensures c.in_ok-phase.ensures.exact.0 c.in-Err.ensures
