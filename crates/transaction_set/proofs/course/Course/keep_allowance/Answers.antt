use Rattle.std.proofs.Common.{ap, ◌∙◌}
use Rattle.transaction_set.specs.SoFar.{SoFar, in_line}
use Rattle.transaction_set.proofs.RightAllowances.{allowance_kept, allowance_refused}
use Rattle.transaction_set.proofs.course.Course.keep_allowance.Goals as goal

pub returns-in-Err-clause-said : goal.returns-in-Err-clause-said
returns-in-Err-clause-said c =
    allowance_refused c.in-Err.fault c.at.result c.in_line.result _ c.allowances_beside.result _ c.args.segment.now _ _ c.in-Err.ensures.exact c.at.ensures
    (c.in_line.ensures ∙ ap (λ (m : SoFar). in_line m.phase) c.self.view_is) c.allowances_beside.ensures c.if-allowances_beside-ge-MOST_ALLOWANCES.false

pub returns-clause-said : goal.returns-clause-said
returns-clause-said c =
    allowance_kept c.in-Ok.allowance c.in_line.result _ c.allowances_beside.result _ c.args.segment.now _ _ c.in-Ok.ensures.exact
    (c.in_line.ensures ∙ ap (λ (m : SoFar). in_line m.phase) c.self.view_is) c.allowances_beside.ensures c.if-allowances_beside-ge-MOST_ALLOWANCES.false c.in_ok-push_extra-in-Ok.ensures.ok
