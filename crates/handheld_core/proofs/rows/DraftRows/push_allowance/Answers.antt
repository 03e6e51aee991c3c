use Rattle.std.proofs.Common.{◌<◌, Bool, true, false, List, [], ◌∷◌, ◌++◌, length, subst, sym}
use Rattle.dsd_values.specs.Behind.{with_extra}
use Rattle.dsd_values.specs.declared.allowance.Allowance.{Allowance}
use Rattle.dsd_values.specs.declared.extra.Extra.{Extra}
use Rattle.dsd_values.specs.declared.extra.Extra.TheVariants.{Allow}
use Rattle.dsd_values.specs.declared.line.Line.{Line}
use Rattle.transaction_set.specs.SoundLines.{IsPlainAllowance}
use Rattle.handheld_core.specs.DraftRows.{AreRows, Rows, beside}
use Rattle.handheld_core.proofs.Rowed.{allowance_more, pushed}
use Rattle.handheld_core.proofs.rows.DraftRows.push_allowance.Goals as goal

pub invariant_of-self : goal.invariant_of-self
invariant_of-self c =
    let rows : Rows = record { extras = c.self.inside.extras; lines = c.self.inside.lines } in
    let plain : IsPlainAllowance true c.in_ok-new.field-0 = subst (λ (a : Allowance). IsPlainAllowance true a) (sym c.in_ok-new.ensures) (subst (λ (b : Bool). IsPlainAllowance b c.args.allowance) c.if-in_line.true c.requires.plain) in
    let room : length (beside true rows) < 20 = subst (λ (r : Rows). length (beside true r) < 20) (sym c.self.view_is) (subst (λ (b : Bool). length (beside b c.args.self.now) < 20) c.if-in_line.true c.requires.room) in
    pushed (λ (ls : List Line). AreRows (record { extras = c.self.inside.extras; lines = ls })) c.push_extra.result c.self.inside.lines c.push_extra.new.self (with_extra (Allow c.in_ok-new.field-0) c.self.inside.lines)
    c.push_extra.ensures.ok c.push_extra.ensures.err c.self.invariant (allowance_more true rows c.in_ok-new.field-0 c.self.invariant plain room)

pub invariant_of-self-else-in_line : goal.invariant_of-self-else-in_line
invariant_of-self-else-in_line c =
    let rows : Rows = record { extras = c.self.inside.extras; lines = c.self.inside.lines } in
    let plain : IsPlainAllowance false c.in_ok-new.field-0 = subst (λ (a : Allowance). IsPlainAllowance false a) (sym c.in_ok-new.ensures) (subst (λ (b : Bool). IsPlainAllowance b c.args.allowance) c.if-in_line.false c.requires.plain) in
    let room : length (beside false rows) < 20 = subst (λ (r : Rows). length (beside false r) < 20) (sym c.self.view_is) (subst (λ (b : Bool). length (beside b c.args.self.now) < 20) c.if-in_line.false c.requires.room) in
    pushed (λ (es : List Extra). AreRows (record { extras = es; lines = c.self.inside.lines })) c.push.result c.self.inside.extras c.push.new.self (c.self.inside.extras ++ Allow c.in_ok-new.field-0 ∷ [])
    c.push.ensures.ok c.push.ensures.err c.self.invariant (allowance_more false rows c.in_ok-new.field-0 c.self.invariant plain room)
