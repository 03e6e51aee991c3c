use Rattle.std.proofs.Common.{Option, Result, Err, sym, ap, subst}
use Rattle.transaction_set.specs.Refusal.{Answers}
use Rattle.transaction_set.specs.declared.set_fault.SetFault.{SetFault}
use Rattle.dsd_record.specs.SetTexts.{set_refusal}
use Rattle.dsd_record.specs.declared.set_view.SetView.{SetView}
use Rattle.dsd_record.proofs.ReadOnce.{no_set_in}
use Rattle.own_turn.specs.Desks.{DeskView}
use Rattle.own_turn.specs.DueSets.{with_known_set}
use Rattle.own_turn.proofs.desk.Desk.meet_text.Goals as goal

pub returns-in-Err-Refused-clause-ok : goal.returns-in-Err-Refused-clause-ok
returns-in-Err-Refused-clause-ok c =
    let told = subst (λ (f : SetFault). (let r : Result SetView SetFault = Err f in Answers r (set_refusal c.args.set.now) (λ _. Unit {0}))) c.in-Err-Refused.field-0-is c.in-Err-Refused.ensures.exact in
    ap (λ (set : Option SetView). (let v : DeskView = record c.args.self.now { asked = with_known_set c.args.self.now.asked set } in v)) (sym (no_set_in c.args.set.now _ told))
