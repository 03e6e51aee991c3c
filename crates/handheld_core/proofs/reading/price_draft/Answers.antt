use Rattle.std.proofs.Common.{◌≡◌, ℕ, List, Ok, Err, false, inr, sym, ap, subst, ◌∙◌}
use Rattle.dsd_values.specs.Answers.{UnlessMemory}
use Rattle.dsd_record.specs.declared.draft_fault.DraftFault.TheVariants.{Memory}
use Rattle.handheld_core.specs.DraftTexts.{is_known}
use Rattle.handheld_core.specs.Reading.{base_of, priced}
use Rattle.handheld_core.proofs.Made.{made_of, number_made}
use Rattle.handheld_core.proofs.reading.price_draft.Goals as goal

pub finish_draft-requires-clause-fresh : goal.finish_draft-requires-clause-fresh
finish_draft-requires-clause-fresh c =
    let is : base_of c.args.draft ≡ Ok c.in-Ok.base = sym (made_of c.args.draft c.into_parts-extras.result.0 c.without_spare.result c.new.result c.into_parts-extras.ensures.extras (c.without_spare.ensures ∙ c.into_parts-extras.ensures.lines) c.new.ensures) ∙ c.in-Ok.is in
    subst (λ (n : List ℕ). is_known n c.args.done ≡ false) (number_made c.args.draft c.in-Ok.base is) c.requires.fresh

pub returns-in-Ok : goal.returns-in-Ok
returns-in-Ok c =
    let is : base_of c.args.draft ≡ Ok c.in-Ok.base = sym (made_of c.args.draft c.into_parts-extras.result.0 c.without_spare.result c.new.result c.into_parts-extras.ensures.extras (c.without_spare.ensures ∙ c.into_parts-extras.ensures.lines) c.new.ensures) ∙ c.in-Ok.is in
    subst (λ w. UnlessMemory Memory c.finish_draft.result w) (ap (priced c.args.done c.args.draft c.args.line.now) (sym is)) c.finish_draft.ensures

pub returns-in-Err : goal.returns-in-Err
returns-in-Err c =
    let is : base_of c.args.draft ≡ Err c.in-Err.field-0 = sym (made_of c.args.draft c.into_parts-extras.result.0 c.without_spare.result c.new.result c.into_parts-extras.ensures.extras (c.without_spare.ensures ∙ c.into_parts-extras.ensures.lines) c.new.ensures) ∙ c.in-Err.is in
    inr (ap (λ f. Err f) c.refuse.ensures ∙ ap (priced c.args.done c.args.draft c.args.line.now) (sym is))
