use Rattle.std.proofs.Common.{refl, sym}
use Rattle.transaction_set.proofs.Reading.{same_err}
use Rattle.dsd_record.specs.declared.set_view.SetView.TheVariants as sets
use Rattle.dsd_record.proofs.ReadOnce.{set_in_is, sized}
use Rattle.dsd_record.proofs.Sets.{answer_only, base_only, one}
use Rattle.dsd_record.proofs.from_text.set_of.Goals as goal

pub returns-in_err-answer-clause-only : goal.returns-in_err-answer-clause-only
returns-in_err-answer-clause-only c = λ set is.
    answer_only c.args.text.now _ _ _ _ (same_err _ _ c.from_residual.ensures) (sym c.if-begins_as_answer.ensures) c.in_err-answer.ensures.exact set is

pub returns-then-begins_as_answer-clause-only : goal.returns-then-begins_as_answer-clause-only
returns-then-begins_as_answer-clause-only c = λ set is. (refl, one c.args.text.now (sets.Answer c.in_ok-answer.answer c.in_ok-answer.seal) set c.in_ok-answer.ensures.found is)

pub returns-in_err-base-clause-only : goal.returns-in_err-base-clause-only
returns-in_err-base-clause-only c = λ set is.
    base_only c.args.text.now _ _ _ _ (same_err _ _ c.from_residual-in_err-base.ensures) (sym c.if-begins_as_answer.ensures) c.in_err-base.ensures.exact set is

pub returns-clause-only : goal.returns-clause-only
returns-clause-only c = λ set is. (refl, one c.args.text.now (sets.Base c.in_ok-base.base c.in_ok-base.seal) set c.in_ok-base.ensures.found is)

pub returns-then-begins_as_answer-clause-read : goal.returns-then-begins_as_answer-clause-read
returns-then-begins_as_answer-clause-read c = set_in_is c.args.text.now (sets.Answer c.in_ok-answer.answer c.in_ok-answer.seal) c.in_ok-answer.ensures.found

pub returns-then-begins_as_answer-clause-sized : goal.returns-then-begins_as_answer-clause-sized
returns-then-begins_as_answer-clause-sized c = sized c.args.text.now (sets.Answer c.in_ok-answer.answer c.in_ok-answer.seal) c.in_ok-answer.ensures.found

pub returns-clause-read : goal.returns-clause-read
returns-clause-read c = set_in_is c.args.text.now (sets.Base c.in_ok-base.base c.in_ok-base.seal) c.in_ok-base.ensures.found

pub returns-clause-sized : goal.returns-clause-sized
returns-clause-sized c = sized c.args.text.now (sets.Base c.in_ok-base.base c.in_ok-base.seal) c.in_ok-base.ensures.found
