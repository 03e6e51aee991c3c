use Rattle.std.proofs.Common.{Ok, Option, refl, sym, ap, subst, ◌∙◌}
use Rattle.std.specs.Option.{IfSome}
use Rattle.segments.specs.SegmentSpelling.{IsFront}
use Rattle.segments.specs.Views.{Seg}
use Rattle.transaction_set.proofs.Reading.{same_err}
use Rattle.transaction_set.proofs.Taking.{broken_in, broken_in_within, goes_on_in, refused_in, refused_in_within, takes_fault, whole_in}
use Rattle.adjustment_895.specs.FirstRefusal.{judged}
use Rattle.adjustment_895.specs.Said.{nothing}
use Rattle.adjustment_895.proofs.OneAnswer.{only_err}
use Rattle.adjustment_895.proofs.from_text.read_895.Goals as goal

pub loop-segment-preserved : goal.loop-segment-preserved
loop-segment-preserved c =
    let front : IsFront c.in-Ok-Some.segment c.loop-segment.segments c.next.new.self =
    subst (λ (o : Option Seg). IfSome o (λ s. IsFront s c.loop-segment.segments c.next.new.self)) c.in-Ok-Some.field-0-is c.in-Ok-Some.ensures.spelled in
    goes_on_in judged nothing c.args.text.now c.loop-segment.reader c.take.new.self c.loop-segment.segments c.next.new.self c.in-Ok-Some.segment c.loop-segment.invariant front c.in_ok-take-in-Ok-Some.ensures.taken

pub returns-in_err-take-in-Ok-Some-clause-exact : goal.returns-in_err-take-in-Ok-Some-clause-exact
returns-in_err-take-in-Ok-Some-clause-exact c =
    let front : IsFront c.in-Ok-Some.segment c.loop-segment.segments c.next.new.self =
    subst (λ (o : Option Seg). IfSome o (λ s. IsFront s c.loop-segment.segments c.next.new.self)) c.in-Ok-Some.field-0-is c.in-Ok-Some.ensures.spelled in
    let stands = goes_on_in judged nothing c.args.text.now c.loop-segment.reader c.take.new.self c.loop-segment.segments c.next.new.self c.in-Ok-Some.segment c.loop-segment.invariant front c.in_err-take-in-Ok-Some.ensures.taken in
    refused_in judged nothing _ c.args.text.now c.take.new.self c.next.new.self _ _ _ stands
    (takes_fault judged nothing c.loop-segment.reader c.take.new.self c.in-Ok-Some.segment _ c.in_err-take-in-Ok-Some.ensures.exact) (same_err _ _ c.from_residual-in_err-take-in-Ok-Some.ensures)

pub returns-in_err-take-in-Ok-Some-clause-within : goal.returns-in_err-take-in-Ok-Some-clause-within
returns-in_err-take-in-Ok-Some-clause-within c =
    let front : IsFront c.in-Ok-Some.segment c.loop-segment.segments c.next.new.self =
    subst (λ (o : Option Seg). IfSome o (λ s. IsFront s c.loop-segment.segments c.next.new.self)) c.in-Ok-Some.field-0-is c.in-Ok-Some.ensures.spelled in
    let stands = goes_on_in judged nothing c.args.text.now c.loop-segment.reader c.take.new.self c.loop-segment.segments c.next.new.self c.in-Ok-Some.segment c.loop-segment.invariant front c.in_err-take-in-Ok-Some.ensures.taken in
    refused_in_within judged nothing _ c.args.text.now c.take.new.self c.next.new.self _ _ stands
    (takes_fault judged nothing c.loop-segment.reader c.take.new.self c.in-Ok-Some.segment _ c.in_err-take-in-Ok-Some.ensures.exact) (same_err _ _ c.from_residual-in_err-take-in-Ok-Some.ensures)

pub returns-in_err-take-in-Ok-Some-clause-only : goal.returns-in_err-take-in-Ok-Some-clause-only
returns-in_err-take-in-Ok-Some-clause-only c = λ answer seal is.
    let front : IsFront c.in-Ok-Some.segment c.loop-segment.segments c.next.new.self =
    subst (λ (o : Option Seg). IfSome o (λ s. IsFront s c.loop-segment.segments c.next.new.self)) c.in-Ok-Some.field-0-is c.in-Ok-Some.ensures.spelled in
    let stands = goes_on_in judged nothing c.args.text.now c.loop-segment.reader c.take.new.self c.loop-segment.segments c.next.new.self c.in-Ok-Some.segment c.loop-segment.invariant front c.in_err-take-in-Ok-Some.ensures.taken in
    let fault = takes_fault judged nothing c.loop-segment.reader c.take.new.self c.in-Ok-Some.segment _ c.in_err-take-in-Ok-Some.ensures.exact in
    only_err c.args.text.now _ _ answer seal (λ (x : Unit {0}). Unit {0}) _ (same_err _ _ c.from_residual-in_err-take-in-Ok-Some.ensures)
    (refused_in judged nothing (Unit {0}) c.args.text.now c.take.new.self c.next.new.self _ _ (λ x. Unit {0}) stands fault refl) is

pub returns-in-Ok-None-clause-found : goal.returns-in-Ok-None-clause-found
returns-in-Ok-None-clause-found c =
    c.finish.ensures.found c.args.text.now (whole_in judged nothing c.args.text.now c.loop-segment.reader c.loop-segment.segments c.loop-segment.invariant (c.in-Ok-None.ensures.end.0 (ap (λ (o : Option Seg). Ok o) c.in-Ok-None.field-0-is)))

pub returns-in-Ok-None-clause-only : goal.returns-in-Ok-None-clause-only
returns-in-Ok-None-clause-only c =
    c.finish.ensures.only c.args.text.now (whole_in judged nothing c.args.text.now c.loop-segment.reader c.loop-segment.segments c.loop-segment.invariant (c.in-Ok-None.ensures.end.0 (ap (λ (o : Option Seg). Ok o) c.in-Ok-None.field-0-is)))

pub returns-in-Ok-None-clause-exact : goal.returns-in-Ok-None-clause-exact
returns-in-Ok-None-clause-exact c =
    c.finish.ensures.exact c.args.text.now (whole_in judged nothing c.args.text.now c.loop-segment.reader c.loop-segment.segments c.loop-segment.invariant (c.in-Ok-None.ensures.end.0 (ap (λ (o : Option Seg). Ok o) c.in-Ok-None.field-0-is)))

pub returns-in-Ok-None-clause-within : goal.returns-in-Ok-None-clause-within
returns-in-Ok-None-clause-within c =
    c.finish.ensures.within c.args.text.now (whole_in judged nothing c.args.text.now c.loop-segment.reader c.loop-segment.segments c.loop-segment.invariant (c.in-Ok-None.ensures.end.0 (ap (λ (o : Option Seg). Ok o) c.in-Ok-None.field-0-is)))

pub returns-in-Err-clause-exact : goal.returns-in-Err-clause-exact
returns-in-Err-clause-exact c =
    broken_in judged nothing _ c.args.text.now c.loop-segment.reader c.loop-segment.segments c.in-Err.fault c.broken.result _ c.loop-segment.invariant (sym c.next.ensures.answer ∙ c.in-Err.is) c.broken.ensures.value

pub returns-in-Err-clause-within : goal.returns-in-Err-clause-within
returns-in-Err-clause-within c =
    broken_in_within judged nothing (Unit {0}) c.args.text.now c.loop-segment.reader c.loop-segment.segments c.in-Err.fault c.broken.result c.loop-segment.invariant c.broken.ensures.value

pub returns-in-Err-clause-only : goal.returns-in-Err-clause-only
returns-in-Err-clause-only c = λ answer seal is.
    only_err c.args.text.now c.broken.result _ answer seal (λ (x : Unit {0}). Unit {0}) _ refl
    (broken_in judged nothing (Unit {0}) c.args.text.now c.loop-segment.reader c.loop-segment.segments c.in-Err.fault c.broken.result (λ x. Unit {0}) c.loop-segment.invariant (sym c.next.ensures.answer ∙ c.in-Err.is) c.broken.ensures.value) is
