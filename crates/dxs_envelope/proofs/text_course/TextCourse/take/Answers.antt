use Rattle.std.proofs.Common.{◌≡◌, ℕ, Option, Some, None, sym, ◌∙◌, ap}
use Rattle.dxs_envelope.specs.TextParts.{Course, bare, fault_at}
use Rattle.dxs_envelope.specs.FirstFault.{after}
use Rattle.dxs_envelope.specs.declared.fault.EnvelopeFault.{EnvelopeFault}
use Rattle.dxs_envelope.proofs.Courses.{after_failed, after_right, after_wrong}
use Rattle.dxs_envelope.proofs.Steps.{none_left}
use Rattle.dxs_envelope.proofs.text_course.TextCourse.take.Goals as goal

pub returns-in-Some-clause-left : goal.returns-in-Some-clause-left
returns-in-Some-clause-left c =
    sym (after_failed c.args.self.now c.args.segment.now c.in-Some.fault (ap (λ (k : Course). k.fault) (sym c.self.view_is) ∙ c.in-Some.is))

pub returns-in-Some-reason_against-clause-left : goal.returns-in-Some-reason_against-clause-left
returns-in-Some-reason_against-clause-left c =
    let old : Course = c.args.self.now in
    let reason = c.in-Some-reason_against.reason in
    let sound : old.fault ≡ None = ap (λ (k : Course). k.fault) (sym c.self.view_is) ∙ none_left _ c.in_default.not-Some in
    ap (λ (k : Course). record { standing = k.standing; fault = Some (fault_at c.start.result reason) }) c.self.view_is
    ∙ ap (λ (n : ℕ). record { standing = old.standing; fault = Some (fault_at n reason) }) c.start.ensures
    ∙ sym (after_wrong old c.args.segment.now reason sound (sym c.reason_against.ensures ∙ c.in-Some-reason_against.is))

pub returns-clause-left : goal.returns-clause-left
returns-clause-left c =
    let old : Course = c.args.self.now in
    let sound : old.fault ≡ None = ap (λ (k : Course). k.fault) (sym c.self.view_is) ∙ none_left _ c.in_default.not-Some in
    let right = sym c.reason_against.ensures ∙ none_left _ c.in_default-reason_against.not-Some in
    c.go_on.ensures.stands
    ∙ ap (λ (f : Option EnvelopeFault). record { standing = bare (after old.standing c.args.segment.now); fault = f }) sound
    ∙ sym (after_right old c.args.segment.now sound right)
