use Rattle.std.proofs.Common.{◌≡◌, ◌-◌, ℕ, List, Ok, Err, Some, None, sym, ◌∙◌, ap, subst, arith}
use Rattle.segments.specs.Streaming.{Stream, reached}
use Rattle.dxs_envelope.specs.TextParts.{Course, found_at}
use Rattle.dxs_envelope.specs.TextPieces.{HearsText, TextAt, text_at}
use Rattle.dxs_envelope.specs.declared.fault.EnvelopeFault.{EnvelopeFault}
use Rattle.dxs_envelope.proofs.Pieced.{EndsAt, ends_at, err_fault, few_behind, judged_err, judged_ok, known_heard, nothing_begun, starts_behind, unread_heard}
use Rattle.dxs_envelope.proofs.text_stream.TextStream.hear.Goals as goal

pub returns-in-Some : goal.returns-in-Some
returns-in-Some c =
    let own = c.self.inside in
    let fails : own.course.fault ≡ Some c.in-Some.fault = sym c.fault.ensures ∙ c.in-Some.is in
    subst (λ (t : TextAt). HearsText t (text_at own.course own.segments None) c.args.piece.now (Err c.in-Some.fault)) c.self.view_is
    (known_heard (text_at own.course own.segments own.kind) c.args.piece.now c.in-Some.fault fails)

pub judged-requires : goal.judged-requires
judged-requires c =
    let own = c.self.inside in
    let new = c.take.new.self in
    let sound : own.course.fault ≡ None = sym c.fault.ensures ∙ c.in_default.is in
    let ends = subst (EndsAt own.segments.begun) (sym c.in-Ok.ensures.left) (ends_at own.segments c.args.piece.now (c.self.invariant.sound sound)) in
    record { placed = starts_behind own.segments.begun new (found_at own.course.standing) ends c.self.invariant.few }

pub invariant_of-self-in-Ok-judged : goal.invariant_of-self-in-Ok-judged
invariant_of-self-in-Ok-judged c =
    let own = c.self.inside in
    let sound : own.course.fault ≡ None = sym c.fault.ensures ∙ c.in_default.is in
    let ends = subst (EndsAt own.segments.begun) (sym c.in-Ok.ensures.left) (ends_at own.segments c.args.piece.now (c.self.invariant.sound sound)) in
    record {
      sound = λ _. c.in-Ok.ensures.took.goes;
      few = few_behind own.course c.judged.new.course own.segments.begun c.take.new.self (Ok c.in-Ok-judged.kind) ends c.self.invariant.few c.in-Ok-judged.ensures;
    }

pub invariant_of-self-in-Err-judged : goal.invariant_of-self-in-Err-judged
invariant_of-self-in-Err-judged c =
    let own = c.self.inside in
    let sound : own.course.fault ≡ None = sym c.fault.ensures ∙ c.in_default.is in
    let ends = subst (EndsAt own.segments.begun) (sym c.in-Ok.ensures.left) (ends_at own.segments c.args.piece.now (c.self.invariant.sound sound)) in
    record {
      sound = λ _. c.in-Ok.ensures.took.goes;
      few = few_behind own.course c.judged.new.course own.segments.begun c.take.new.self (Err c.in-Err-judged.fault) ends c.self.invariant.few c.in-Err-judged.ensures;
    }

pub invariant_of-self-in-Err : goal.invariant_of-self-in-Err
invariant_of-self-in-Err c =
    let own = c.self.inside in
    let new : Stream = c.take.new.self in
    let sound : own.course.fault ≡ None = sym c.fault.ensures ∙ c.in_default.is in
    let fails : new.fault ≡ Some c.in-Err.fault = err_fault new.fault (reached new - reached own.segments) c.in-Err.fault c.in-Err.ensures.answer in
    let left = c.in-Err.ensures.left in
    let begun = nothing_begun own.segments c.args.piece.now c.in-Err.fault (c.self.invariant.sound sound) (ap (λ (s : Stream). s.fault) (sym left) ∙ fails) in
    let place : new.begun.place ≡ own.segments.begun.place = ap (λ (s : Stream). s.begun.place) left ∙ begun.1 in
    let standing = ap (λ (k : Course). found_at k.standing) c.fail.ensures in
    record {
      sound = λ none. let no : Some c.unreadable-fault.result ≡ None = sym (ap (λ (k : Course). k.fault) c.fail.ensures) ∙ none in cc (no);
      few = omega (arith, place, standing, c.self.invariant.few);
    }

pub returns-in-Ok-judged : goal.returns-in-Ok-judged
returns-in-Ok-judged c =
    let own = c.self.inside in
    let old : TextAt = text_at own.course own.segments own.kind in
    let sound : own.course.fault ≡ None = sym c.fault.ensures ∙ c.in_default.is in
    subst (λ (t : TextAt). HearsText t (text_at c.judged.new.course c.take.new.self c.in-Ok-judged.kind) c.args.piece.now (Ok c.in-Ok.size)) c.self.view_is
    (judged_ok old c.args.piece.now c.take.new.self c.in-Ok.size sound c.in-Ok.ensures.left c.in-Ok.ensures.took c.judged.new.course c.in-Ok-judged.kind c.in-Ok-judged.ensures)

pub returns-in-Err-judged : goal.returns-in-Err-judged
returns-in-Err-judged c =
    let own = c.self.inside in
    let old : TextAt = text_at own.course own.segments own.kind in
    let sound : own.course.fault ≡ None = sym c.fault.ensures ∙ c.in_default.is in
    subst (λ (t : TextAt). HearsText t (text_at c.judged.new.course c.take.new.self None) c.args.piece.now (Err c.in-Err-judged.fault)) c.self.view_is
    (judged_err old c.args.piece.now c.take.new.self c.in-Ok.size sound c.in-Ok.ensures.left c.in-Ok.ensures.took c.judged.new.course c.in-Err-judged.fault c.in-Err-judged.ensures)

pub returns-in-Err : goal.returns-in-Err
returns-in-Err c =
    let own = c.self.inside in
    let old : TextAt = text_at own.course own.segments own.kind in
    let new : Stream = c.take.new.self in
    let piece : List ℕ = c.args.piece.now in
    let sound : own.course.fault ≡ None = sym c.fault.ensures ∙ c.in_default.is in
    let fails : new.fault ≡ Some c.in-Err.fault = err_fault new.fault (reached new - reached own.segments) c.in-Err.fault c.in-Err.ensures.answer in
    let heard = unread_heard old piece new sound (c.self.invariant.sound sound) c.in-Err.ensures.left c.in-Err.fault c.place.result fails c.in-Err.ensures.refused c.place.ensures in
    let told = subst (λ (f : EnvelopeFault). HearsText old (text_at (record { standing = own.course.standing; fault = Some f }) new None) piece (Err f)) (sym c.unreadable-fault.ensures) heard in
    let met = subst (λ (k : Course). HearsText old (text_at k new None) piece (Err c.unreadable-fault.result)) (sym c.fail.ensures) told in
    subst (λ (t : TextAt). HearsText t (text_at c.fail.new.self new None) piece (Err c.unreadable-fault.result)) c.self.view_is met
