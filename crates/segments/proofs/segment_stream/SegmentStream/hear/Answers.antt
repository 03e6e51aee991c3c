use Rattle.std.proofs.Common.{sym, ap, ◌∙◌, ◌≡◌, None}
use Rattle.segments.specs.Streaming.{Stream, after_piece}
use Rattle.segments.proofs.Streams.{after_failed, after_untold, fault_is}
use Rattle.segments.proofs.segment_stream.SegmentStream.hear.Goals as goal

pub returns-in-Some-clause-left : goal.returns-in-Some-clause-left
returns-in-Some-clause-left c =
    let known = ap (λ (s : Stream). s.fault) (sym c.let_go.ensures.value ∙ sym c.self.view_is) ∙ fault_is c.self.inside.place c.self.inside.held.items c.self.inside.whole c.self.inside.fault ∙ c.in-Some.is in
    c.let_go.ensures.value ∙ after_failed c.args.self.now c.args.piece.now c.in-Some.fault known

pub returns-clause-left : goal.returns-clause-left
returns-clause-left c =
    let sound : c.args.self.now.fault ≡ None = ap (λ (s : Stream). s.fault) (sym c.let_go.ensures.value ∙ sym c.self.view_is) ∙ fault_is c.self.inside.place c.self.inside.held.items c.self.inside.whole c.self.inside.fault ∙ c.in_default.is in
    c.hear_on.ensures.left ∙ ap (λ (s : Stream). after_piece s c.args.piece.now) c.let_go.ensures.value ∙ after_untold c.args.self.now c.args.piece.now sound
