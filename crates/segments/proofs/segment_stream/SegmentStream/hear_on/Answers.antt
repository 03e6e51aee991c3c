use Rattle.std.proofs.Common.{sym, subst, arith, Bool}
use Rattle.segments.specs.Streaming.{KeepsStream}
use Rattle.segments.proofs.Streams.{empty_kept}
use Rattle.segments.proofs.Pieces.{begun_self, heard_err, heard_ok}
use Rattle.segments.proofs.segment_stream.SegmentStream.hear_on.Goals as goal

pub invariant_of-self-in-Err : goal.invariant_of-self-in-Err
invariant_of-self-in-Err c =
    let begun = begun_self c.self.inside.place c.self.inside.held.items c.args.piece.now c.self.inside.whole c.self.inside.fault c.args.self.now c.self.view_is c.requires.untold c.requires.sound in
    let placed = c.self.invariant.placed in
    subst (λ (w : Bool). KeepsStream c.self.inside.place c.judge_on.new.held.items c.judge_on.new.ends.items w) (sym begun)
    (empty_kept c.self.inside.place c.judge_on.new.held.items c.judge_on.new.ends.items c.in-Err.ensures.2 (omega arith))

pub returns-in-Ok-clause-left : goal.returns-in-Ok-clause-left
returns-in-Ok-clause-left c =
    heard_ok c.self.inside.place c.self.inside.held.items c.args.piece.now c.self.inside.whole c.self.inside.fault c.args.self.now c.self.view_is c.requires.untold c.requires.sound c.judge_on.new.held.items c.judge_on.new.ends.items c.in-Ok.whole c.in-Ok.ensures

pub returns-in-Err-clause-left : goal.returns-in-Err-clause-left
returns-in-Err-clause-left c =
    heard_err c.self.inside.place c.self.inside.held.items c.args.piece.now c.self.inside.whole c.self.inside.fault c.args.self.now c.self.view_is c.requires.untold c.requires.sound c.judge_on.new.held.items c.judge_on.new.ends.items c.in-Err.fault c.in-Err.ensures
