use Rattle.std.proofs.Common.{rules, List, ℕ, ◌∙◌, sym, ap, subst}
use Rattle.segments.specs.PartEnds.{IsJudged}
use Rattle.segments.specs.SegmentCut.{first_of}
use Rattle.segments.proofs.Pieces.{ends_there, fails_there, waits_there}
use Rattle.segments.proofs.segment_stream.judge_more.Goals as goal

pub returns-in-Ok : goal.returns-in-Ok
returns-in-Ok c =
    let judged = subst (λ (l : List ℕ). IsJudged c.args.place l c.judged_front.new.ends.items c.in-Ok.size) c.as_slice.ensures.value c.in-Ok.ensures.right in
    ends_there c.args.place c.args.held.now.items c.args.piece.now c.deciding.result.now c.hold.new.held.items c.hold.ensures c.deciding.ensures.front_of c.in-Ok.size c.judged_front.new.ends.items c.truncate.new.self.items c.requires.waits judged c.truncate.ensures.items

pub returns-in-Some : goal.returns-in-Some
returns-in-Some c =
    let refused = ap (first_of c.args.place) (sym c.as_slice.ensures.value) ∙ c.in-Err.ensures.refused in
    fails_there c.args.place c.args.held.now.items c.args.piece.now c.deciding.result.now c.hold.new.held.items c.hold.ensures c.deciding.ensures.front_of c.in-Err.fault c.in-Some.fault c.clear.new.self.items c.judged_front.new.ends.items refused (sym c.lasting.ensures ∙ c.in-Some.is) c.clear.ensures

pub returns-in-None : goal.returns-in-None
returns-in-None c =
    let refused = ap (first_of c.args.place) (sym c.as_slice.ensures.value) ∙ c.in-Err.ensures.refused in
    waits_there c.args.place c.args.held.now.items c.args.piece.now c.deciding.result.now c.hold.new.held.items c.hold.ensures c.deciding.ensures.front_of c.in-Err.fault _ c.deciding.ensures (search rules) refused (sym c.lasting.ensures ∙ c.in-None.is)
