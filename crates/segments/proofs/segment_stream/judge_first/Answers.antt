use Rattle.std.proofs.Common.{sym, ap, subst, arith, ◌∙◌, ◌≡◌, ◌++◌, length, List, ℕ}
use Rattle.segments.specs.Streaming.{IsOpen}
use Rattle.segments.proofs.Pieces.{first_ends, first_fails, first_fits, first_waits}
use Rattle.segments.proofs.segment_stream.judge_first.Goals as goal

pub returns-in-Ok : goal.returns-in-Ok
returns-in-Ok c =
    let held = c.hold.ensures ∙ ap (λ (l : List ℕ). l ++ c.first.result.now) c.requires.nothing ∙ c.first.ensures in
    first_ends c.args.place c.args.piece.now c.in-Ok.size c.judged_front.new.ends.items c.hold.new.held.items c.in-Ok.ensures.right held

pub returns-in-Some : goal.returns-in-Some
returns-in-Some c =
    first_fails c.args.place c.args.piece.now c.in-Err.fault c.in-Some.fault c.args.held.now.items c.judged_front.new.ends.items c.in-Err.ensures.refused (sym c.lasting.ensures ∙ c.in-Some.is) c.requires.nothing

pub hold-requires-in-None : goal.hold-requires-in-None
hold-requires-in-None c =
    let fits = first_fits c.args.place c.args.piece.now c.in-Err.fault c.in-Err.ensures.refused (sym c.lasting.ensures ∙ c.in-None.is) in
    omega (arith, ap length c.requires.nothing)

pub returns-in-None : goal.returns-in-None
returns-in-None c =
    let held : c.hold-in-None.new.held.items ≡ c.args.piece.now = c.hold-in-None.ensures ∙ ap (λ (l : List ℕ). l ++ c.args.piece.now) c.requires.nothing in
    let waits = first_waits c.args.place c.args.piece.now c.in-Err.fault c.in-Err.ensures.refused (sym c.lasting.ensures ∙ c.in-None.is) in
    (subst (λ (l : List ℕ). IsOpen (record { rest = l; place = c.args.place })) (sym held) waits, held)
