use Rattle.std.proofs.Common.{◌+◌, ◌∷◌, sym, ◌∙◌, ap}
use Rattle.dex_line.specs.Captured.{frames_from}
use Rattle.dex_line.specs.FrameShapes.{captured_seen}
use Rattle.dex_line.proofs.Captures.{frames_next, frames_none}
use Rattle.dex_line.proofs.frames.Frames.next.Goals as goal

pub returns : goal.returns
returns c =
    let place = c.self.inside.place in
    let size = c.in-Some.size in
    let shape = captured_seen c.in-Some.frame in
    sym c.self.view_is ∙ frames_next place size c.self.inside.rest.now shape c.in-Some.ensures
    ∙ ap (λ left. (place, shape) ∷ frames_from (place + size) left) (sym c.behind-self-inside.ensures)

pub returns-in_default : goal.returns-in_default
returns-in_default c =
    let none = frames_none c.self.inside.place c.self.inside.rest.now c.in_default.ensures in
    let view = sym c.self.view_is ∙ none in
    (view, view)
