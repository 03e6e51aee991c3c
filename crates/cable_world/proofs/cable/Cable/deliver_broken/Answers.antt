use Rattle.std.proofs.Common.{refl, ◌∙◌, ap}
use Rattle.dex_line.specs.Occurrence.{broken}
use Rattle.cable_world.proofs.Delivered.{delivers, delivers_none, none_waits}
use Rattle.cable_world.proofs.Going.{on_ok_so}
use Rattle.cable_world.proofs.cable.Cable.deliver_broken.Goals as goal

pub returns-in-Ok : goal.returns-in-Ok
returns-in-Ok c =
    let old = c.args.self.now in
    let mid = record old { waiting = c.pop_front.new.self } in
    on_ok_so c.hear.result c.hear.ensures.goes
    (delivers old mid c.requires.ready refl refl refl refl broken c.in-Some.frame c.in-Ok.bytes c.hear.new.self c.in-Some.ensures.items (c.in-Ok.ensures ∙ ap broken c.as_slice.ensures))

pub returns-in-None : goal.returns-in-None
returns-in-None c =
    let old = c.args.self.now in
    let mid = record old { waiting = c.pop_front.new.self } in
    delivers_none old mid c.requires.ready refl refl refl refl broken (none_waits old c.in-None.ensures.cases.0) (none_waits mid c.in-None.ensures.cases.1)
