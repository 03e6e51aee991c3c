use Rattle.std.proofs.Common.{refl}
use Rattle.cable_world.specs.Obeying.{unchanged}
use Rattle.cable_world.proofs.Delivered.{delivers, delivers_none, none_waits}
use Rattle.cable_world.proofs.Going.{on_ok_so}
use Rattle.cable_world.proofs.cable.Cable.deliver.Goals as goal

pub returns-in-Some-clause-goes : goal.returns-in-Some-clause-goes
returns-in-Some-clause-goes c =
    let old = c.args.self.now in
    let mid = record old { waiting = c.pop_front.new.self } in
    on_ok_so c.hear.result c.hear.ensures.goes (delivers old mid c.requires.ready refl refl refl refl unchanged c.in-Some.frame c.in-Some.frame.bytes c.hear.new.self c.in-Some.ensures.items refl)

pub returns-in-None-clause-goes : goal.returns-in-None-clause-goes
returns-in-None-clause-goes c =
    let old = c.args.self.now in
    let mid = record old { waiting = c.pop_front.new.self } in
    delivers_none old mid c.requires.ready refl refl refl refl unchanged (none_waits old c.in-None.ensures.cases.0) (none_waits mid c.in-None.ensures.cases.1)
