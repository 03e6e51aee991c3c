use Rattle.std.proofs.Common.{refl}
use Rattle.cable_world.proofs.Delivered.{loses}
use Rattle.cable_world.proofs.cable.Cable.lose.Goals as goal

pub returns : goal.returns
returns c =
    let old = c.args.self.now in
    loses old (record old { waiting = c.pop_front.new.self }) c.requires.ready refl refl refl refl c.pop_front.ensures.rest
