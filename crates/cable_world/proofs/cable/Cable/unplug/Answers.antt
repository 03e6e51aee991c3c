use Rattle.std.proofs.Common.{refl}
use Rattle.cable_world.proofs.Going.{on_ok_so}
use Rattle.cable_world.proofs.Delivered.{unplugs}
use Rattle.cable_world.proofs.cable.Cable.unplug.Goals as goal

pub returns : goal.returns
returns c =
    let old = c.args.self.now in
    on_ok_so c.unplug_both.result c.unplug_both.ensures (unplugs old (record old { waiting = c.clear.new.self }) c.requires.ready refl refl refl refl c.unplug_both.new.self c.clear.ensures.items)
