use Rattle.std.proofs.Common.{refl, sym, ◌∙◌}
use Rattle.cable_world.proofs.Delivered.{again_none, again_some}
use Rattle.cable_world.proofs.Going.{on_ok_so}
use Rattle.cable_world.proofs.cable.Cable.again.Goals as goal

pub returns-in-Ok-Some : goal.returns-in-Ok-Some
returns-in-Ok-Some c =
    on_ok_so c.hear.result c.hear.ensures.goes
    (again_some c.args.role c.args.number c.args.self.now c.in-Ok-Some.frame c.in-Ok-Some.frame c.hear.new.self (sym c.in-Ok-Some.ensures ∙ c.in-Ok-Some.field-0-is) refl)

pub returns-in-Ok-None : goal.returns-in-Ok-None
returns-in-Ok-None c = again_none c.args.role c.args.number c.args.self.now (sym c.in-Ok-None.ensures ∙ c.in-Ok-None.field-0-is) c.requires.ready
