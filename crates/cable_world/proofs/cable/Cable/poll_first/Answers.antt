use Rattle.std.proofs.Common.{sym, subst}
use Rattle.dsd_values.specs.declared.role.Role.{Role}
use Rattle.cable_world.specs.CableSteps.{Goes}
use Rattle.cable_world.specs.Obeying.{IsFirstPolled}
use Rattle.cable_world.proofs.StartedEnds.{receiver_not_polled}
use Rattle.cable_world.proofs.cable.Cable.poll_first.Goals as goal

pub returns-in-Receiver : goal.returns-in-Receiver
returns-in-Receiver c = subst (λ (r : Role). Goes (IsFirstPolled r) c.args.self.now c.args.self.now) (sym c.in-Receiver.is) (receiver_not_polled c.args.self.now c.requires.ready)
