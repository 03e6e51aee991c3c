use Rattle.std.proofs.Common.{None, refl}
use Rattle.cable_world.specs.Obeying.{first_scene}
use Rattle.clean_worlds.specs.CleanPlays.{headers}
use Rattle.clean_worlds.proofs.RunningKept.{running_hear}
use Rattle.clean_worlds.proofs.ScriptsKept.{hears_first, keeps_script}
use Rattle.clean_worlds.proofs.world_laws.running_ends_can_hear.Goals as goal

pub returns : goal.returns
returns c = λ id other chooser events handheld receiver state noted next standing obeys come.
    running_hear standing next (keeps_script chooser (headers id other) refl refl events (first_scene handheld receiver) next noted state (λ role. None) standing obeys come (hears_first handheld receiver (λ role. None)))
