use Rattle.dsd_values.specs.declared.role.Role.TheVariants.{Receiver, Supplier}
use Rattle.cable_world.specs.Noted.{steps_of}
use Rattle.cable_world.specs.Obeying.{first_scene}
use Rattle.clean_worlds.proofs.SparedScripts.{spares_script, unarmed_first}
use Rattle.clean_worlds.proofs.fault_laws.unarmed_scripts_leave_nothing_armed.Goals as goal

pub returns-clause-scenes : goal.returns-clause-scenes
returns-clause-scenes c = λ events scene made next not obeys spared. spares_script events not scene made next obeys spared

pub returns-clause-worlds : goal.returns-clause-worlds
returns-clause-worlds c = λ world events e not.
    spares_script events not (first_scene e.handheld e.receiver) (steps_of e.before) e.between e.obeys (unarmed_first e.handheld e.receiver (e.unarmed Supplier) (e.unarmed Receiver))
