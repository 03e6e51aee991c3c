use Rattle.dsd_values.specs.declared.role.Role.TheVariants.{Receiver, Supplier}
use Rattle.dsd_station.specs.Replayed.{state_of}
use Rattle.dsd_end.proofs.Agreeing.{agree}
use Rattle.cable_world.proofs.JoinedRuns.{lived}
use Rattle.cable_world.proofs.WorldCable.{world_cable}
use Rattle.cable_world.proofs.world_laws.worlds_agree.Goals as goal

pub returns : goal.returns
returns c = λ events supplier receiver steps last one other obeys none nothing speak its those.
    let one_list = c.an_image_holds_one_list.ensures in
    let (s, life) = lived one_list Supplier one steps (state_of supplier.calls) its.fine its.nothing its.tells in
    let (r, other_life) = lived one_list Receiver other steps (state_of receiver.calls) those.fine those.nothing those.tells in (
      s,
      r,
      life,
      other_life,
      (λ free. world_cable events supplier receiver steps last s r obeys free none nothing speak life.are other_life.are),
      (λ cable clash. agree s r life.life other_life.life cable clash),
    )
