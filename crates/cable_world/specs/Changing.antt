-- What happens on a cable without a step of an end.
use Rattle.std.specs.Prelude.{◌≡◌}
use Rattle.cable_world.specs.Obeying.{Becomes, Course}
use Rattle.cable_world.specs.Scenes.{Scene}
use Rattle.cable_world.specs.Seats.{SeatView}
use Rattle.cable_world.specs.declared.cable.Cable.{Cable}

-- no step is made, and the scene becomes this of itself
abbrev pub Changes : (Scene → Scene) → Course
Changes after scene made next = Becomes (after scene) made next

-- the end, its calls and what it has said are as they were
pub record KeepsEnd (old new : SeatView) : Type 0 where
  pub calls : new.log.calls ≡ old.log.calls
  pub starved : new.log.starved ≡ old.log.starved
  pub player : new.player ≡ old.player
  pub spoken : new.spoken ≡ old.spoken
  pub refused : new.refused ≡ old.refused

pub record KeepsEnds (old new : Cable) : Type 0 where
  pub setting : new.setting ≡ old.setting
  pub steps : new.steps.items ≡ old.steps.items
  pub handheld : KeepsEnd old.handheld new.handheld
  pub receiver : KeepsEnd old.receiver new.receiver
