-- What an end is to hear.
use Rattle.std.specs.Prelude.{◌≡◌}
use Rattle.dsd_values.specs.declared.role.Role.{Role}
use Rattle.dsd_station.specs.declared.feeding.Given.{Given}
use Rattle.cable_world.specs.CableLeft.{left_to_do}
use Rattle.cable_world.specs.CableSteps.{Goes}
use Rattle.cable_world.specs.Changing.{Changes}
use Rattle.cable_world.specs.Scenes.{Scene, fed}
use Rattle.cable_world.specs.declared.cable.Cable.{Cable}

abbrev pub given_to : Role → Given → Scene → Scene
given_to role what scene = fed scene role what

-- the port of this end is to give this, and no end has spent patience
pub record IsFed (role : Role) (what : Given) (old new : Cable) : Type 0 where
  pub goes : Goes (Changes (given_to role what)) old new
  pub left : left_to_do new ≡ left_to_do old
