-- What the fields of a world show.
use Rattle.cable_world.specs.CableSteps.{IsOpen}
use Rattle.cable_world.specs.declared.cable.Cable.{Cable}
use Rattle.cable_world.specs.declared.stage.Stage.{Stage}
use Rattle.cable_world.specs.declared.stage.Stage.TheVariants as stages
use Rattle.cable_world.specs.Cables.{cable_of, scene_of}
use Rattle.cable_world.specs.Worlds.{StandsAt, WorldView}
use Rattle.cable_world.specs.declared.world.World.TheInside.{Inside}

abbrev pub world_of : Inside → WorldView
world_of world = record {
  script = record {
    ends = world.cable.setting.ends;
    drafts = world.cable.setting.drafts;
    counts = world.cable.setting.counts;
    events = world.events;
  };
  noted = (cable_of world.cable).noted;
  scene = scene_of (cable_of world.cable);
  handheld_refused = world.cable.handheld.refused;
  receiver_refused = world.cable.receiver.refused;
  stage = world.stage;
}

-- it can be played, or its report be made
abbrev pub IsOpenAt : Stage → Cable → Type 0
IsOpenAt stages.New cable = IsOpen cable
IsOpenAt stages.Played cable = IsOpen cable
IsOpenAt stages.Finished cable = Unit {0}
IsOpenAt stages.Broken cable = Unit {0}

pub record IsWorld (world : Inside) : Type 0 where
  pub stands : StandsAt world.stage (world_of world)
  pub open_at : IsOpenAt world.stage world.cable
