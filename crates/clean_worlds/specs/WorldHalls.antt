-- Two ends of a world as the hall that a clean session is played in.
use Rattle.std.specs.Prelude.{◌≡◌, List, map, Option, Some}
use Rattle.dsd_values.specs.declared.role.Role.{Role}
use Rattle.dsd_record.specs.Choices.{Chooser}
use Rattle.dsd_station.specs.Replayed.{State}
use Rattle.dsd_journal.specs.declared.header.Header.{Header}
use Rattle.dex_line.specs.FrameSpelling.{spelling}
use Rattle.dex_line.specs.Hearing.{AreSpoken}
use Rattle.dsd_end.specs.Standings.{Standing}
use Rattle.clean_sessions.specs.Halls.{CleanStep, Hall}
use Rattle.cable_world.specs.Diligence.{ComesBy}
use Rattle.cable_world.specs.Noted.{Noted}
use Rattle.cable_world.specs.Scenes.{Scene, sent_to, side}
use Rattle.cable_world.specs.Steps.{other}
use Rattle.clean_worlds.specs.WholeFrames.{Attends}

-- both ends come by these steps from where they stood to where they stand
abbrev pub BothCome : (Role → Chooser) → (Role → Header) → (Role → State) → (Role → Option Standing) → List Noted → (Role → Option Standing) → Type 0
BothCome chooser header state before noted after = (role : Role) → ComesBy role (chooser role) (header role) (state role) (before role) noted (after role)

-- This hall is what a scene shows: both ends attend, and the frames on their way are those that wait, all of them for the near one.
pub record ShowsHall (chooser : Role → Chooser) (header : Role → Header) (near far : Role) (hall : Hall) (scene : Scene) (standing : Role → Option Standing) : Type 0 where
  pub roles : (other near ≡ far) × (other far ≡ near)
  pub choosers : (hall.near.chooser ≡ chooser near) × (hall.far.chooser ≡ chooser far)
  pub near_attends : Attends (header near) hall.near.standing (side scene near)
  pub far_attends : Attends (header far) hall.far.standing (side scene far)
  pub near_stands : standing near ≡ Some hall.near.standing
  pub far_stands : standing far ≡ Some hall.far.standing
  pub waiting : scene.waiting ≡ sent_to near (map spelling hall.flight)
  pub spoken : AreSpoken hall.flight

-- a step of the hall, and what the next scene shows behind it
pub record IsCleanRound (chooser : Role → Chooser) (header : Role → Header) (near far : Role) (hall : Hall) (next : Scene) (standing : Role → Option Standing) : Type 0 where
  pub new : Hall
  pub step : CleanStep hall new
  pub shows : ShowsHall chooser header far near new next standing
