-- What contracts see of two ends on one cable, and of the list of their steps.
use Rattle.std.specs.Prelude.{ℕ, ◌-◌, ◌≤◌, List, [], ◌∷◌, drop, length, map, take}
use Rattle.dsd_values.specs.declared.role.Role.{Role}
use Rattle.dsd_values.specs.declared.role.Role.TheVariants.{Receiver, Supplier}
use Rattle.dsd_station.specs.declared.call.Call.{Call}
use Rattle.cable_world.specs.Noted.{Noted}
use Rattle.cable_world.specs.Scenes.{Scene}
use Rattle.cable_world.specs.Seats.{SeatView, side_of}
use Rattle.cable_world.specs.declared.cable.Cable.{Cable}
use Rattle.cable_world.specs.declared.cable.Waiting.{Waiting}
use Rattle.cable_world.specs.StepsKept.{StepView}
use Rattle.cable_world.specs.declared.setting.Setting.{Setting}

pub record CableView : Type 0 where
  pub setting : Setting
  pub handheld : SeatView
  pub receiver : SeatView
  pub waiting : List (Role × List ℕ)
  pub noted : List Noted

abbrev pub seat : CableView → Role → SeatView
seat cable Supplier = cable.handheld
seat cable Receiver = cable.receiver

abbrev pub scene_of : CableView → Scene
scene_of cable = record { supplier = side_of cable.handheld; receiver = side_of cable.receiver; waiting = cable.waiting }

-- which of two records is that of this role
abbrev pub record_for : Role → List Call → List Call → List Call
record_for Supplier handheld receiver = handheld
record_for Receiver handheld receiver = receiver

abbrev pub waiting_as : Waiting → Role × List ℕ
waiting_as frame = (frame.to, frame.bytes)

abbrev pub part_in : List Call → StepView → List Call
part_in calls step = take (step.until - step.from) (drop step.from calls)

abbrev pub noted_in : List Call → List Call → StepView → Noted
noted_in handheld receiver step = record { role = step.role; answer = step.answer; part = part_in (record_for step.role handheld receiver) step }

abbrev pub cable_of : Cable → CableView
cable_of cable = record {
  setting = cable.setting;
  handheld = cable.handheld;
  receiver = cable.receiver;
  waiting = map waiting_as cable.waiting.items;
  noted = map (noted_in cable.handheld.log.calls cable.receiver.log.calls) cable.steps.items;
}

abbrev pub IsStepIn : List Call → StepView → Type 0
IsStepIn calls step = (step.from ≤ step.until) × (step.until ≤ length calls)

-- each step's places are places of its end's record
abbrev pub AreStepsIn : List Call → List Call → List StepView → Type 0
AreStepsIn handheld receiver [] = Unit {0}
AreStepsIn handheld receiver (step ∷ steps) = IsStepIn (record_for step.role handheld receiver) step × AreStepsIn handheld receiver steps
