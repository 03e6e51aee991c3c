-- How a step is noted.
use Rattle.std.specs.Prelude.{◌≡◌, ℕ, List, [], ◌∷◌, ◌++◌, drop, length, map}
use Rattle.dsd_values.specs.declared.role.Role.{Role}
use Rattle.dsd_values.specs.declared.role.Role.TheVariants.{Receiver, Supplier}
use Rattle.cable_world.specs.Cables.{waiting_as}
use Rattle.cable_world.specs.Scenes.{sent_to}
use Rattle.cable_world.specs.Seats.{SeatView, with_spoken}
use Rattle.cable_world.specs.Steps.{frames_in}
use Rattle.cable_world.specs.declared.answer.Answer.{Answer}
use Rattle.cable_world.specs.declared.cable.Cable.{Cable}
use Rattle.cable_world.specs.StepsKept.{StepView}
use Rattle.cable_world.specs.declared.cable.Waiting.{Waiting}

-- The frames from this place of the record on are spoken whole and wait for the other end, and the step stands behind the others.
pub record Notes (role other : Role) (from : ℕ) (answer : Answer) (before after : SeatView) (waiting later : List Waiting) (steps more : List StepView) : Type 0 where
  pub seat : after ≡ with_spoken before (frames_in (drop from before.log.calls))
  pub waits : map waiting_as later ≡ map waiting_as waiting ++ sent_to other (frames_in (drop from before.log.calls))
  pub step : more ≡ steps ++ record { role = role; answer = answer; from = from; until = length before.log.calls } ∷ []

pub record NotesHandheld (from : ℕ) (answer : Answer) (old new : Cable) : Type 0 where
  pub notes : Notes Supplier Receiver from answer old.handheld new.handheld old.waiting.items new.waiting.items old.steps.items new.steps.items
  pub receiver : new.receiver ≡ old.receiver
  pub setting : new.setting ≡ old.setting

pub record NotesReceiver (from : ℕ) (answer : Answer) (old new : Cable) : Type 0 where
  pub notes : Notes Receiver Supplier from answer old.receiver new.receiver old.waiting.items new.waiting.items old.steps.items new.steps.items
  pub handheld : new.handheld ≡ old.handheld
  pub setting : new.setting ≡ old.setting
