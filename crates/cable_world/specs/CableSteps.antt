-- What a play does to two ends on one cable.
use Rattle.std.specs.Prelude.{◌≡◌, List, [], ◌∷◌, ◌++◌}
use Rattle.dsd_values.specs.declared.role.Role.{Role}
use Rattle.cable_world.specs.Cables.{AreStepsIn, cable_of, scene_of, seat}
use Rattle.cable_world.specs.Living.{CallSo}
use Rattle.cable_world.specs.Noted.{Noted, steps_of}
use Rattle.cable_world.specs.Obeying.{Course, Makes}
use Rattle.cable_world.specs.Progressing.{ComesOn, OneEnd, OneList}
use Rattle.cable_world.specs.Scenes.{restarted, stepped}
use Rattle.cable_world.specs.SeatSteps.{IsReady}
use Rattle.cable_world.specs.Settings.{chooser_at}
use Rattle.cable_world.specs.Steps.{Opening, Poll, WorldStep}
use Rattle.cable_world.specs.declared.cable.Cable.{Cable}

-- the steps are places of the records, and both seats can go on
pub record IsOpen (cable : Cable) : Type 0 where
  pub steps : AreStepsIn cable.handheld.log.calls cable.receiver.log.calls cable.steps.items
  pub handheld : IsReady cable.handheld
  pub receiver : IsReady cable.receiver

-- it is one of these two ends, over a journal of its own role
pub record IsEndOf (cable : Cable) (its : OneEnd) : Type 0 where
  pub role : its.header.role ≡ its.role
  pub chooser : its.chooser ≡ chooser_at cable.setting its.role

-- It goes this course: the list of steps has those of the course behind it, and by these each end comes on.
pub record Goes (course : Course) (old new : Cable) : Type 0 where
  pub made : List Noted
  pub noted : (cable_of new).noted ≡ (cable_of old).noted ++ made
  pub goes : course (scene_of (cable_of old)) (steps_of made) (scene_of (cable_of new))
  pub calls : CallSo (steps_of made)
  pub setting : new.setting ≡ old.setting
  pub ready : IsOpen new
  pub comes : OneList → (its : OneEnd) → IsEndOf old its → ComesOn its (seat (cable_of old) its.role) made (seat (cable_of new) its.role)

-- one poll of this end
abbrev pub IsPolled : Role → Course
IsPolled role scene made next = (step : WorldStep) × (made ≡ step ∷ []) × Makes role Poll scene step × (next ≡ stepped scene step)

-- its station restarts, and it is opened
abbrev pub IsOpened : Role → Course
IsOpened role scene made next = (step : WorldStep) × (made ≡ step ∷ []) × Makes role Opening (restarted scene role) step × (next ≡ stepped (restarted scene role) step)
