-- The list of its steps that a world keeps: each opening and each poll with what it answered.
use Rattle.std.specs.Prelude.{Bool, true, false, List, map}
use Rattle.dsd_values.specs.declared.role.Role.{Role}
use Rattle.dsd_station.specs.declared.call.Call.{Call}
use Rattle.cable_world.specs.Steps.{Opening, Poll, StepKind, WorldStep}
use Rattle.cable_world.specs.declared.answer.Answer.{Answer}
use Rattle.cable_world.specs.declared.answer.Answer.TheVariants.{Broken, Ended, NotOpened, Opened, Running}

-- One opening or poll: the role of its end, what it answered, and the part of that station's record which it made.
pub record Noted : Type 0 where
  pub role : Role
  pub answer : Answer
  pub part : List Call

abbrev pub kind_of : Answer → StepKind
kind_of Opened = Opening
kind_of (NotOpened fault) = Opening
kind_of Running = Poll
kind_of (Ended end) = Poll
kind_of (Broken fault) = Poll

-- the end runs by what it answered
abbrev pub runs_by : Answer → Bool
runs_by Opened = true
runs_by (NotOpened fault) = false
runs_by Running = true
runs_by (Ended end) = false
runs_by (Broken fault) = false

abbrev pub step_of : Noted → WorldStep
step_of noted = record { role = noted.role; kind = kind_of noted.answer; runs = runs_by noted.answer; part = noted.part }

abbrev pub steps_of : List Noted → List WorldStep
steps_of noted = map step_of noted
