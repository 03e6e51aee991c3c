-- What contracts see of a step that a world keeps.
use Rattle.std.specs.Prelude.{ℕ}
use Rattle.dsd_values.specs.declared.role.Role.{Role}
use Rattle.cable_world.specs.declared.answer.Answer.{Answer}
use Rattle.cable_world.specs.declared.step.Step.TheInside.{Inside}

-- whose it is, what was answered, and which calls of its station's record it made
pub record StepView : Type 0 where
  pub role : Role
  pub answer : Answer
  pub from : ℕ
  pub until : ℕ

abbrev pub step_of : Inside → StepView
step_of step = record { role = step.role; answer = step.answer; from = step.from; until = step.until }
