use Rattle.std.proofs.Common.{◌≡◌, drop}
use Rattle.end_report.specs.declared.ending.LastRun.TheVariants.{Never}
use Rattle.cable_world.specs.Finishing.{AreStepsOf, last_along}
use Rattle.cable_world.proofs.last_run.last_run.Given as goal

-- behind the steps that are left it comes to what all come to
abbrev pub invariant-loop-step : goal.invariant-loop-step
invariant-loop-step l = (last_along l.role l.calls l.last (drop l.step-index l.steps) ≡ last_along l.role l.calls Never l.steps) × AreStepsOf l.role l.calls (drop l.step-index l.steps)
