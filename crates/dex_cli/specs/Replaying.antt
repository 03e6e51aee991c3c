-- What the jobs that play a script leave.
use Rattle.std.specs.Prelude.{◌≡◌, ℕ, List, [], Option, Some}
use Rattle.cable_world.specs.WorldReports.{IsReportOf}
use Rattle.cable_world.specs.Worlds.{HasPlayed, WorldView}
use Rattle.cable_world.specs.declared.event.Event.{Event}
use Rattle.cable_world.specs.declared.script.Script.{Script}
use Rattle.cable_world.specs.declared.stage.Stage.TheVariants.{Finished}
use Rattle.cable_world.specs.declared.world_report.WorldReport.{WorldReport}
use Rattle.clean_worlds.specs.CleanEndings.{HasCleanEnd, SettlesInClean, SettlesUnlessSetsClash}
use Rattle.clean_worlds.specs.Finishing.{FinishesFromNothing, FinishesIfForetold}
use Rattle.dex_cli.specs.declared.verdict.Verdict.{Verdict}
use Rattle.dex_cli.specs.declared.verdict.Verdict.TheVariants as verdicts

-- the world that the caller had before, and the one that it has after
pub record Worlds : Type 0 where
  pub before : Option WorldView
  pub after : Option WorldView

abbrev pub worlds_of : Option WorldView → Option WorldView → Worlds
worlds_of old new = record { before = old; after = new }

-- All events of the script were played on this world: its steps obey the script, each event with its effect, and the runs of both ends are two lives,
-- so that both hold the same record. The report is of the images that it has. Where the script ends with a clean event, both images hold settled lists, whatever
-- came before it, if nothing hinders that event and no sets clash; from two empty journals none can. Where it can be told before the event that it goes well, it does:
-- both sessions are complete, and each delivery whose talk ends in an acceptance is final in both images.
pub record HasReplayed (script : Script) (world : WorldView) (report : WorldReport) : Type 0 where
  pub script_is : world.script ≡ script
  pub finished : world.stage ≡ Finished
  pub played : HasPlayed world
  pub reported : IsReportOf world report
  pub settles : (events : List Event) → HasCleanEnd world.script events → SettlesUnlessSetsClash events world
  pub completes : HasCleanEnd world.script [] → SettlesInClean [] world
  pub heals : (events : List Event) (most : ℕ) → HasCleanEnd world.script events → FinishesIfForetold most events world
  pub finalises : (most : ℕ) → HasCleanEnd world.script [] → FinishesFromNothing most world

-- such a world is left
abbrev pub IsReplayed : Script → Worlds → WorldReport → Type 0
IsReplayed script worlds report = (world : WorldView) × (worlds.after ≡ Some world) × HasReplayed script world report

-- the verdict tells of the world that is left
abbrev pub IsToldOfWorld : Verdict → Type 0
IsToldOfWorld (verdicts.Replayed report) = Unit {0}
IsToldOfWorld (verdicts.Loaded count report) = Unit {0}
IsToldOfWorld _ = ⊥
