-- What contracts see of a world, and what it is once all events were played.
use Rattle.std.specs.Prelude.{◌≡◌, ℕ, All, List, [], Option, None}
use Rattle.dsd_values.specs.declared.role.Role.{Role}
use Rattle.dsd_values.specs.declared.role.Role.TheVariants.{Receiver, Supplier}
use Rattle.base_record_894.specs.RecordText.{IsBase}
use Rattle.dsd_record.specs.Choices.{Chooser}
use Rattle.dsd_station.specs.Logged.{Log, image_by}
use Rattle.dsd_station.specs.Planned.{no_plan}
use Rattle.dsd_station.specs.Replayed.{IsFine, state_of}
use Rattle.dsd_journal.specs.declared.header.Header.{Header}
use Rattle.dsd_journal.specs.JournalImage.{Holds}
use Rattle.dsd_end.specs.Agreement.{Agree}
use Rattle.dsd_end.specs.Cabling.{IsHonestCable, NoClash}
use Rattle.dsd_end.specs.Lives.{IsLife, last_list}
use Rattle.dsd_end.specs.Runs.{Run}
use Rattle.dsd_end.specs.Standings.{Standing}
use Rattle.handheld_core.specs.Choosing.{supplier}
use Rattle.receiver_core.specs.Choosing.{receiver}
use Rattle.cable_world.specs.Diligence.{ComesBy, refused_in}
use Rattle.cable_world.specs.Holding.{HoldsLast}
use Rattle.cable_world.specs.Leaving.{IsBegun, LeavesNothing}
use Rattle.cable_world.specs.Living.{AreRunsOf, CallSo, HasNoHear, parts_of}
use Rattle.cable_world.specs.Noted.{Noted, steps_of}
use Rattle.cable_world.specs.Obeying.{Obeys, first_scene}
use Rattle.cable_world.specs.Scenes.{Scene, side}
use Rattle.cable_world.specs.declared.script.Script.{Script}
use Rattle.cable_world.specs.declared.stage.Stage.{Stage}
use Rattle.cable_world.specs.declared.stage.Stage.TheVariants as stages

-- The script that was handed in, the steps so far, both stations with the ends at them and the frames that wait, how many sets each end has refused in its
-- last run, and how far it has come.
pub record WorldView : Type 0 where
  pub script : Script
  pub noted : List Noted
  pub scene : Scene
  pub handheld_refused : ℕ
  pub receiver_refused : ℕ
  pub stage : Stage

abbrev pub refused_by : WorldView → Role → ℕ
refused_by world Supplier = world.handheld_refused
refused_by world Receiver = world.receiver_refused

-- whose the journal of this end is
abbrev pub header_of : Script → Role → Header
header_of script Supplier = record { role = Supplier; own = script.ends.handheld.own; peer = script.ends.handheld.peer }
header_of script Receiver = record { role = Receiver; own = script.ends.receiver.own; peer = script.ends.receiver.peer }

-- the choices of this end
abbrev pub chooser_of : Script → Role → Chooser
chooser_of script Supplier = supplier script.drafts
chooser_of script Receiver = receiver script.counts

-- A station in memory that nothing was told, with a journal that has no entries, whatever stop comes.
pub record IsFormatted (header : Header) (log : Log) : Type 0 where
  pub plan : log.plan ≡ no_plan
  pub fine : IsFine (state_of log.calls)
  pub nothing : LeavesNothing header (state_of log.calls)

-- A world that has played nothing: both journals are formatted, no end runs, and no frame waits.
pub record IsNew (world : WorldView) : Type 0 where
  pub handheld : Log
  pub receiver : Log
  pub handheld_is : IsFormatted (header_of world.script Supplier) handheld
  pub receiver_is : IsFormatted (header_of world.script Receiver) receiver
  pub none : world.noted ≡ []
  pub scene : world.scene ≡ first_scene handheld receiver
  pub handheld_refused : world.handheld_refused ≡ 0
  pub receiver_refused : world.receiver_refused ≡ 0

-- ---- what its steps show of each end

-- What the steps tell of this end, whose station was so at first: each run leaves a list that its rules allow, each poll is one step of its table,
-- rules and choices, and the sets that it has refused are those of its last standing. Where no poll since it was opened last has answered a fault, the image
-- that its station has holds exactly the entries of that standing.
pub record IsTold (world : WorldView) (role : Role) (first : Log) : Type 0 where
  pub begun : IsBegun role (header_of world.script role) first (steps_of world.noted)
  pub last : Option Standing
  pub diligent : ComesBy role (chooser_of world.script role) (header_of world.script role) (state_of first.calls) None world.noted last
  pub refused : refused_in last ≡ refused_by world role
  pub holds : HoldsLast (header_of world.script role) last (image_by (side world.scene role).log)

-- These are the runs of this end, as the steps show them. They are a life, and the image that its station has holds the list which they leave.
pub record IsLifeIn (world : WorldView) (role : Role) (runs : List Run) : Type 0 where
  pub are : AreRunsOf (parts_of role (steps_of world.noted)).runs runs
  pub life : IsLife role runs
  pub holds : Holds (header_of world.script role) (last_list runs) (image_by (side world.scene role).log)

-- The runs of both ends are two lives. Without HEAR the cable is honest, and over an honest cable on which no two sets clash, what both
-- ends finalise is the same record.
pub record IsTwoLives (world : WorldView) : Type 0 where
  pub handheld : List Run
  pub receiver : List Run
  pub handheld_is : IsLifeIn world Supplier handheld
  pub receiver_is : IsLifeIn world Receiver receiver
  pub honest : HasNoHear world.script.events → IsHonestCable handheld receiver
  pub agree : IsHonestCable handheld receiver → NoClash handheld receiver → Agree handheld receiver

-- ---- when all was played

-- A world that has played all events of its script: from two formatted stations its steps obey the script, each makes calls
-- of its kind alone, and they are what each end tells; the runs are two lives. The images are those that were left behind the last event. Each draft is a
-- record that some text spells.
pub record HasPlayed (world : WorldView) : Type 0 where
  pub handheld : Log
  pub receiver : Log
  pub handheld_is : IsFormatted (header_of world.script Supplier) handheld
  pub receiver_is : IsFormatted (header_of world.script Receiver) receiver
  pub last : Scene
  pub obeys : Obeys world.script.events (first_scene handheld receiver) (steps_of world.noted) last
  pub calls : CallSo (steps_of world.noted)
  pub handheld_told : IsTold world Supplier handheld
  pub receiver_told : IsTold world Receiver receiver
  pub lives : IsTwoLives world
  pub bases : All IsBase (chooser_of world.script Supplier).drafts
  pub handheld_image : image_by world.scene.supplier.log ≡ image_by last.supplier.log
  pub receiver_image : image_by world.scene.receiver.log ≡ image_by last.receiver.log

-- what holds of every world by how far it has come
abbrev pub StandsAt : Stage → WorldView → Type 0
StandsAt stages.New world = IsNew world
StandsAt stages.Played world = HasPlayed world
StandsAt stages.Finished world = HasPlayed world
StandsAt stages.Broken world = Unit {0}
