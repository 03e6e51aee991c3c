-- Worlds whose last event is a clean one.
use Rattle.std.specs.Prelude.{◌≡◌, ℕ, false, List, ◌++◌, Option, Some}
use Rattle.dsd_values.specs.declared.role.Role.{Role}
use Rattle.dsd_values.specs.declared.role.Role.TheVariants.{Receiver, Supplier}
use Rattle.dsd_station.specs.Logged.{Log, image_by}
use Rattle.dsd_station.specs.Planned.{no_plan}
use Rattle.dsd_station.specs.Replayed.{State, state_of}
use Rattle.dsd_journal.specs.JournalImage.{Holds}
use Rattle.dex_handshake.specs.LineTable.{Ended}
use Rattle.dex_handshake.specs.declared.session_end.SessionEnd.TheVariants.{Complete}
use Rattle.dsd_end.specs.Standings.{Standing}
use Rattle.cable_world.specs.Diligence.{refused_in}
use Rattle.cable_world.specs.Leaving.{state_after}
use Rattle.cable_world.specs.Noted.{Noted, steps_of}
use Rattle.cable_world.specs.Obeying.{Obeys, Plays, first_scene}
use Rattle.cable_world.specs.Scenes.{Scene, side}
use Rattle.cable_world.specs.Worlds.{WorldView, chooser_of, header_of, refused_by}
use Rattle.cable_world.specs.declared.event.Event.{Event}
use Rattle.cable_world.specs.declared.event.Event.TheVariants.{Clean}
use Rattle.cable_world.specs.declared.script.Script.{Script}
use Rattle.clean_worlds.specs.CleanBeginnings.{PlaysClean}
use Rattle.clean_worlds.specs.CleanPlays.{choosers, headers}
use Rattle.clean_worlds.specs.Faultless.{IsUnhindered}
use Rattle.clean_worlds.specs.Foreseen.{AreForeseen}
use Rattle.clean_worlds.specs.WholeFrames.{GoWell}

-- each end names the other as its peer
abbrev pub IdsMatch : Script → Type 0
IdsMatch script = (script.ends.receiver.own ≡ script.ends.handheld.peer) × (script.ends.receiver.peer ≡ script.ends.handheld.own)

-- its session is complete, and it runs no more
pub record IsComplete (role : Role) (scene : Scene) (standing : Option Standing) : Type 0 where
  pub now : Standing
  pub stands : standing ≡ Some now
  pub complete : now.line ≡ Ended Complete
  pub rests : (side scene role).runs ≡ false

abbrev pub log_for : Log → Log → Role → Log
log_for handheld receiver Supplier = handheld
log_for handheld receiver Receiver = receiver

-- what the station of an end, which was so at first, comes to behind these steps
abbrev pub come_to : Log → Log → List Noted → Role → State
come_to handheld receiver noted role = state_after role (state_of (log_for handheld receiver role).calls) (steps_of noted)

-- The steps of these events and, behind them, those of a clean one. If nothing hinders the latter, or it is foreseen that nothing does, they go well. If they do, they are a clean session, both ends
-- stand behind it as the world tells, and each image holds the entries of its end's standing.
pub record EndsInClean (events : List Event) (world : WorldView) : Type 0 where
  pub handheld : Log
  pub receiver : Log
  pub before : List Noted
  pub behind : List Noted
  pub joined : world.noted ≡ before ++ behind
  pub between : Scene
  pub last : Scene
  pub obeys : Obeys events (first_scene handheld receiver) (steps_of before) between
  pub plays : Plays Clean between (steps_of behind) last
  pub unarmed : (role : Role) → (log_for handheld receiver role).plan ≡ no_plan
  pub image : (role : Role) → image_by (side world.scene role).log ≡ image_by (side last role).log
  pub standing : Role → Option Standing
  pub refused : (role : Role) → refused_in (standing role) ≡ refused_by world role
  pub well : IsUnhindered (choosers (chooser_of world.script Supplier) (chooser_of world.script Receiver)) (headers world.script.ends.handheld.own world.script.ends.handheld.peer) (come_to handheld receiver before) between (steps_of behind)
      → GoWell behind
  pub foreseen : (most : ℕ) → AreForeseen most world.script.ends.handheld.own world.script.ends.handheld.peer (chooser_of world.script Supplier) (chooser_of world.script Receiver) (come_to handheld receiver before) between (steps_of behind)
      → GoWell behind
  pub clean : GoWell behind → PlaysClean world.script.ends.handheld.own world.script.ends.handheld.peer (chooser_of world.script Supplier) (chooser_of world.script Receiver) (come_to handheld receiver before) (steps_of behind) last standing
  pub holds : GoWell behind → (role : Role) → (now : Standing) → standing role ≡ Some now → Holds (header_of world.script role) now.desk.entries (image_by (side world.scene role).log)

-- nothing hinders the clean event
abbrev pub IsFreeIn : (events : List Event) (world : WorldView) → EndsInClean events world → Type 0
IsFreeIn events world e =
    IsUnhindered (choosers (chooser_of world.script Supplier) (chooser_of world.script Receiver)) (headers world.script.ends.handheld.own world.script.ends.handheld.peer) (come_to e.handheld e.receiver e.before) e.between (steps_of e.behind)

-- it goes well, and is a clean session
abbrev pub PlaysCleanIn : (events : List Event) (world : WorldView) → EndsInClean events world → Type 0
PlaysCleanIn events world e =
    GoWell e.behind
    × PlaysClean world.script.ends.handheld.own world.script.ends.handheld.peer (chooser_of world.script Supplier) (chooser_of world.script Receiver) (come_to e.handheld e.receiver e.before) (steps_of e.behind) e.last e.standing
