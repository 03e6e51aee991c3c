-- The lists that a world leaves in the images of its two stations.
use Rattle.std.specs.Prelude.{ℕ, false, true, List}
use Rattle.dsd_values.specs.declared.role.Role.{Role}
use Rattle.dsd_values.specs.declared.role.Role.TheVariants.{Receiver, Supplier}
use Rattle.dsd_station.specs.Logged.{image_by}
use Rattle.dsd_journal.specs.JournalImage.{Holds}
use Rattle.dsd_journal.specs.declared.entry.Entry.{Entry}
use Rattle.clean_sessions.specs.Declining.{HasAnswered}
use Rattle.clean_sessions.specs.Halls.{Hall}
use Rattle.clean_sessions.specs.Sessions.{Spoken, post_behind}
use Rattle.clean_sessions.specs.Settled.{IsSettled}
use Rattle.cable_world.specs.Scenes.{side}
use Rattle.cable_world.specs.Worlds.{WorldView, chooser_of, header_of}
use Rattle.cable_world.specs.declared.script.Script.{Script}

-- the image of each end holds its list
abbrev pub LeavesLists : WorldView → (Role → List Entry) → Type 0
LeavesLists world lists = (role : Role) → Holds (header_of world.script role) (lists role) (image_by (side world.scene role).log)

-- the entries of each end behind a session in which this was spoken: its first own turn is the handheld's
abbrev pub entries_left : List Spoken → Hall → Role → List Entry
entries_left more new Supplier = (post_behind true more new).standing.desk.entries
entries_left more new Receiver = (post_behind false more new).standing.desk.entries

-- Each delivery is settled between these lists, and each end has declined what awaits it and held back what it left new.
pub record AreSettledLists (script : Script) (lists : Role → List Entry) : Type 0 where
  pub settled : (number : List ℕ) → IsSettled number (lists Supplier) (lists Receiver)
  pub answered : (role : Role) → HasAnswered role (chooser_of script role) (lists role)
