-- What both journals of a world are left with behind any events.
use Rattle.std.specs.Prelude.{◌≡◌, List, ◌++◌}
use Rattle.dsd_values.specs.declared.role.Role.{Role}
use Rattle.dsd_values.specs.declared.role.Role.TheVariants.{Receiver, Supplier}
use Rattle.dsd_station.specs.Logged.{Log}
use Rattle.dsd_station.specs.Replayed.{state_of}
use Rattle.dsd_journal.specs.JournalImage.{Holds}
use Rattle.dsd_journal.specs.declared.entry.Entry.{Entry}
use Rattle.dsd_journal.specs.declared.header.Header.{Header}
use Rattle.dsd_end.specs.Cabling.{AreToldApart}
use Rattle.clean_sessions.specs.DeliveryStands.{AreBacked}
use Rattle.cable_world.specs.Leaving.{image_left, state_after}
use Rattle.cable_world.specs.Noted.{Noted, steps_of}
use Rattle.cable_world.specs.Obeying.{Obeys, first_scene}
use Rattle.cable_world.specs.Scenes.{Scene}
use Rattle.cable_world.specs.Steps.{WorldStep}
use Rattle.cable_world.specs.Worlds.{WorldView, header_of}
use Rattle.cable_world.specs.declared.event.Event.{Event}

-- of two lists, a set that the one took and a set that the other signed, which have equal control numbers and equal integrity values, are the same text
pub record NoSetsClash (one other : List Entry) : Type 0 where
  pub there : AreToldApart one other
  pub back : AreToldApart other one

-- The image that this end's station is left with behind these steps holds these entries.
abbrev pub IsLeftWith : Role → Header → Log → List WorldStep → List Entry → Type 0
IsLeftWith role header log steps entries = Holds header entries (image_left (state_after role (state_of log.calls) steps))

-- The steps of these events, the first of the script, and the lists that both images hold that are left behind them. Where no sets of theirs clash, they
-- back each other.
pub record LeavesBacked (events : List Event) (world : WorldView) : Type 0 where
  pub handheld : Log
  pub receiver : Log
  pub before : List Noted
  pub behind : List Noted
  pub joined : world.noted ≡ before ++ behind
  pub between : Scene
  pub obeys : Obeys events (first_scene handheld receiver) (steps_of before) between
  pub supplier_entries : List Entry
  pub receiver_entries : List Entry
  pub supplier_left : IsLeftWith Supplier (header_of world.script Supplier) handheld (steps_of before) supplier_entries
  pub receiver_left : IsLeftWith Receiver (header_of world.script Receiver) receiver (steps_of before) receiver_entries
  pub backed : NoSetsClash supplier_entries receiver_entries → AreBacked Supplier supplier_entries receiver_entries
