-- When a clean event heals what the events before it have left.
use Rattle.std.specs.Prelude.{◌≡◌, ◌≤◌, ℕ, true, List, Option, is_some}
use Rattle.dsd_values.specs.declared.role.Role.{Role}
use Rattle.dsd_values.specs.declared.role.Role.TheVariants.{Receiver, Supplier}
use Rattle.dsd_record.specs.Choices.{Chooser}
use Rattle.dsd_station.specs.Replayed.{State}
use Rattle.dsd_journal.specs.declared.entry.Entry.{Entry}
use Rattle.delivery_book.specs.Finals.{final_of}
use Rattle.dsd_end.specs.Standings.{Standing}
use Rattle.clean_sessions.specs.Beginnings.{receiver_header, seat_before, supplier_header}
use Rattle.clean_sessions.specs.Declining.{HasDeclined}
use Rattle.clean_sessions.specs.DeliveryStands.{AreBacked, sets_in}
use Rattle.clean_sessions.specs.Settled.{LeavesSettled}
use Rattle.cable_world.specs.Scenes.{Scene}
use Rattle.cable_world.specs.Steps.{WorldStep}
use Rattle.cable_world.specs.Worlds.{WorldView}
use Rattle.cable_world.specs.declared.event.Event.{Event}
use Rattle.clean_worlds.specs.CleanBeginnings.{PlaysClean}
use Rattle.clean_worlds.specs.CleanWorlds.{EndsInClean}
use Rattle.clean_worlds.specs.Histories.{NoSetsClash}
use Rattle.clean_worlds.specs.WholeFrames.{GoWell}

-- The lists that both journals hold as this event opens their ends back each other, and the session over them leaves each delivery settled.
pub record Heals (id other : List ℕ) (supplier receiver : Chooser) (state : Role → State) (steps : List WorldStep) (next : Scene) (last : Role → Option Standing)
    (plays : PlaysClean id other supplier receiver state steps next last) : Type 0 where
  pub backed : AreBacked Supplier plays.supplier_entries plays.receiver_entries
  pub settled : LeavesSettled (seat_before (supplier_header id other) supplier plays.supplier_entries) (seat_before (receiver_header id other) receiver plays.receiver_entries)
      plays.played.first plays.played.more plays.played.new

-- The last event of the world is a clean one, and if its steps go well, it heals.
pub record HealsInClean (events : List Event) (world : WorldView) : Type 0 where
  pub ends : EndsInClean events world
  pub heals : (well : GoWell ends.behind) → Heals _ _ _ _ _ _ _ _ (ends.clean well)

-- So it is at least where no sets clash of what both journals hold as it opens their ends.
pub record HealsUnlessSetsClash (events : List Event) (world : WorldView) : Type 0 where
  pub ends : EndsInClean events world
  pub heals : (well : GoWell ends.behind) → NoSetsClash (ends.clean well).supplier_entries (ends.clean well).receiver_entries → Heals _ _ _ _ _ _ _ _ (ends.clean well)

-- A delivery that is known is final at both ends, if neither end has declined it.
pub record IsFinalUnlessDeclined (supplier receiver : Chooser) (number : List ℕ) (one other : List Entry) : Type 0 where
  pub final : 1 ≤ sets_in number one → (HasDeclined Supplier supplier number one → ⊥) → (HasDeclined Receiver receiver number other → ⊥) → is_some (final_of one number) ≡ true
  pub their_final : 1 ≤ sets_in number other → (HasDeclined Supplier supplier number one → ⊥) → (HasDeclined Receiver receiver number other → ⊥) → is_some (final_of other number) ≡ true
