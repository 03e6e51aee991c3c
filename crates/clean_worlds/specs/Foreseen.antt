-- Clean events of which it can be told before them that nothing hinders them.
use Rattle.std.specs.Prelude.{◌≤◌, ℕ, List, []}
use Rattle.dsd_values.specs.declared.role.Role.{Role}
use Rattle.dsd_values.specs.declared.role.Role.TheVariants.{Receiver, Supplier}
use Rattle.dsd_record.specs.Choices.{Chooser}
use Rattle.dsd_station.specs.Replayed.{State}
use Rattle.dsd_journal.specs.declared.entry.Entry.{Entry}
use Rattle.clean_sessions.specs.Beginnings.{receiver_header, seat_before, supplier_header}
use Rattle.clean_sessions.specs.FewBlocks.{HaveRoom, SpeakAtMost, most_blocks}
use Rattle.cable_world.specs.Scenes.{Scene}
use Rattle.cable_world.specs.Steps.{WorldStep}
use Rattle.clean_worlds.specs.CleanBeginnings.{OpensOver}
use Rattle.clean_worlds.specs.CleanPlays.{headers}
use Rattle.clean_worlds.specs.Faultless.{AreSpared}

-- Own turns from these lists, by these choosers, speak no more blocks than these, which are not too many, and the journals have room for what they add.
pub record AreFew (most : ℕ) (id other : List ℕ) (supplier receiver : Chooser) (supplier_entries receiver_entries : List Entry) : Type 0 where
  pub within : most ≤ most_blocks
  pub blocks : SpeakAtMost most (seat_before (supplier_header id other) supplier supplier_entries) (seat_before (receiver_header id other) receiver receiver_entries) []
  pub room : HaveRoom (seat_before (supplier_header id other) supplier supplier_entries) (seat_before (receiver_header id other) receiver receiver_entries) []

-- From this scene nothing that is armed falls in these steps, and they are few in that way from the lists that both journals hold as the steps open their ends.
pub record AreForeseen (most : ℕ) (id other : List ℕ) (supplier receiver : Chooser) (state : Role → State) (scene : Scene) (steps : List WorldStep) : Type 0 where
  pub spared : AreSpared scene
  pub few : (supplier_entries receiver_entries : List Entry) → OpensOver Supplier (headers id other Supplier) (state Supplier) steps supplier_entries
      → OpensOver Receiver (headers id other Receiver) (state Receiver) steps receiver_entries → AreFew most id other supplier receiver supplier_entries receiver_entries
