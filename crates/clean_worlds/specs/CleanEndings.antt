-- What a script leaves that ends with a clean event.
use Rattle.std.specs.Prelude.{◌≡◌, List, [], ◌∷◌, ◌++◌}
use Rattle.dsd_values.specs.declared.role.Role.{Role}
use Rattle.dsd_journal.specs.declared.entry.Entry.{Entry}
use Rattle.cable_world.specs.Living.{HasNoHear}
use Rattle.cable_world.specs.Worlds.{WorldView}
use Rattle.cable_world.specs.declared.event.Event.{Event}
use Rattle.cable_world.specs.declared.event.Event.TheVariants.{Clean}
use Rattle.cable_world.specs.declared.script.Script.{Script}
use Rattle.clean_worlds.specs.CleanWorlds.{EndsInClean, IdsMatch, IsFreeIn}
use Rattle.clean_worlds.specs.Histories.{NoSetsClash}
use Rattle.clean_worlds.specs.LeftLists.{AreSettledLists, LeavesLists}

-- The script ends with a clean event behind these, which name no bytes to be heard, and each end names the other as its peer.
pub record HasCleanEnd (script : Script) (events : List Event) : Type 0 where
  pub last : script.events ≡ events ++ Clean ∷ []
  pub unheard : HasNoHear events
  pub match : IdsMatch script

-- the lists that both images hold are settled
abbrev pub LeavesSettledLists : WorldView → Type 0
LeavesSettledLists world = (lists : Role → List Entry) → LeavesLists world lists → AreSettledLists world.script lists

-- Where nothing hinders the clean event behind these, it leaves settled lists.
pub record SettlesInClean (events : List Event) (world : WorldView) : Type 0 where
  pub ends : EndsInClean events world
  pub settled : IsFreeIn events world ends → LeavesSettledLists world

-- So it does at least where no sets clash of what both journals hold as it opens their ends.
pub record SettlesUnlessSetsClash (events : List Event) (world : WorldView) : Type 0 where
  pub ends : EndsInClean events world
  pub settled : (free : IsFreeIn events world ends) → NoSetsClash (ends.clean (ends.well free)).supplier_entries (ends.clean (ends.well free)).receiver_entries → LeavesSettledLists world
