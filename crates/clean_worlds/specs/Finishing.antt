-- What a clean event leaves of which it was told before it that nothing hinders it.
use Rattle.std.specs.Prelude.{◌≤◌, ℕ, List, []}
use Rattle.dsd_values.specs.declared.role.Role.{Role}
use Rattle.dsd_values.specs.declared.role.Role.TheVariants.{Receiver, Supplier}
use Rattle.dsd_record.specs.Choices.{AreDraftsApart}
use Rattle.dsd_journal.specs.declared.entry.Entry.{Entry}
use Rattle.clean_sessions.specs.ChosenAnswers.{ChoosesRightly}
use Rattle.clean_sessions.specs.DeliveryStands.{sets_in}
use Rattle.clean_sessions.specs.FewBlocks.{SpendsFew}
use Rattle.clean_sessions.specs.TalkedSets.{FollowsTalks, IsFinalInBoth, NeverWaits}
use Rattle.clean_sessions.specs.Talks.{by_role}
use Rattle.cable_world.specs.Noted.{steps_of}
use Rattle.cable_world.specs.Worlds.{WorldView, chooser_of}
use Rattle.cable_world.specs.declared.event.Event.{Event}
use Rattle.cable_world.specs.declared.script.Script.{Script}
use Rattle.clean_worlds.specs.CleanBeginnings.{OpensOver}
use Rattle.clean_worlds.specs.CleanEndings.{LeavesSettledLists}
use Rattle.clean_worlds.specs.CleanPlays.{headers}
use Rattle.clean_worlds.specs.CleanWorlds.{EndsInClean, IsComplete, come_to}
use Rattle.clean_worlds.specs.Foreseen.{AreFew, AreForeseen}
use Rattle.clean_worlds.specs.Histories.{NoSetsClash}
use Rattle.clean_worlds.specs.LeftLists.{LeavesLists}
use Rattle.clean_worlds.specs.WholeFrames.{GoWell}

-- ---- before the event

-- It is foreseen that nothing hinders the clean event behind these, and no sets clash of what both journals hold as it opens their ends.
pub record IsForetold (most : ℕ) (events : List Event) (world : WorldView) (ends : EndsInClean events world) : Type 0 where
  pub foreseen : AreForeseen most world.script.ends.handheld.own world.script.ends.handheld.peer (chooser_of world.script Supplier) (chooser_of world.script Receiver) (come_to ends.handheld ends.receiver ends.before) ends.between
      (steps_of ends.behind)
  pub apart : (supplier_entries receiver_entries : List Entry)
      → OpensOver Supplier (headers world.script.ends.handheld.own world.script.ends.handheld.peer Supplier) (come_to ends.handheld ends.receiver ends.before Supplier) (steps_of ends.behind) supplier_entries
      → OpensOver Receiver (headers world.script.ends.handheld.own world.script.ends.handheld.peer Receiver) (come_to ends.handheld ends.receiver ends.before Receiver) (steps_of ends.behind) receiver_entries
      → NoSetsClash supplier_entries receiver_entries

-- the same of a script of one clean event, by what its two ends choose alone
abbrev pub IsForetoldFromNothing : ℕ → Script → Type 0
IsForetoldFromNothing most script = AreFew most script.ends.handheld.own script.ends.handheld.peer (chooser_of script Supplier) (chooser_of script Receiver) [] []

-- ---- behind it

-- what both ends choose may be written, and no two drafts are of one delivery
pub record ChooseRightly (script : Script) : Type 0 where
  pub handheld : ChoosesRightly (chooser_of script Supplier)
  pub receiver : ChoosesRightly (chooser_of script Receiver)
  pub apart : AreDraftsApart (chooser_of script Supplier).drafts

-- The event went well. Both sessions are complete, after as many polls of each end as were foretold, and both images hold settled lists. These have what the talks of
-- the deliveries say, and a delivery whose talk ends in an acceptance is final in both. Where no end ever waits, each known one is.
pub record Finishes (most : ℕ) (events : List Event) (world : WorldView) (ends : EndsInClean events world) : Type 0 where
  pub well : GoWell ends.behind
  pub complete : (role : Role) → IsComplete role ends.last (ends.standing role)
  pub spends : SpendsFew most (ends.clean well).played.first (ends.clean well).played.more (ends.clean well).played.new
  pub settled : LeavesSettledLists world
  pub talks : ChooseRightly world.script → (lists : Role → List Entry) → LeavesLists world lists
      → FollowsTalks (by_role (chooser_of world.script Supplier) (chooser_of world.script Receiver)) (by_role (ends.clean well).supplier_entries (ends.clean well).receiver_entries) lists
  pub finals : ChooseRightly world.script → NeverWaits Supplier (chooser_of world.script Supplier) → NeverWaits Receiver (chooser_of world.script Receiver) → (lists : Role → List Entry) → LeavesLists world lists
      → (number : List ℕ) → 1 ≤ sets_in number (lists Supplier) → IsFinalInBoth number (lists Supplier) (lists Receiver)

-- So it is where it is foretold.
pub record FinishesIfForetold (most : ℕ) (events : List Event) (world : WorldView) : Type 0 where
  pub ends : EndsInClean events world
  pub finishes : IsForetold most events world ends → Finishes most events world ends

-- From two empty journals the script tells it.
pub record FinishesFromNothing (most : ℕ) (world : WorldView) : Type 0 where
  pub ends : EndsInClean [] world
  pub finishes : IsForetoldFromNothing most world.script → Finishes most [] world ends
