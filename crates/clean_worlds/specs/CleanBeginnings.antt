-- How a clean event begins.
use Rattle.std.specs.Prelude.{◌≡◌, ℕ, false, true, List, [], ◌∷◌, ◌++◌, length, Option, Some}
use Rattle.dsd_values.specs.declared.role.Role.{Role}
use Rattle.dsd_values.specs.declared.role.Role.TheVariants.{Receiver, Supplier}
use Rattle.dsd_record.specs.Choices.{Chooser}
use Rattle.dsd_station.specs.Placed.{EachFedBy}
use Rattle.dsd_station.specs.Replayed.{State}
use Rattle.dsd_journal.specs.JournalImage.{Holds}
use Rattle.dsd_journal.specs.declared.entry.Entry.{Entry}
use Rattle.dsd_journal.specs.declared.header.Header.{Header}
use Rattle.dsd_end.specs.Standings.{Standing}
use Rattle.clean_sessions.specs.Beginnings.{opened}
use Rattle.cable_world.specs.Leaving.{state_after, state_behind}
use Rattle.cable_world.specs.Living.{CallSo}
use Rattle.cable_world.specs.Noted.{Noted, steps_of}
use Rattle.cable_world.specs.Obeying.{Exchanges}
use Rattle.cable_world.specs.Scenes.{Scene, Side, due, side}
use Rattle.cable_world.specs.Steps.{Opening, WorldStep}
use Rattle.clean_worlds.specs.CleanPlays.{PlaysSession, choosers, headers}
use Rattle.clean_worlds.specs.WholeFrames.{GoWell}
use Rattle.clean_worlds.specs.WorldHalls.{BothCome, ShowsHall}

-- ---- before it

-- its first poll was made, and all that it was fed is taken
pub record CanHear (standing : Standing) (its : Side) : Type 0 where
  pub later : standing.first ≡ false
  pub fed : EachFedBy (length its.log.calls) its.log.plan.fed
  pub taken : due its ≡ []

-- an end that runs can hear
abbrev pub HearsIfRunning : Option Standing → Side → Type 0
HearsIfRunning standing its = its.runs ≡ true → (now : Standing) × (standing ≡ Some now) × CanHear now its

abbrev pub RunningHear : (Role → Option Standing) → Scene → Type 0
RunningHear standing scene = (role : Role) → HearsIfRunning (standing role) (side scene role)

-- ---- steps by which both ends come, none of which has a fault

pub record MadeWell (chooser : Role → Chooser) (header : Role → Header) (state : Role → State) (before : Role → Option Standing) (steps : List WorldStep) (after : Role → Option Standing) : Type 0 where
  pub noted : List Noted
  pub is : steps_of noted ≡ steps
  pub come : BothCome chooser header state before noted after
  pub calls : CallSo (steps_of noted)
  pub well : GoWell noted

-- ---- it begins

-- One of these steps opens this end, whose journal holds these entries then.
pub record OpensOver (role : Role) (header : Header) (state : State) (steps : List WorldStep) (entries : List Entry) : Type 0 where
  pub before : List WorldStep
  pub opening : WorldStep
  pub rest : List WorldStep
  pub joined : steps ≡ before ++ opening ∷ rest
  pub own : (opening.role ≡ role) × (opening.kind ≡ Opening)
  pub holds : Holds header entries (state_behind (state_after role state before) opening).journal

-- Behind the first of these steps both ends are opened over what their journals hold, and the handheld's Enq is on its way. The others are exchanges.
pub record BeginsClean (id other : List ℕ) (supplier receiver : Chooser) (state : Role → State) (steps : List WorldStep) (next : Scene) (last : Role → Option Standing) : Type 0 where
  pub supplier_entries : List Entry
  pub receiver_entries : List Entry
  pub supplier_opens : OpensOver Supplier (headers id other Supplier) (state Supplier) steps supplier_entries
  pub receiver_opens : OpensOver Receiver (headers id other Receiver) (state Receiver) steps receiver_entries
  pub between : Scene
  pub standing : Role → Option Standing
  pub shows : ShowsHall (choosers supplier receiver) (headers id other) Receiver Supplier (opened id other supplier receiver supplier_entries receiver_entries) between standing
  pub first : List WorldStep
  pub rest : List WorldStep
  pub joined : steps ≡ first ++ rest
  pub exchanges : Exchanges between rest next
  pub made : MadeWell (choosers supplier receiver) (headers id other) (λ (role : Role). state_after role (state role) first) standing rest last

-- ---- and ends

-- Both ends are opened over what their journals hold, and a clean session over these entries is played to its end.
pub record PlaysClean (id other : List ℕ) (supplier receiver : Chooser) (state : Role → State) (steps : List WorldStep) (next : Scene) (last : Role → Option Standing) : Type 0 where
  pub supplier_entries : List Entry
  pub receiver_entries : List Entry
  pub supplier_opens : OpensOver Supplier (headers id other Supplier) (state Supplier) steps supplier_entries
  pub receiver_opens : OpensOver Receiver (headers id other Receiver) (state Receiver) steps receiver_entries
  pub played : PlaysSession id other supplier receiver supplier_entries receiver_entries next last
