-- Clean events that nothing hinders: nothing armed falls, and there is room.
use Rattle.std.specs.Prelude.{◌≡◌, ◌<◌, ℕ, true, if◌then◌else◌, List, [], ◌∷◌, ◌++◌, length, None, ⊤}
use Rattle.dsd_values.specs.declared.role.Role.{Role}
use Rattle.dsd_record.specs.Choices.{Chooser}
use Rattle.dsd_station.specs.ByPlan.{fail_off, stop_off}
use Rattle.dsd_station.specs.Heard.{answers_in}
use Rattle.dsd_station.specs.Logged.{Log}
use Rattle.dsd_station.specs.Replayed.{State, state_of}
use Rattle.dsd_journal.specs.JournalImage.{gate_place}
use Rattle.dsd_journal.specs.declared.entry.Entry.{Entry}
use Rattle.dsd_journal.specs.declared.header.Header.{Header}
use Rattle.dsd_journal.specs.declared.limits.TheConstants.{JOURNAL_BYTES}
use Rattle.own_turn.specs.TurnsGrow.{IsGrown}
use Rattle.dsd_end.specs.Carrying.{Carried}
use Rattle.dsd_end.specs.Runs.{bytes_heard}
use Rattle.dsd_end.specs.declared.fault.TheConstants.{NOISE_BYTES}
use Rattle.cable_world.specs.Scenes.{Scene, Side, side}
use Rattle.cable_world.specs.Steps.{WorldStep, same_role}
use Rattle.cable_world.specs.declared.event.Event.{Event}
use Rattle.cable_world.specs.declared.event.Event.TheVariants.{Again, Break, Clean, Fail, Hear, Lose, Pass, Quiet, Start, Stop, Unplug}
use Rattle.clean_worlds.specs.CleanBeginnings.{OpensOver}

-- ---- nothing armed

-- no stop and no failure is armed that has not fallen
pub record IsSpared (log : Log) : Type 0 where
  pub failure : fail_off log.plan.failure log.calls ≡ 0
  pub stop : stop_off log.plan.stop log.calls ≡ 0

abbrev pub AreSpared : Scene → Type 0
AreSpared scene = (role : Role) → IsSpared (side scene role).log

-- the event arms nothing
abbrev pub IsNoArming : Event → Type 0
IsNoArming (Start role) = ⊤
IsNoArming (Pass n) = ⊤
IsNoArming Lose = ⊤
IsNoArming Break = ⊤
IsNoArming (Again role k) = ⊤
IsNoArming (Quiet role n) = ⊤
IsNoArming Unplug = ⊤
IsNoArming (Hear role bytes) = ⊤
IsNoArming (Stop role n pick) = ⊥
IsNoArming (Fail role n) = ⊥
IsNoArming Clean = ⊤

-- a script without STOP and FAIL
abbrev pub ArmsNothing : List Event → Type 0
ArmsNothing [] = ⊤
ArmsNothing (event ∷ events) = IsNoArming event × ArmsNothing events

-- where its end runs, the station has not stopped
abbrev pub WorksIfRunning : Side → Type 0
WorksIfRunning its = its.runs ≡ true → (state_of its.log.calls).left ≡ None

abbrev pub RunningWork : Scene → Type 0
RunningWork scene = (role : Role) → WorksIfRunning (side scene role)

-- ---- room

-- The journal has room for whatever this end may add to these entries: sets that it chooses to sign, and sets that these bytes carry.
abbrev pub HasRoom : Role → Chooser → List Entry → List ℕ → Type 0
HasRoom role chooser entries bytes = (last : List Entry) → IsGrown role chooser (Carried bytes) entries last → gate_place last < JOURNAL_BYTES

-- the bytes that this end hears in these steps
abbrev pub bytes_by : Role → List WorldStep → List ℕ
bytes_by role [] = []
bytes_by role (one ∷ steps) = (if same_role role one.role then bytes_heard (answers_in one.part) else []) ++ bytes_by role steps

-- There is room for what this end may sign and take in these steps, over the entries that its journal holds as it is opened, and what it hears in them is no noise.
pub record HasRoomIn (role : Role) (header : Header) (chooser : Chooser) (state : State) (steps : List WorldStep) : Type 0 where
  pub journal : (entries : List Entry) → OpensOver role header state steps entries → HasRoom header.role chooser entries (bytes_by role steps)
  pub bytes : length (bytes_by role steps) < NOISE_BYTES

-- ---- both

-- From this scene nothing hinders these steps: nothing that is armed falls in them, and there is room in both journals.
pub record IsUnhindered (chooser : Role → Chooser) (header : Role → Header) (state : Role → State) (scene : Scene) (steps : List WorldStep) : Type 0 where
  pub spared : AreSpared scene
  pub room : (role : Role) → HasRoomIn role (header role) (chooser role) (state role) steps
