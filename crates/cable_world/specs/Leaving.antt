-- What the ends of a world tell of its runs, step by step, so that these make up a life.
use Rattle.std.specs.Prelude.{◌≡◌, ℕ, Bool, true, false, if◌then◌else◌, List, [], ◌∷◌, ◌++◌, ⊤}
use Rattle.dsd_values.specs.declared.role.Role.{Role}
use Rattle.dsd_station.specs.declared.call.Reception.{Reception}
use Rattle.dsd_station.specs.declared.call.Call.{Call}
use Rattle.dsd_station.specs.declared.call.Call.TheVariants.{Attach, Size, Read, Write, Sync, Listen, Speak, Restart}
use Rattle.dsd_station.specs.Disk.{MayLeave}
use Rattle.dsd_station.specs.Heard.{answers_in, said_in}
use Rattle.dsd_station.specs.Notes.{Fits}
use Rattle.dsd_station.specs.Replayed.{IsFine, State, image_or, replay, state_of, step}
use Rattle.dsd_station.specs.Logged.{Log}
use Rattle.dsd_journal.specs.declared.entry.Entry.{Entry}
use Rattle.dsd_journal.specs.declared.header.Header.{Header}
use Rattle.dsd_journal.specs.JournalImage.{Holds}
use Rattle.dsd_end.specs.Lives.{IsRun, IsLife, last_list}
use Rattle.dsd_end.specs.Runs.{Run}
use Rattle.cable_world.specs.Living.{AreRunsOf, begins_run, is_opening, parts_of}
use Rattle.cable_world.specs.Steps.{WorldStep, same_role}

-- a run of which so much was heard and so much has gone out, that ended with these entries
abbrev pub run_to : List Entry → List Reception → List ℕ → List Entry → Run
run_to first heard gone after = record { before = first; heard = heard; gone = gone; after = after }

-- Each image that a stop may leave now holds some list with which this is a run.
abbrev pub LeavesRuns : Role → Header → List Entry → List Reception → List ℕ → State → Type 0
LeavesRuns role header first heard gone state =
    (image : List ℕ) → MayLeave state.now.sure state.now.writes image → (after : List Entry) × Holds header after image × IsRun role (run_to first heard gone after)

-- Each image that a stop may leave now holds no entries.
abbrev pub LeavesNothing : Header → State → Type 0
LeavesNothing header state = (image : List ℕ) → MayLeave state.now.sure state.now.writes image → Holds header [] image

abbrev pub WritesNot : Call → Type 0
WritesNot (Attach journal port answer) = ⊤
WritesNot (Size answer) = ⊤
WritesNot (Read at room answer) = ⊤
WritesNot (Write at bytes outcome) = ⊥
WritesNot (Sync outcome) = ⊤
WritesNot (Listen answer) = ⊤
WritesNot (Speak bytes outcome) = ⊤
WritesNot Restart = ⊤

-- these calls write nothing
abbrev pub AreUnwriting : State → List Call → Type 0
AreUnwriting state [] = ⊤
AreUnwriting state (call ∷ calls) = Fits state call × WritesNot call × AreUnwriting (step state call) calls

-- the calls that a step adds to the record, the restart before an opening with them
abbrev pub recorded : WorldStep → List Call
recorded one = if is_opening one.kind then Restart ∷ one.part else one.part

abbrev pub state_behind : State → WorldStep → State
state_behind state one = replay state (recorded one)

-- An opening writes nothing, and one that answered Ok leaves a journal that holds the entries of the new run.
abbrev pub BeginsRun : Role → Header → State → WorldStep → List Entry → Type 0
BeginsRun role header state one next =
    AreUnwriting state (recorded one) × Holds header next (state_behind state one).journal × LeavesRuns role header next (answers_in one.part) (said_in one.part) (state_behind state one)

-- While a run goes on: after each poll each image that may be left makes it a run; a failed opening writes and speaks nothing; and
-- behind the next opening the same holds of the next run.
abbrev pub GoesOn : Role → Header → State → List Entry → List Reception → List ℕ → List WorldStep → Type 0
GoesOn role header state first heard gone [] = ⊤
GoesOn role header state first heard gone (one ∷ steps) =
    (same_role role one.role ≡ false → GoesOn role header state first heard gone steps)
    × (same_role role one.role ≡ true → begins_run one ≡ false → is_opening one.kind ≡ false
    → IsFine (state_behind state one) × LeavesRuns role header first (heard ++ answers_in one.part) (gone ++ said_in one.part) (state_behind state one))
    × (same_role role one.role ≡ true → begins_run one ≡ false → is_opening one.kind ≡ true → AreUnwriting state (recorded one) × (said_in one.part ≡ []))
    × (same_role role one.role ≡ true → begins_run one ≡ false → GoesOn role header (state_behind state one) first (heard ++ answers_in one.part) (gone ++ said_in one.part) steps)
    × (same_role role one.role ≡ true → begins_run one ≡ true
    → (next : List Entry) × BeginsRun role header state one next × GoesOn role header (state_behind state one) next (answers_in one.part) (said_in one.part) steps)

-- Before the first run nothing is written, and no end is polled.
abbrev pub Begins : Role → Header → State → List WorldStep → Type 0
Begins role header state [] = ⊤
Begins role header state (one ∷ steps) =
    (same_role role one.role ≡ false → Begins role header state steps)
    × (same_role role one.role ≡ true → begins_run one ≡ false → AreUnwriting state (recorded one) × Begins role header (state_behind state one) steps)
    × (same_role role one.role ≡ true → begins_run one ≡ true
    → (next : List Entry) × BeginsRun role header state one next × GoesOn role header (state_behind state one) next (answers_in one.part) (said_in one.part) steps)

-- ---- what is left

abbrev pub behind_if : Bool → State → WorldStep → State
behind_if true state one = state_behind state one
behind_if false state one = state

-- what the station of this end comes to behind these steps
abbrev pub state_after : Role → State → List WorldStep → State
state_after role state [] = state
state_after role state (one ∷ steps) = state_after role (behind_if (same_role role one.role) state one) steps

-- the image that it is left with
abbrev pub image_left : State → List ℕ
image_left state = image_or state.left state.journal

-- what these steps add to the record of this end's station
abbrev pub record_of : Role → List WorldStep → List Call
record_of role [] = []
record_of role (one ∷ steps) = (if same_role role one.role then recorded one else []) ++ record_of role steps

-- ---- the headline of a world

-- The runs that these steps show of this end are a life, and the last list is the one that the image left holds.
pub record IsLifeOf (role : Role) (header : Header) (state : State) (steps : List WorldStep) (runs : List Run) : Type 0 where
  pub are : AreRunsOf (parts_of role steps).runs runs
  pub life : IsLife role runs
  pub holds : Holds header (last_list runs) (image_left (state_after role state steps))

-- A station that holds no entries, and what the openings and polls of its end tell.
pub record IsBegun (role : Role) (header : Header) (log : Log) (steps : List WorldStep) : Type 0 where
  pub fine : IsFine (state_of log.calls)
  pub nothing : LeavesNothing header (state_of log.calls)
  pub tells : Begins role header (state_of log.calls) steps
