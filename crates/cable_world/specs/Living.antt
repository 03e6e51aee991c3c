-- The runs of each end, as the steps of a world show them.
use Rattle.std.specs.Prelude.{◌≡◌, ℕ, Bool, true, false, ◌&&◌, List, [], ◌∷◌, ◌++◌, ⊤}
use Rattle.dsd_values.specs.declared.role.Role.{Role}
use Rattle.dsd_station.specs.declared.call.Call.{Call}
use Rattle.dsd_station.specs.declared.call.Call.TheVariants.{Attach, Size, Read, Write, Sync, Listen, Speak, Restart}
use Rattle.dsd_station.specs.Heard.{answers_in, said_in}
use Rattle.dex_line.specs.FrameShapes.{FrameShape}
use Rattle.dex_line.specs.FrameSpelling.{IsSpoken, spelling}
use Rattle.dsd_end.specs.Runs.{Run}
use Rattle.cable_world.specs.declared.event.Event.{Event}
use Rattle.cable_world.specs.declared.event.Event.TheVariants.{Start, Pass, Lose, Break, Again, Quiet, Unplug, Hear, Stop, Fail, Clean}
use Rattle.cable_world.specs.Steps.{Opening, Poll, StepKind, WorldStep, same_role}

-- ---- steps in runs

-- An opening that answered Ok begins a run. One that did not belongs to the run before it, which ends with the image that is then left.
abbrev pub is_opening : StepKind → Bool
is_opening Opening = true
is_opening Poll = false

abbrev pub begins_run : WorldStep → Bool
begins_run step = is_opening step.kind && step.runs

-- the calls up to the first beginning of a run, and those of each run
pub record Parts : Type 0 where
  pub before : List Call
  pub runs : List (List Call)

abbrev pub with_part : Bool → Bool → List Call → Parts → Parts
with_part false begins part later = later
with_part true false part later = record { before = part ++ later.before; runs = later.runs }
with_part true true part later = record { before = []; runs = (part ++ later.before) ∷ later.runs }

abbrev pub parts_of : Role → List WorldStep → Parts
parts_of role [] = record { before = []; runs = [] }
parts_of role (step ∷ steps) = with_part (same_role role step.role) (begins_run step) step.part (parts_of role steps)

-- each of these runs heard and sent what these calls say
abbrev pub AreRunsOf : List (List Call) → List Run → Type 0
AreRunsOf [] [] = ⊤
AreRunsOf [] (run ∷ runs) = ⊥
AreRunsOf (calls ∷ more) [] = ⊥
AreRunsOf (calls ∷ more) (run ∷ runs) = (run.heard ≡ answers_in calls) × (run.gone ≡ said_in calls) × AreRunsOf more runs

-- ---- which calls an end's openings and polls make

abbrev pub IsFrame : List ℕ → Type 0
IsFrame bytes = (frame : FrameShape) × IsSpoken frame × (bytes ≡ spelling frame)

-- An opening measures, reads and syncs.
abbrev pub MayOpen : Call → Type 0
MayOpen (Attach journal port answer) = ⊥
MayOpen (Size answer) = ⊤
MayOpen (Read at room answer) = ⊤
MayOpen (Write at bytes outcome) = ⊥
MayOpen (Sync outcome) = ⊤
MayOpen (Listen answer) = ⊥
MayOpen (Speak bytes outcome) = ⊥
MayOpen Restart = ⊥

-- A poll may write and listen besides, and each `speak` of it is handed one frame.
abbrev pub MayPoll : Call → Type 0
MayPoll (Attach journal port answer) = ⊥
MayPoll (Size answer) = ⊤
MayPoll (Read at room answer) = ⊤
MayPoll (Write at bytes outcome) = ⊤
MayPoll (Sync outcome) = ⊤
MayPoll (Listen answer) = ⊤
MayPoll (Speak bytes outcome) = IsFrame bytes
MayPoll Restart = ⊥

abbrev pub MayCall : StepKind → Call → Type 0
MayCall Opening call = MayOpen call
MayCall Poll call = MayPoll call

abbrev pub AreCallsOf : StepKind → List Call → Type 0
AreCallsOf kind [] = ⊤
AreCallsOf kind (call ∷ calls) = MayCall kind call × AreCallsOf kind calls

-- each step makes calls of its kind alone
abbrev pub CallSo : List WorldStep → Type 0
CallSo [] = ⊤
CallSo (step ∷ steps) = AreCallsOf step.kind step.part × CallSo steps

-- ---- a script without HEAR

abbrev pub IsNoHear : Event → Type 0
IsNoHear (Hear role bytes) = ⊥
IsNoHear (Start role) = ⊤
IsNoHear (Pass n) = ⊤
IsNoHear Lose = ⊤
IsNoHear Break = ⊤
IsNoHear (Again role k) = ⊤
IsNoHear (Quiet role n) = ⊤
IsNoHear Unplug = ⊤
IsNoHear (Stop role n pick) = ⊤
IsNoHear (Fail role n) = ⊤
IsNoHear Clean = ⊤

abbrev pub HasNoHear : List Event → Type 0
HasNoHear [] = ⊤
HasNoHear (event ∷ events) = IsNoHear event × HasNoHear events
