-- What each event of a script does to two ends and the cable between them, and when a world obeys its script.
use Rattle.std.specs.Prelude.{◌≡◌, ◌-◌, ℕ, zero, suc, Bool, true, false, List, [], ◌∷◌, ◌++◌, Option, Some, None, slice_get}
use Rattle.dsd_values.specs.declared.role.Role.{Role}
use Rattle.dsd_values.specs.declared.role.Role.TheVariants.{Receiver, Supplier}
use Rattle.dsd_station.specs.declared.feeding.Given.{Given}
use Rattle.dsd_station.specs.declared.feeding.Given.TheVariants as given
use Rattle.dsd_station.specs.ByPlan.{EachAnswered}
use Rattle.dsd_station.specs.Logged.{Log}
use Rattle.dsd_station.specs.Plans.{with_failure, with_stop}
use Rattle.dex_line.specs.Occurrence.{broken}
use Rattle.cable_world.specs.declared.event.Event.{Event}
use Rattle.cable_world.specs.declared.event.Event.TheVariants.{Start, Pass, Lose, Break, Again, Quiet, Unplug, Hear, Stop, Fail, Clean}
use Rattle.cable_world.specs.Steps.{StepKind, Opening, Poll, WorldStep, other}
use Rattle.cable_world.specs.Scenes.{Scene, fed, is_busy, restarted, side, some_runs, stepped, with_log, with_waiting}

-- from one scene these steps are made, and lead to another
abbrev pub Course : Type 1
Course = Scene → List WorldStep → Scene → Type 0

abbrev pub Nothing : Course
Nothing scene made next = (made ≡ []) × (next ≡ scene)

-- no step is made, and this is what comes
abbrev pub Becomes : Scene → List WorldStep → Scene → Type 0
Becomes after made next = (made ≡ []) × (next ≡ after)

-- one course and then another
pub record Then (one two : Course) (scene : Scene) (made : List WorldStep) (next : Scene) : Type 0 where
  pub between : Scene
  pub first : List WorldStep
  pub rest : List WorldStep
  pub joined : made ≡ first ++ rest
  pub before : one scene first between
  pub behind : two between rest next

abbrev pub Times : ℕ → Course → Course
Times zero one = Nothing
Times (suc n) one = Then one (Times n one)

-- ---- what an end does

-- This end makes the step, and each of its calls has the answer that the station's record and plan give. So it hears what it was fed; a stop
-- or a failure falls at the armed call, the stop with the image of its pick; and no other call fails but those after a stop.
pub record Makes (who : Role) (what : StepKind) (scene : Scene) (step : WorldStep) : Type 0 where
  pub role : step.role ≡ who
  pub kind : step.kind ≡ what
  pub answers : EachAnswered (side scene who).log.plan (side scene who).log.calls step.part

-- It is polled until what its port is due to give is taken, or it runs no more.
abbrev pub IsPolledOut : Role → Course
IsPolledOut role scene [] next = (is_busy (side scene role) ≡ false) × (next ≡ scene)
IsPolledOut role scene (step ∷ made) next = (is_busy (side scene role) ≡ true) × Makes role Poll scene step × IsPolledOut role (stepped scene step) made next

-- It hears this, as far as it runs. Where it does not run it hears nothing.
abbrev pub HearsIf : Bool → Role → Given → Course
HearsIf true role what scene made next = IsPolledOut role (fed scene role what) made next
HearsIf false role what scene made next = Nothing scene made next

abbrev pub Hears : Role → Given → Course
Hears role what scene made next = HearsIf (side scene role).runs role what scene made next

-- Where it does not run, its station restarts and it is opened; a handheld that was opened is polled once.
abbrev pub IsPolledIf : Bool → Role → Course
IsPolledIf true role scene made next = (step : WorldStep) × (made ≡ step ∷ []) × Makes role Poll scene step × (next ≡ stepped scene step)
IsPolledIf false role scene made next = Nothing scene made next

abbrev pub IsFirstPolled : Role → Course
IsFirstPolled Receiver scene made next = Nothing scene made next
IsFirstPolled Supplier scene made next = IsPolledIf scene.supplier.runs Supplier scene made next

abbrev pub Opens : Role → Course
Opens role scene [] next = ⊥
Opens role scene (step ∷ made) next = Makes role Opening scene step × IsFirstPolled role (stepped scene step) made next

abbrev pub StartsIf : Bool → Role → Course
StartsIf true role scene made next = Nothing scene made next
StartsIf false role scene made next = Opens role (restarted scene role) made next

abbrev pub Starts : Role → Course
Starts role scene made next = StartsIf (side scene role).runs role scene made next

-- ---- what happens to frames

-- The oldest of these waiting frames is delivered, with this change; nothing where none waits.
abbrev pub DeliversOf : List (Role × List ℕ) → (List ℕ → List ℕ) → Course
DeliversOf [] change scene made next = Nothing scene made next
DeliversOf (one ∷ waiting) change scene made next = Hears one.0 (given.Bytes (change one.1)) (with_waiting scene waiting) made next

abbrev pub Delivers : (List ℕ → List ℕ) → Course
Delivers change scene made next = DeliversOf scene.waiting change scene made next

abbrev pub unchanged : List ℕ → List ℕ
unchanged frame = frame

-- the oldest of these is dropped
abbrev pub without_first : List (Role × List ℕ) → List (Role × List ℕ)
without_first [] = []
without_first (one ∷ waiting) = waiting

-- A frame that was spoken before is delivered again; nothing where there is none.
abbrev pub HearsAgain : Option (List ℕ) → Role → Course
HearsAgain None role scene made next = Nothing scene made next
HearsAgain (Some frame) role scene made next = Hears role (given.Bytes frame) scene made next

-- All waiting frames are dropped and each running end hears Unplugged, the handheld first.
abbrev pub Unplugs : Course
Unplugs scene made next = Then (Hears Supplier given.Unplugged) (Hears Receiver given.Unplugged) (with_waiting scene []) made next

-- ---- CLEAN

-- The oldest waiting frame is delivered; where none waits, each running end hears Quiet, the handheld first.
abbrev pub IsRoundOf : List (Role × List ℕ) → Course
IsRoundOf [] scene made next = Then (Hears Supplier (given.Quiet 1)) (Hears Receiver (given.Quiet 1)) scene made next
IsRoundOf (one ∷ waiting) scene made next = Delivers unchanged scene made next

abbrev pub IsRound : Course
IsRound scene made next = IsRoundOf scene.waiting scene made next

-- So many rounds, while an end runs, until none does.
abbrev pub AreRounds : ℕ → Course
AreRounds zero scene made next = (some_runs scene ≡ false) × Nothing scene made next
AreRounds (suc n) scene made next = (some_runs scene ≡ true) × Then IsRound (AreRounds n) scene made next

abbrev pub Exchanges : Course
Exchanges scene made next = (n : ℕ) × AreRounds n scene made next

-- ---- the events

abbrev pub Plays : Event → Course
Plays (Start role) scene made next = Starts role scene made next
Plays (Pass n) scene made next = Times n (Delivers unchanged) scene made next
Plays Lose scene made next = Becomes (with_waiting scene (without_first scene.waiting)) made next
Plays Break scene made next = Delivers broken scene made next
Plays (Again role k) scene made next = HearsAgain (slice_get (side scene (other role)).spoken (k - 1)) role scene made next
Plays (Quiet role n) scene made next = Times n (Hears role (given.Quiet 1)) scene made next
Plays Unplug scene made next = Unplugs scene made next
Plays (Hear role bytes) scene made next = Hears role (given.Bytes bytes) scene made next
Plays (Stop role n pick) scene made next = Becomes (with_log scene role (with_stop (side scene role).log n pick)) made next
Plays (Fail role n) scene made next = Becomes (with_log scene role (with_failure (side scene role).log n)) made next
Plays Clean scene made next = Then Unplugs (Then (Starts Receiver) (Then (Starts Supplier) Exchanges)) scene made next

-- The events are those of the script, in their order, each with its effect, and all of the steps are theirs. What the ends say is free here:
-- it is what they are.
abbrev pub Obeys : List Event → Course
Obeys [] = Nothing
Obeys (event ∷ events) = Then (Plays event) (Obeys events)

-- a world begins with two stations of which these are the records and the plans; no end runs, and no frame waits
abbrev pub first_scene : Log → Log → Scene
first_scene supplier receiver = record {
  supplier = record { log = supplier; runs = false; spoken = [] };
  receiver = record { log = receiver; runs = false; spoken = [] };
  waiting = [];
}
