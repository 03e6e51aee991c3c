-- That each poll of a world's end is one step of the end's table, rules and choices.
use Rattle.std.specs.Prelude.{◌≡◌, ℕ, Bool, true, false, List, [], ◌∷◌, Option, Some, None}
use Rattle.dsd_values.specs.declared.role.Role.{Role}
use Rattle.dsd_record.specs.Choices.{Chooser}
use Rattle.dsd_station.specs.declared.call.Call.{Call}
use Rattle.dsd_station.specs.declared.call.Reception.{Reception}
use Rattle.dsd_station.specs.Failures.{failed_in}
use Rattle.dsd_station.specs.Heard.{answers_in, said_in}
use Rattle.dsd_station.specs.Replayed.{State}
use Rattle.dsd_journal.specs.declared.entry.Entry.{Entry}
use Rattle.dsd_journal.specs.declared.header.Header.{Header}
use Rattle.dsd_journal.specs.declared.opening.OpenFault.TheVariants as opens
use Rattle.dsd_journal.specs.JournalImage.{Holds}
use Rattle.dsd_end.specs.declared.end.Turn.{Turn}
use Rattle.dsd_end.specs.declared.end.Turn.TheVariants as turns
use Rattle.dsd_end.specs.declared.fault.EndFault.{EndFault}
use Rattle.dsd_end.specs.declared.fault.EndFault.TheVariants as ends
use Rattle.dsd_end.specs.EndFaults.{IsNoise}
use Rattle.dsd_end.specs.EndSeen.{turn_at}
use Rattle.dsd_end.specs.PollStep.{Done, Next, bytes_of}
use Rattle.dsd_end.specs.Polls.{with_flags}
use Rattle.dsd_end.specs.PollsHeard.{receptions_of}
use Rattle.dsd_end.specs.Standings.{Standing, first_standing}
use Rattle.cable_world.specs.Faulting.{FindsFull, HasFailed}
use Rattle.cable_world.specs.Leaving.{behind_if, state_behind}
use Rattle.cable_world.specs.Noted.{Noted, step_of}
use Rattle.cable_world.specs.Steps.{same_role}
use Rattle.cable_world.specs.declared.answer.Answer.{Answer}
use Rattle.cable_world.specs.declared.answer.Answer.TheVariants.{Broken, Ended, NotOpened, Opened, Running}

-- With these calls, none of which failed, a poll from this standing has done so: it is one step, over what its listen heard, if it listened.
pub record Steps (chooser : Chooser) (standing : Standing) (part : List Call) (done : Done) : Type 0 where
  pub heard : Option Reception
  pub next : Next chooser standing heard done
  pub listened : answers_in part ≡ receptions_of (heard ∷ [])
  pub said : said_in part ≡ bytes_of done
  pub fine : failed_in part ≡ 0

-- What a poll with a fault tells: noise is answered behind a step, a fault of the station behind a call that failed, and a full journal where the next entry
-- of an own turn has no room.
abbrev pub Breaks : EndFault → Chooser → Standing → List Call → Standing → Type 0
Breaks (ends.Noise count) chooser standing part last = IsNoise last count × ((done : Done) × Steps chooser standing part done × (done.standing ≡ with_flags last false false))
Breaks ends.Station chooser standing part last = HasFailed part
Breaks (ends.Full length) chooser standing part last = FindsFull chooser standing part length
Breaks ends.Failed chooser standing part last = ⊥
Breaks ends.Memory chooser standing part last = ⊥

abbrev pub TurnsTo : Turn → Chooser → Standing → List Call → Standing → Type 0
TurnsTo turn chooser standing part last = (done : Done) × Steps chooser standing part done × (turn ≡ turn_at last.line) × (done.standing ≡ last)

-- What a poll that answered so has done to a standing.
abbrev pub PollsTo : Answer → Chooser → Standing → List Call → Standing → Type 0
PollsTo Opened chooser standing part last = ⊥
PollsTo (NotOpened fault) chooser standing part last = ⊥
PollsTo Running chooser standing part last = TurnsTo turns.Running chooser standing part last
PollsTo (Ended end) chooser standing part last = TurnsTo (turns.Ended end) chooser standing part last
PollsTo (Broken fault) chooser standing part last = Breaks fault chooser standing part last

abbrev pub PollsFrom : Answer → Chooser → List Call → Option Standing → Option Standing → Type 0
PollsFrom answer chooser part before after = (standing : Standing) × (last : Standing) × (before ≡ Some standing) × PollsTo answer chooser standing part last × (after ≡ Some last)

-- What a step does to the standing of its end, which has none before it was opened. The journal behind the step is the third argument. An opening is refused
-- behind a call that failed, and for nothing else.
abbrev pub Follows : Chooser → Header → List ℕ → Answer → List Call → Option Standing → Option Standing → Type 0
Follows chooser header journal Opened part before after = (entries : List Entry) × Holds header entries journal × (after ≡ Some (first_standing header entries)) × (failed_in part ≡ 0)
Follows chooser header journal (NotOpened fault) part before after = (after ≡ None) × (fault ≡ opens.Station) × HasFailed part
Follows chooser header journal Running part before after = PollsFrom Running chooser part before after
Follows chooser header journal (Ended end) part before after = PollsFrom (Ended end) chooser part before after
Follows chooser header journal (Broken fault) part before after = PollsFrom (Broken fault) chooser part before after

abbrev pub FollowsIf : Bool → Chooser → Header → State → Noted → Option Standing → Option Standing → Type 0
FollowsIf true chooser header state one before after = Follows chooser header (state_behind state (step_of one)).journal one.answer one.part before after
FollowsIf false chooser header state one before after = after ≡ before

-- The end of this role comes by these steps from one standing to another.
abbrev pub ComesBy : Role → Chooser → Header → State → Option Standing → List Noted → Option Standing → Type 0
ComesBy role chooser header state before [] after = after ≡ before
ComesBy role chooser header state before (one ∷ noted) after =
    (next : Option Standing) × FollowsIf (same_role role one.role) chooser header state one before next
    × ComesBy role chooser header (behind_if (same_role role one.role) state (step_of one)) next noted after

-- how many sets were refused in the last run
abbrev pub refused_in : Option Standing → ℕ
refused_in None = 0
refused_in (Some standing) = standing.desk.refused
