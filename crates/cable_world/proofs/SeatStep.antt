-- What a poll and an opening have in common.
use Rattle.std.proofs.Common.{◌≡◌, ℕ, Bool, true, false, List, [], ◌∷◌, is_some, refl, sym, ◌∙◌, ap, subst, if◌then◌else◌, Option, Some, None, Result, Ok, Err}
use Rattle.dsd_values.specs.declared.role.Role.{Role}
use Rattle.dsd_record.specs.Choices.{Chooser}
use Rattle.dsd_station.specs.declared.call.Call.{Call}
use Rattle.dsd_station.specs.ByPlan.{EachAnswered}
use Rattle.dsd_station.specs.Logged.{Log}
use Rattle.dsd_station.specs.Plans.{after_restart}
use Rattle.dsd_journal.specs.declared.opening.OpenFault.{OpenFault}
use Rattle.cable_world.specs.Living.{AreCallsOf}
use Rattle.cable_world.specs.Noted.{kind_of, runs_by}
use Rattle.cable_world.specs.Obeying.{Course, Makes}
use Rattle.cable_world.specs.Players.{PlayerView}
use Rattle.cable_world.specs.Scenes.{all_played, stepped, with_log}
use Rattle.cable_world.specs.SeatOpens.{SeatStarts, opening_answer, player_in}
use Rattle.cable_world.specs.SeatSteps.{IsReady, SeatPolls}
use Rattle.cable_world.specs.Seats.{SeatView, with_spoken}
use Rattle.cable_world.specs.Steps.{Opening, Poll, StepKind, WorldStep}
use Rattle.cable_world.specs.declared.answer.Answer.{Answer}

-- a step of a seat's end, where its station stood so when it began
pub record IsSeatStep (kind_is : StepKind) (answer : Answer) (mid : Log) (part : List Call) (old new : SeatView) : Type 0 where
  pub log : new.log ≡ all_played mid part
  pub answers : EachAnswered mid.plan mid.calls part
  pub calls : AreCallsOf kind_is part
  pub kind : kind_of answer ≡ kind_is
  pub runs : is_some new.player ≡ runs_by answer
  pub spoken : new.spoken ≡ old.spoken
  pub ready : IsReady new

-- the end makes a step of this kind from there
abbrev pub StepFrom : Role → StepKind → Log → Course
StepFrom role kind mid scene made next = (step : WorldStep) × (made ≡ step ∷ []) × Makes role kind (with_log scene role mid) step × (next ≡ stepped (with_log scene role mid) step)

pub ready_with : (seat new : SeatView) (frames : List (List ℕ)) → new ≡ with_spoken seat frames → IsReady seat → IsReady new
ready_with seat new frames is ready = subst IsReady (sym is) (record { unstarved = ready.unstarved; pollable = ready.pollable })

runs_if : (b : Bool) (last : PlayerView) → is_some (if b then Some last else None) ≡ b
runs_if true last = refl
runs_if false last = refl

pub poll_step : (answer : Answer) (old new : SeatView) (p : SeatPolls answer old new) → IsReady new → IsSeatStep Poll answer old.log p.polls.part old new
poll_step answer old new p ready = record {
  log = p.polls.log;
  answers = p.polls.answers;
  calls = p.polls.calls;
  kind = p.polls.kind;
  runs = ap (λ (x : Option PlayerView). is_some x) p.now ∙ runs_if (runs_by answer) p.last;
  spoken = p.spoken;
  ready = ready;
}

opening_kind : (opened : Result PlayerView OpenFault) → kind_of (opening_answer opened) ≡ Opening
opening_kind (Ok player) = refl
opening_kind (Err fault) = refl

opening_runs : (opened : Result PlayerView OpenFault) → is_some (player_in opened) ≡ runs_by (opening_answer opened)
opening_runs (Ok player) = refl
opening_runs (Err fault) = refl

pub open_step : (role : Role) (chooser : Chooser) (answer : Answer) (old new : SeatView) (s : SeatStarts role chooser answer old new) → IsReady new
    → IsSeatStep Opening answer (after_restart old.log) s.opens.part old new
open_step role chooser answer old new s ready = record {
  log = s.opens.log;
  answers = s.opens.answers;
  calls = s.opens.calls;
  kind = ap kind_of s.answer_is ∙ opening_kind s.opened;
  runs = ap (λ (x : Option PlayerView). is_some x) s.now ∙ opening_runs s.opened ∙ sym (ap runs_by s.answer_is);
  spoken = s.spoken;
  ready = ready;
}
