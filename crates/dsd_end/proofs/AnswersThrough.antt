-- What an answer of a listen does, from the functions that hear it.
use Rattle.std.proofs.Common.{◌≡◌, ◌⊎◌, inl, inr, ℕ, Bool, true, false, List, [], ◌++◌, refl, sym, ◌∙◌, ap, subst, arith, append-nil, Result, OnOk}
use Rattle.std.specs.List.{flat_map}
use Rattle.dex_line.specs.FrameSpelling.{spelling}
use Rattle.dex_handshake.specs.LineRun.{said_of}
use Rattle.dex_handshake.specs.LineTable.{LineStep, quiets, unplugs}
use Rattle.dsd_record.specs.Choices.{Chooser}
use Rattle.dsd_station.specs.Effects.{Passes, Stays}
use Rattle.dsd_station.specs.Stops.{then}
use Rattle.dsd_station.specs.Told.{EachStop, Moment, Told}
use Rattle.dsd_station.specs.declared.call.Reception.{Reception}
use Rattle.dsd_station.specs.declared.call.Reception.TheVariants.{Cut}
use Rattle.dsd_journal.specs.Headers.{IsHeader}
use Rattle.dsd_journal.specs.Journals.{Rests}
use Rattle.dsd_journal.specs.declared.entry.Entry.{Entry}
use Rattle.dsd_journal.specs.declared.header.Header.{Header}
use Rattle.dsd_end.specs.EndSteps.{Says, StepsTo}
use Rattle.dsd_end.specs.PollStep.{HearsUnless, bytes_of, nothing, stepped}
use Rattle.dsd_end.specs.RunSoFar.{ComesTo, LeavesPushing, LeavesRun}
use Rattle.dsd_end.specs.Standings.{Standing, has_ended, with_line}
use Rattle.dsd_end.proofs.RunsComing.{comes_cut, comes_ended, comes_quiet}
use Rattle.dsd_end.proofs.RunsLeft.{run_more, stops_still}
use Rattle.dsd_end.proofs.RunsThrough.{quiet_stops}
use Rattle.dsd_end.proofs.StepsGoing.{on_ok, steps_none}
use Rattle.dsd_end.proofs.PiecesThrough.{Takes}

-- a silence: the Quiet behind what has broken off
pub silence_leaves : {E : Type 0} (r : Result (Unit {0}) E) (chooser : Chooser) (standing at to : Standing) (step : LineStep) (went : Bool) (old mid new : Told) → IsHeader at.header → at.header ≡ standing.header
    → Takes chooser standing [] [] at old mid → Rests at.header at.desk.entries mid → step ≡ quiets at.line → to ≡ with_line at step.next
    → Says (flat_map spelling (said_of step.say)) went mid new → OnOk r (went ≡ true) → LeavesPushing chooser standing [] r to old new
silence_leaves r chooser standing at to step went old mid new titled title takes rests seen is says ok = λ first before heard c.
    let was = takes first before heard c in
    let stops = quiet_stops chooser first before heard [] at mid was.1 step went new titled seen rests says in (
      then was.0 (subst (λ (h : Header). EachStop mid new (LeavesRun h chooser first before heard)) title stops),
      on_ok r (λ (w : went ≡ true).
          let row = comes_quiet chooser first before heard at titled mid.now.gone [] was.1 in
          let same : to ≡ (stepped at (quiets at.line)).standing = is ∙ ap (λ (x : LineStep). with_line at x.next) seen in
          let gone : new.now.gone ≡ mid.now.gone ++ bytes_of (stepped at (quiets at.line)) = (says.ok w).0 ∙ ap (λ (x : LineStep). mid.now.gone ++ flat_map spelling (said_of x.say)) seen in
          subst (λ (l : List ℕ). ComesTo chooser first before heard [] to l) (sym gone)
          (subst (λ (s : Standing). ComesTo chooser first before heard [] s (mid.now.gone ++ bytes_of (stepped at (quiets at.line)))) (sym same) row)) ok,
    )

-- once the session has ended
pub ended_step : (tells : Type 0) (chooser : Chooser) (standing : Standing) (reception : Reception) (told : Told) → (tells → Rests standing.header standing.desk.entries told)
    → StepsTo tells (HearsUnless true chooser standing reception) standing told told
ended_step tells chooser standing reception told rests = steps_none tells (HearsUnless true chooser standing reception) standing told rests refl

pub ended_leaves : (chooser : Chooser) (standing : Standing) (bytes : List ℕ) (told : Told) → has_ended standing.line ≡ true → Rests standing.header standing.desk.entries told
    → Takes chooser standing bytes [] standing told told
ended_leaves chooser standing bytes told ended rests first before heard c =
    (stops_still chooser first before heard standing told.now.gone bytes c told refl rests, comes_ended chooser first before heard standing told.now.gone bytes [] ended c)

-- the cable was unplugged
module _ (chooser : Chooser) (standing to : Standing) (told : Told) (is : to ≡ record standing { line = unplugs standing.line; begun = [] }) where
  pub cut_step : (tells : Type 0) → (tells → Rests standing.header standing.desk.entries told) → StepsTo tells (HearsUnless false chooser standing Cut) to told told
  cut_step tells rests =
      let there : Standing = record standing { line = unplugs standing.line; begun = [] } in
      record {
        done = nothing there;
        step = refl;
        comes = sym is;
        told = λ t. record {
          gone = sym (append-nil told.now.gone);
          syncs = omega arith;
          rests = subst (λ (s : Standing). Rests s.header s.desk.entries told) (sym is) (rests t);
        };
      }

  pub cut_leaves : Rests standing.header standing.desk.entries told → Takes chooser standing [] [] to told told
  cut_leaves rests first before heard c = (
    stops_still chooser first before heard standing told.now.gone [] c told refl rests,
    subst (λ (s : Standing). ComesTo chooser first before heard [] s told.now.gone) (sym is) (comes_cut chooser first before heard standing told.now.gone [] c),
  )

-- ---- one poll

-- the same run, of which more was heard
pub leaves_more : (header : Header) (chooser : Chooser) (first : List Entry) (before : List ℕ) (heard more : List Reception) (image out : List ℕ) → LeavesRun header chooser first before heard image out
    → LeavesRun header chooser first before (heard ++ more) image out
leaves_more header chooser first before heard more image out l = record {
  last = l.last;
  holds = l.holds;
  gone = l.gone;
  split = l.split;
  run = run_more header.role chooser (record { before = first; heard = heard; gone = l.gone; after = l.last }) more l.run;
}

pub time_gone : (old new : Told) → Passes old new [] old.now ⊎ Stays old new → new.now.gone ≡ old.now.gone
time_gone old new (inl passes) = ap (λ (m : Moment). m.gone) passes.now
time_gone old new (inr stays) = ap (λ (m : Moment). m.gone) stays.now
