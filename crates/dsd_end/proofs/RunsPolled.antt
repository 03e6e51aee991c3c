-- A run goes on through a poll, whatever the poll answers.
use Rattle.std.proofs.Common.{◌≡◌, ℕ, Bool, true, false, List, [], ◌∷◌, ◌++◌, length, refl, sym, ◌∙◌, ap, subst, arith, append_assoc, append-nil, length-take, Some, None, Result, Ok, Err, OnOk}
use Rattle.dex_line.specs.FrameShapes.{Enq}
use Rattle.dex_line.specs.FrameSpelling.{spelling}
use Rattle.dsd_record.specs.Choices.{Chooser}
use Rattle.dsd_station.specs.Effects.{IsPiece, heard_in}
use Rattle.dsd_station.specs.declared.station.Heard.{Heard as Answered}
use Rattle.dsd_station.specs.declared.station.Heard.TheVariants.{Bytes, Quiet, Unplugged}
use Rattle.dsd_station.specs.Stops.{then, weaken}
use Rattle.dsd_station.specs.Told.{Allows, EachStop, Told}
use Rattle.dsd_station.specs.declared.call.Reception.{Reception}
use Rattle.dsd_journal.specs.Headers.{IsHeader}
use Rattle.dsd_journal.specs.Journals.{Rests}
use Rattle.dsd_journal.specs.declared.entry.Entry.{Entry}
use Rattle.dsd_journal.specs.declared.header.Header.{Header}
use Rattle.dsd_end.specs.EndSteps.{Says, StepsTo}
use Rattle.dsd_end.specs.PollStep.{HearsUnless, PollsAt, begins, bytes_of}
use Rattle.dsd_end.specs.Polls.{IsSomething, Polled, failed_by, with_flags}
use Rattle.dsd_end.specs.RunSoFar.{ComesTo, LeavesPushing, LeavesRun, Runs, bytes_in}
use Rattle.dsd_end.specs.Standings.{Standing, has_ended}
use Rattle.dsd_end.proofs.RunsComing.{comes_begins, comes_listening}
use Rattle.dsd_end.proofs.RunsLeft.{allows_here, stops_said}
use Rattle.dsd_end.proofs.AnswersThrough.{leaves_more}
use Rattle.dsd_end.proofs.StepsGoing.{on_ok}

not_so : true ≡ false → ⊥
not_so e = cc

-- the flags are not asked of a run
pub comes_flagged : (chooser : Chooser) (first : List Entry) (before : List ℕ) (heard : List Reception) (left : List ℕ) (standing : Standing) (gone : List ℕ) (f g : Bool) → ComesTo chooser first before heard left standing gone
    → ComesTo chooser first before heard left (with_flags standing f g) gone
comes_flagged chooser first before heard left standing gone f g c = record {
  legal = c.legal;
  said = c.said;
  split = c.split;
  past = c.past;
  so_far = record { is = refl; grown = c.so_far.grown; line = c.so_far.line; said = c.so_far.said };
  behind = c.behind;
  bytes = c.bytes;
  going = c.going;
}

module _ (chooser : Chooser) (first : List Entry) (beginning : Told) (standing to : Standing) (f g : Bool) (old new : Told) where
  pub runs_by : {T E : Type 0} (r : Result T E) (more : List Reception) → new.heard ≡ old.heard ++ more → to.header ≡ standing.header
      → ((heard : List Reception) → ComesTo chooser first beginning.now.gone heard [] standing old.now.gone
      → EachStop old new (LeavesRun standing.header chooser first beginning.now.gone (heard ++ more)) × OnOk r (ComesTo chooser first beginning.now.gone (heard ++ more) [] to new.now.gone))
      → Runs chooser first beginning (with_flags standing f false) old → Runs chooser first beginning (with_flags to g (failed_by r)) new
  runs_by r more hears title goes runs =
      let went = goes runs.heard (comes_flagged chooser first beginning.now.gone runs.heard [] (with_flags standing f false) old.now.gone standing.first standing.failed (runs.comes refl)) in
      record {
        heard = runs.heard ++ more;
        since = hears ∙ ap (λ (l : List Reception). l ++ more) runs.since ∙ append_assoc beginning.heard runs.heard more;
        stops = subst (λ (h : Header). EachStop beginning new (LeavesRun h chooser first beginning.now.gone (runs.heard ++ more))) (sym title)
            (then (weaken (LeavesRun standing.header chooser first beginning.now.gone (runs.heard ++ more)) runs.stops
            (λ image out l. leaves_more standing.header chooser first beginning.now.gone runs.heard more image out l)) went.0);
        comes = λ fine. kept r fine went.1;
      }
    where
      kept : {T E : Type 0} (r : Result T E) → failed_by r ≡ false → OnOk r (ComesTo chooser first beginning.now.gone (runs.heard ++ more) [] to new.now.gone)
          → ComesTo chooser first beginning.now.gone (runs.heard ++ more) [] (with_flags to g (failed_by r)) new.now.gone
      kept (Ok x) fine c = comes_flagged chooser first beginning.now.gone (runs.heard ++ more) [] to new.now.gone g false c
      kept (Err e) fine c = absurd (not_so fine)

  -- something was heard
  pub runs_listening : {E : Type 0} (r : Result (Unit {0}) E) (reception : Reception) (mid : Told) → mid.heard ≡ old.heard ++ reception ∷ [] → mid.now.gone ≡ old.now.gone
      → ((P : List ℕ → List ℕ → Type 0) → Allows old.now P → EachStop old mid P) → Rests standing.header standing.desk.entries old → new.heard ≡ mid.heard → to.header ≡ standing.header
      → LeavesPushing chooser standing (bytes_in reception) r to mid new
      → Runs chooser first beginning (with_flags standing f false) old → Runs chooser first beginning (with_flags to g (failed_by r)) new
  runs_listening r reception mid hears still quiet rests same title leaves runs =
      runs_by r (reception ∷ []) (same ∙ hears) title (λ heard c.
      let more = comes_listening chooser first beginning.now.gone heard standing old.now.gone reception c in
      let at_mid = leaves first beginning.now.gone (heard ++ reception ∷ [])
      (subst (λ (l : List ℕ). ComesTo chooser first beginning.now.gone (heard ++ reception ∷ []) (bytes_in reception) standing l) (sym still) more) in (
        then (quiet (LeavesRun standing.header chooser first beginning.now.gone (heard ++ reception ∷ []))
            (allows_here chooser first beginning.now.gone (heard ++ reception ∷ []) standing old.now.gone (bytes_in reception) more old refl rests)) at_mid.0,
        at_mid.1,
      )) runs

  -- a listen that failed
  pub runs_deaf : {T E : Type 0} (r : Result T E) → failed_by r ≡ true → new.heard ≡ old.heard → ((P : List ℕ → List ℕ → Type 0) → Allows old.now P → EachStop old new P)
      → Rests standing.header standing.desk.entries old → to.header ≡ standing.header
      → Runs chooser first beginning (with_flags standing f false) old → Runs chooser first beginning (with_flags to g (failed_by r)) new
  runs_deaf r fails hears quiet rests title runs =
      runs_by r [] (hears ∙ sym (append-nil old.heard)) title (λ heard c. (
        subst (λ (h : List Reception). EachStop old new (LeavesRun standing.header chooser first beginning.now.gone h)) (sym (append-nil heard))
            (quiet (LeavesRun standing.header chooser first beginning.now.gone heard) (allows_here chooser first beginning.now.gone heard standing old.now.gone [] c old refl rests)),
        none r _ fails,
      )) runs
    where
      none : {T E : Type 0} (r : Result T E) (P : Type 0) → failed_by r ≡ true → OnOk r P
      none (Ok x) P fails = absurd (cc)
      none (Err e) P fails = tt

-- the supplier's first poll
pub runs_beginning : {E : Type 0} (r : Result (Unit {0}) E) (went : Bool) (chooser : Chooser) (first : List Entry) (beginning : Told) (standing : Standing) (old new : Told) → IsHeader standing.header
    → Rests standing.header standing.desk.entries old → new.heard ≡ old.heard → Says (spelling Enq ++ []) went old new → OnOk r (went ≡ true)
    → Runs chooser first beginning (with_flags standing true false) old → Runs chooser first beginning (with_flags standing false (failed_by r)) new
runs_beginning r went chooser first beginning standing old new titled rests hears says ok runs =
    runs_by chooser first beginning standing standing true false old new r [] (hears ∙ sym (append-nil old.heard)) refl (λ heard c. (
      subst (λ (h : List Reception). EachStop old new (LeavesRun standing.header chooser first beginning.now.gone h)) (sym (append-nil heard))
          (stops_said chooser first beginning.now.gone heard standing old.now.gone [] c (Some Enq) ((tt, tt), tt) old new refl rests says.stops),
      on_ok r (λ (w : went ≡ true).
          let there = comes_begins chooser first beginning.now.gone heard standing titled old.now.gone [] c in
          subst (λ (h : List Reception). ComesTo chooser first beginning.now.gone h [] standing new.now.gone) (sym (append-nil heard))
          (subst (λ (l : List ℕ). ComesTo chooser first beginning.now.gone heard [] standing l) (sym (says.ok w).0)
          (comes_flagged chooser first beginning.now.gone heard [] (begins standing).standing (old.now.gone ++ bytes_of (begins standing)) standing.first standing.failed there))) ok,
    )) runs

-- ---- the step

pub listening_step : (tells : Type 0) (chooser : Chooser) (standing to : Standing) (reception : Reception) (old mid new : Told) → standing.failed ≡ false → standing.first ≡ false → IsSomething (Some reception)
    → (tells → mid.heard ≡ old.heard ++ reception ∷ []) → (tells → mid.now.gone ≡ old.now.gone) → (tells → mid.syncs ≡ old.syncs) → (tells → new.heard ≡ mid.heard)
    → StepsTo tells (HearsUnless (has_ended standing.line) chooser standing reception) to mid new → Polled tells chooser standing to old new
listening_step tells chooser standing to reception old mid new fine begun something hears still syncs same steps = record {
  heard = Some reception;
  something = something;
  done = steps.done;
  next = record { fine = fine; polls = subst (λ (b : Bool). PollsAt b chooser standing (Some reception) steps.done) (sym begun) steps.step };
  comes = steps.comes;
  told = λ t. record {
    listened = same t ∙ hears t;
    gone = (steps.told t).gone ∙ ap (λ (l : List ℕ). l ++ bytes_of steps.done) (still t);
    syncs = omega (arith, (steps.told t).syncs, syncs t);
  };
}

pub beginning_step : (tells : Type 0) (chooser : Chooser) (standing : Standing) (old new : Told) → (tells → new.heard ≡ old.heard) → (tells → Says (spelling Enq ++ []) true old new)
    → Polled tells chooser (with_flags standing true false) (with_flags standing false false) old new
beginning_step tells chooser standing old new hears says = record {
  heard = None;
  something = tt;
  done = begins (with_flags standing true false);
  next = record { fine = refl; polls = refl };
  comes = refl;
  told = λ t. record {
    listened = hears t ∙ sym (append-nil old.heard);
    gone = ((says t).ok refl).0;
    syncs = omega (arith, (says t).syncs);
  };
}

-- a piece that a listen answers has some byte
pub something_heard : (into : List ℕ) (heard : Answered) → IsPiece heard → length into ≡ 64 → IsSomething (Some (heard_in into heard))
something_heard into (Bytes n) (some, most) size = omega (arith, some, most, size, length-take n into)
something_heard into Quiet is size = tt
something_heard into Unplugged is size = tt
