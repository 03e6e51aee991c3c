-- An opening of an end, by what its calls tell.
use Rattle.std.proofs.Common.{◌≡◌, ◌⊎◌, inl, inr, ℕ, ◌<◌, ◌^◌, Bool, false, List, [], ◌∷◌, ◌++◌, length, refl, sym, ◌∙◌, ap, subst, append_assoc, Option, Some, None, Result, Ok, Err}
use Rattle.std.specs.Prelude.{IfOk}
use Rattle.dsd_values.specs.declared.role.Role.{Role}
use Rattle.dsd_record.specs.Choices.{Chooser}
use Rattle.dsd_station.specs.declared.call.Call.{Call}
use Rattle.dsd_station.specs.declared.call.Call.TheVariants.{Attach, Size, Read, Write, Sync, Listen, Speak, Restart}
use Rattle.dsd_station.specs.declared.call.Outcome.{Outcome}
use Rattle.dsd_station.specs.declared.call.Outcome.TheVariants.{Done, Failing, Stopped}
use Rattle.dsd_station.specs.ByPlan.{EachAnswered}
use Rattle.dsd_station.specs.Causes.{Rose}
use Rattle.dsd_station.specs.Logged.{IsPlayed, Log, told_by}
use Rattle.dsd_station.specs.Plans.{after_restart}
use Rattle.dsd_station.specs.Replayed.{State, restarted, state_of, step}
use Rattle.dsd_station.specs.Rows.{IsRow}
use Rattle.dsd_journal.specs.Devices.{AreReads, since}
use Rattle.dsd_journal.specs.Journals.{Rests}
use Rattle.dsd_journal.specs.declared.entry.Entry.{Entry}
use Rattle.dsd_journal.specs.declared.opening.OpenFault.{OpenFault}
use Rattle.dsd_journal.specs.declared.opening.OpenFault.TheVariants.{Memory, Station}
use Rattle.delivery_book.specs.BookImages.{IsBookRefused}
use Rattle.dsd_end.specs.Standings.{Standing}
use Rattle.cable_world.specs.Leaving.{AreUnwriting}
use Rattle.cable_world.specs.Living.{AreCallsOf}
use Rattle.cable_world.specs.Players.{HasOpened, IsOpenedBy, PlayerView}
use Rattle.cable_world.specs.Scenes.{all_played}
use Rattle.cable_world.specs.SeatOpens.{IsFirst, PlayerOpens}
use Rattle.cable_world.specs.SeatSteps.{Grows}
use Rattle.cable_world.specs.Steps.{Opening}
use Rattle.cable_world.proofs.ByStation.{part_answered}
use Rattle.cable_world.proofs.Failing.{counts_so, tells_opening}
use Rattle.cable_world.proofs.Partly.{log_grown, rests_bare, runs_bare}
use Rattle.cable_world.proofs.PlayerPolled.{if_ok}

-- a sync, or none
abbrev IsSyncAtMost : List Call → Type 0
IsSyncAtMost first = (first ≡ []) ⊎ ((outcome : Outcome) × (first ≡ Sync outcome ∷ []))

row_syncs : (went : Bool) (first : List Call) → IsRow ((λ (outcome : Outcome). Sync outcome) ∷ []) went first → IsSyncAtMost first
row_syncs went first (inl (rest, inl kept, ends)) = inr (Done, kept ∙ ap (λ (l : List Call). Sync Done ∷ l) ends.1)
row_syncs went first (inl (rest, inr kept, ends)) = inl (kept ∙ ends.1)
row_syncs went first (inr (outcome, not, failing, inl kept)) = inr (outcome, kept)
row_syncs went first (inr (outcome, not, failing, inr kept)) = inl kept

reads_open : (calls : List Call) → AreReads calls → AreCallsOf Opening calls
reads_open [] are = tt
reads_open (Attach journal port answer ∷ calls) are = absurd are
reads_open (Size answer ∷ calls) are = absurd are
reads_open (Read at room answer ∷ calls) are = (tt, reads_open calls are)
reads_open (Write at bytes outcome ∷ calls) are = absurd are
reads_open (Sync outcome ∷ calls) are = absurd are
reads_open (Listen answer ∷ calls) are = absurd are
reads_open (Speak bytes outcome ∷ calls) are = absurd are
reads_open (Restart ∷ calls) are = absurd are

calls_open : (first reads : List Call) → IsSyncAtMost first → AreReads reads → AreCallsOf Opening (first ++ reads)
calls_open first reads (inl none) are = subst (λ (l : List Call). AreCallsOf Opening (l ++ reads)) (sym none) (reads_open reads are)
calls_open first reads (inr (outcome, one)) are = subst (λ (l : List Call). AreCallsOf Opening (l ++ reads)) (sym one) (tt, reads_open reads are)

reads_unwriting : (s : State) (calls : List Call) → AreReads calls → AreUnwriting s calls
reads_unwriting s [] are = tt
reads_unwriting s (Attach journal port answer ∷ calls) are = absurd are
reads_unwriting s (Size answer ∷ calls) are = absurd are
reads_unwriting s (Read at room answer ∷ calls) are = (tt, tt, reads_unwriting (step s (Read at room answer)) calls are)
reads_unwriting s (Write at bytes outcome ∷ calls) are = absurd are
reads_unwriting s (Sync outcome ∷ calls) are = absurd are
reads_unwriting s (Listen answer ∷ calls) are = absurd are
reads_unwriting s (Speak bytes outcome ∷ calls) are = absurd are
reads_unwriting s (Restart ∷ calls) are = absurd are

sync_unwriting : (s : State) (outcome : Outcome) (reads : List Call) → s.left ≡ None → AreReads reads → AreUnwriting s (Sync outcome ∷ reads)
sync_unwriting s Done reads none are = (none, tt, reads_unwriting (step s (Sync Done)) reads are)
sync_unwriting s Failing reads none are = (tt, tt, reads_unwriting (step s (Sync Failing)) reads are)
sync_unwriting s (Stopped pick) reads none are = (tt, tt, reads_unwriting (step s (Sync (Stopped pick))) reads are)

opens_unwriting : (s : State) (first reads : List Call) → s.left ≡ None → IsSyncAtMost first → AreReads reads → AreUnwriting s (first ++ reads)
opens_unwriting s first reads none (inl nothing) are = subst (λ (l : List Call). AreUnwriting s (l ++ reads)) (sym nothing) (reads_unwriting s reads are)
opens_unwriting s first reads none (inr (outcome, one)) are = subst (λ (l : List Call). AreUnwriting s (l ++ reads)) (sym one) (sync_unwriting s outcome reads none are)

restart_left : (s : State) → (step s Restart).left ≡ None
restart_left s = go s.left refl
  where
    go : (left : Option (List ℕ)) → s.left ≡ left → (restarted s left).left ≡ None
    go None is = is
    go (Some image) is = refl

first_so : (role : Role) (chooser : Chooser) (player : PlayerView) (mid after : Log) → IsOpenedBy role chooser player (told_by mid) (told_by after) → IsFirst role chooser player mid.calls after.calls
first_so role chooser player mid after o = record {
  chooser_is = o.chooser_is;
  role_is = o.role_is;
  pollable = record {
    fine = ap (λ (s : Standing). s.failed) o.standing;
    titled = ap (λ (s : Standing). s.header) o.standing;
    rests = rests_bare player.book.header player.book.known after (subst (λ (l : List Entry). Rests player.book.header l (told_by after)) (sym o.known) o.rests);
  };
  holds = o.rests.holds;
  legal = o.legal;
  standing = o.standing;
  beginning = since (told_by mid);
  heard = refl;
  gone = refl;
  runs = runs_bare chooser player.book.entries (since (told_by mid)) player.standing after o.runs;
}

pub player_opened : (role : Role) (chooser : Chooser) (result : Result PlayerView OpenFault) (before mid after : Log) → mid ≡ after_restart before → HasOpened role chooser result (told_by mid) (told_by after)
    → IsPlayed mid → IsPlayed after → before.starved ≡ false → after.starved ≡ false → length after.calls < 2 ^ 63 → (result ≡ Err Station → Rose mid.faults after.faults) → (result ≡ Err Memory → ⊥)
    → PlayerOpens role chooser result before after
player_opened role chooser result before mid after is o was now not none short cause wanted =
    let first : List Call = o.opens.calls.first in
    let reads : List Call = o.opens.calls.reads in
    let syncs : IsSyncAtMost first = row_syncs o.opens.calls.went first o.opens.calls.sync in
    let unstarved : mid.starved ≡ false = ap (λ (l : Log). l.starved) is ∙ not in
    record {
      part = first ++ reads;
      log = subst (λ (l : Log). after ≡ all_played l (first ++ reads)) is (log_grown mid after (first ++ reads) was now unstarved none o.opens.keeps.plan o.opens.calls.calls);
      answers = subst (λ (l : Log). EachAnswered l.plan l.calls (first ++ reads)) is (part_answered mid after (first ++ reads) now o.opens.keeps.plan was.since o.opens.calls.calls);
      calls = calls_open first reads syncs o.opens.calls.each;
      unwriting = (tt, tt, opens_unwriting (step (state_of before.calls) Restart) first reads (restart_left (state_of before.calls)) syncs o.opens.calls.each);
      tells = tells_opening role result mid after (first ++ reads) (counts_so mid after (first ++ reads) was now unstarved none short o.opens.calls.calls) o.opens.calls.calls o.unfailed cause wanted (state_of after.calls).journal
          (λ place refused. subst (λ (image : List ℕ). IsBookRefused role image place) (sym o.opens.journal) (o.refused place refused));
      ok = if_ok result (λ player. IsFirst role chooser player (after_restart before).calls after.calls)
          (λ player ok. subst (λ (l : Log). IsFirst role chooser player l.calls after.calls) is (first_so role chooser player mid after (opened_by role chooser result player mid after ok o.ok)));
    }
  where
    opened_by : (role : Role) (chooser : Chooser) (result : Result PlayerView OpenFault) (player : PlayerView) (mid after : Log) → result ≡ Ok player
        → IfOk result (λ player. IsOpenedBy role chooser player (told_by mid) (told_by after)) → IsOpenedBy role chooser player (told_by mid) (told_by after)
    opened_by role chooser result player mid after ok of = subst (λ (r : Result PlayerView OpenFault). IfOk r (λ player. IsOpenedBy role chooser player (told_by mid) (told_by after))) ok of

pub unstarved_before : (before mid : Log) → mid ≡ after_restart before → mid.starved ≡ false → before.starved ≡ false
unstarved_before before mid is none = ap (λ (l : Log). l.starved) (sym is) ∙ none

pub grows_behind : (before mid after : Log) → mid ≡ after_restart before → Grows mid after → Grows before after
grows_behind before mid after is g = record {
  more = Restart ∷ g.more;
  calls = g.calls ∙ ap (λ (l : Log). l.calls ++ g.more) is ∙ append_assoc before.calls (Restart ∷ []) g.more;
}
