-- How an end comes on by a poll and by an opening at its seat.
use Rattle.std.proofs.Common.{◌≡◌, ℕ, Bool, true, false, ◌&&◌, List, [], ◌∷◌, ◌++◌, refl, sym, ◌∙◌, ap, subst, append_assoc, if◌then◌else◌, Option, Some, None, Result, Ok, Err}
use Rattle.std.specs.Prelude.{IfOk}
use Rattle.std.specs.Option.{option_map}
use Rattle.std.proofs.lemmas.List.{append_cancel_left}
use Rattle.dsd_values.specs.declared.role.Role.{Role}
use Rattle.dsd_values.specs.declared.role.Role.TheVariants.{Receiver, Supplier}
use Rattle.dsd_record.specs.Choices.{Chooser}
use Rattle.dsd_station.specs.declared.call.Call.{Call}
use Rattle.dsd_station.specs.declared.call.Call.TheVariants.{Attach, Size, Read, Write, Sync, Listen, Speak, Restart}
use Rattle.dsd_station.specs.declared.call.Reception.{Reception}
use Rattle.dsd_station.specs.Failures.{failed_in}
use Rattle.dsd_station.specs.Heard.{answers_in, said_in}
use Rattle.dsd_station.specs.Logged.{Log, image_by}
use Rattle.dsd_station.specs.Plans.{after_restart}
use Rattle.dsd_station.specs.Replayed.{IsFine, State, replay, state_of}
use Rattle.dsd_journal.specs.JournalImage.{Holds}
use Rattle.dsd_journal.specs.declared.entry.Entry.{Entry}
use Rattle.dsd_journal.specs.declared.header.Header.{Header}
use Rattle.dsd_journal.specs.declared.opening.OpenFault.{OpenFault}
use Rattle.dsd_journal.specs.declared.opening.OpenFault.TheVariants as opens
use Rattle.delivery_book.specs.Signing.{Legal}
use Rattle.delivery_book.proofs.Refusing.{never_both}
use Rattle.dsd_end.specs.Lives.{IsRun}
use Rattle.dsd_end.specs.RunSoFar.{LeavesRun, Runs}
use Rattle.dsd_end.specs.Standings.{Standing, first_standing}
use Rattle.cable_world.specs.Diligence.{Follows, PollsFrom, PollsTo}
use Rattle.cable_world.specs.Faulting.{HasFailed, TellsOpening}
use Rattle.cable_world.specs.Leaving.{AreUnwriting, LeavesRuns, recorded, run_to}
use Rattle.cable_world.specs.Living.{AreCallsOf, begins_run, is_opening}
use Rattle.cable_world.specs.Noted.{Noted, kind_of, runs_by, step_of}
use Rattle.cable_world.specs.Players.{PlayerView}
use Rattle.cable_world.specs.Progressing.{ComesBehind, ComesIf, ComesOn, ComesTo, IsPlaying, LeavesSo, OneEnd, OneList, OpenRun, Progress, RunsBy, RunsFurther, StandsSo, begun_by, longer, progress_at}
use Rattle.cable_world.specs.SeatOpens.{IsFirst, SeatStarts, opening_answer, player_in}
use Rattle.cable_world.specs.SeatSteps.{SeatPolls, told_of}
use Rattle.cable_world.specs.Seats.{SeatView}
use Rattle.cable_world.specs.Steps.{Opening, Poll, StepKind, same_role}
use Rattle.cable_world.specs.declared.answer.Answer.{Answer}
use Rattle.cable_world.specs.declared.answer.Answer.TheVariants.{Broken, Ended, NotOpened, Opened, Running}
use Rattle.cable_world.proofs.Held.{held_at_rest}
use Rattle.cable_world.proofs.JoinedRuns.{MayLeaveAt, failed_so, read_before, replay_more, still, still_fine}
use Rattle.cable_world.proofs.Partly.{gone_grown, heard_grown}
use Rattle.cable_world.proofs.Taking.{all_played_calls}

-- of an end that plays, each image that may be left now holds a list with which its run so far is one
pub leaves_so : (its : OneEnd) (standing : Option Standing) (run : Option OpenRun) (calls : List Call) (player : PlayerView) → its.header.role ≡ its.role → IsPlaying its standing run calls player → LeavesSo its run (state_of calls)
leaves_so its standing run calls player role p = subst (λ (r : Option OpenRun). LeavesSo its r (state_of calls)) (sym p.run_is) (λ image may.
    let runs = p.runs in
    let l : LeavesRun player.standing.header its.chooser p.open_run.first p.beginning.now.gone runs.heard image (state_of calls).now.gone = runs.stops.now image (state_of calls).now.gone (record { image_of = may; gone_of = refl }) in
    let heard : runs.heard ≡ p.open_run.heard = append_cancel_left p.beginning.heard runs.heard p.open_run.heard (sym runs.since ∙ p.heard) in
    let gone : l.gone ≡ p.open_run.gone = append_cancel_left p.beginning.now.gone l.gone p.open_run.gone (sym l.split ∙ p.gone) in (
      l.last,
      subst (λ (h : Header). Holds h l.last image) p.header l.holds,
      subst (λ (x : Role). IsRun x (run_to p.open_run.first p.open_run.heard p.open_run.gone l.last)) (ap (λ (h : Header). h.role) p.header ∙ role)
          (subst (λ (x : List Reception). IsRun player.standing.header.role (run_to p.open_run.first x p.open_run.gone l.last)) heard
          (subst (λ (x : List ℕ). IsRun player.standing.header.role (run_to p.open_run.first runs.heard x l.last)) gone l.run.is)),
    ))

-- ---- a poll

recorded_poll : (one : Noted) → kind_of one.answer ≡ Poll → recorded (step_of one) ≡ one.part
recorded_poll one is = subst (λ (k : StepKind). (if is_opening k then Restart ∷ one.part else one.part) ≡ one.part) (sym is) refl

runs_poll : (its : OneEnd) (one : Noted) (old new : Progress) → kind_of one.answer ≡ Poll → RunsFurther its old one new → RunsBy (begins_run (step_of one)) (is_opening (kind_of one.answer)) its old one new
runs_poll its one old new is further = subst (λ (k : StepKind). RunsBy (is_opening k && runs_by one.answer) (is_opening k) its old one new) (sym is) further

follows_poll : (answer : Answer) (chooser : Chooser) (header : Header) (journal : List ℕ) (part : List Call) (before after : Option Standing) → kind_of answer ≡ Poll → PollsFrom answer chooser part before after
    → Follows chooser header journal answer part before after
follows_poll Opened chooser header journal part before after is polls = absurd (cc)
follows_poll (NotOpened fault) chooser header journal part before after is polls = absurd (cc)
follows_poll Running chooser header journal part before after is polls = polls
follows_poll (Ended end) chooser header journal part before after is polls = polls
follows_poll (Broken fault) chooser header journal part before after is polls = polls

none_is : (player : PlayerView) → None ≡ Some player → ⊥
none_is player e = cc

same_player : (a b : PlayerView) → Some a ≡ Some b → a ≡ b
same_player a b e = cc

own_step : (its : OneEnd) (one : Noted) (old next : Progress) → one.role ≡ its.role → ComesBehind its old one next → ComesTo its old (one ∷ []) next
own_step its one old next role s = (next, subst (λ (b : Bool). ComesIf b its old one next) (sym (same its.role one.role role)) s, refl)
  where
    same : (role other : Role) → other ≡ role → same_role role other ≡ true
    same Supplier Supplier is = refl
    same Supplier Receiver is = absurd (cc)
    same Receiver Supplier is = absurd (cc)
    same Receiver Receiver is = refl

module _ (its : OneEnd) (of_role : its.header.role ≡ its.role) (answer : Answer) (old new : SeatView) (p : SeatPolls answer old new) where
  grown : new.log.calls ≡ old.log.calls ++ p.polls.part
  grown = ap (λ (l : Log). l.calls) p.polls.log ∙ all_played_calls old.log p.polls.part

  module _ (standing : Option Standing) (run : Option OpenRun) (so : StandsSo its standing run old) where
    abbrev plays : IsPlaying its standing run old.log.calls p.player
    plays = so.plays p.player p.was

    abbrev on : OpenRun
    on = longer p.polls.part plays.open_run

    abbrev one : Noted
    one = record { role = its.role; answer = answer; part = p.polls.part }

    goes_on : IsPlaying its (Some p.last.standing) (Some on) new.log.calls p.last
    goes_on = record {
      chooser = p.polls.chooser ∙ plays.chooser;
      header = p.polls.titled ∙ plays.header;
      stands = refl;
      open_run = on;
      run_is = refl;
      beginning = plays.beginning;
      heard = heard_grown old.log.calls new.log.calls p.polls.part grown ∙ ap (λ (l : List Reception). l ++ answers_in p.polls.part) plays.heard ∙ append_assoc plays.beginning.heard plays.open_run.heard (answers_in p.polls.part);
      gone = gone_grown old.log.calls new.log.calls p.polls.part grown ∙ ap (λ (l : List ℕ). l ++ said_in p.polls.part) plays.gone ∙ append_assoc plays.beginning.now.gone plays.open_run.gone (said_in p.polls.part);
      runs = subst (λ (c : Chooser). Runs c plays.open_run.first plays.beginning p.last.standing (told_of new.log.calls)) plays.chooser
          (p.polls.runs plays.open_run.first plays.beginning (subst (λ (c : Chooser). Runs c plays.open_run.first plays.beginning p.player.standing (told_of old.log.calls)) (sym plays.chooser) plays.runs));
    }

    leaves_on : LeavesSo its (Some on) (state_of new.log.calls)
    leaves_on = leaves_so its (Some p.last.standing) (Some on) new.log.calls p.last of_role goes_on

    comes : ComesTo its (progress_at old standing run) (one ∷ []) (progress_at new (Some p.last.standing) (Some on))
    comes = own_step its one (progress_at old standing run) (progress_at new (Some p.last.standing) (Some on)) refl (record {
      state = ap state_of grown ∙ replay_more (state_of []) old.log.calls p.polls.part ∙ ap (replay (state_of old.log.calls)) (sym (recorded_poll one p.polls.kind));
      follows = follows_poll answer its.chooser its.header (state_of new.log.calls).journal p.polls.part standing (Some p.last.standing) p.polls.kind
          (p.player.standing, p.last.standing, plays.stands, subst (λ (c : Chooser). PollsTo answer c p.player.standing p.polls.part p.last.standing) plays.chooser p.polls.polls, refl);
      runs = runs_poll its one (progress_at old standing run) (progress_at new (Some p.last.standing) (Some on)) p.polls.kind
          (record { run = plays.open_run; was = plays.run_is; fine = p.polls.fine; leaves = leaves_on; now = refl });
    })

    stands : StandsSo its (Some p.last.standing) (Some on) new
    stands = record {
      fine = p.polls.fine;
      refused = sym p.refused;
      leaves = leaves_on;
      holds = λ fine. subst (λ (h : Header). Holds h p.last.standing.desk.entries (image_by new.log)) goes_on.header (p.polls.holds fine);
      plays = λ player is. go (runs_by answer) player (sym p.now ∙ is);
    }
      where
        go : (runs : Bool) (player : PlayerView) → (if runs then Some p.last else None) ≡ Some player → IsPlaying its (Some p.last.standing) (Some on) new.log.calls player
        go true player is = subst (λ (x : PlayerView). IsPlaying its (Some p.last.standing) (Some on) new.log.calls x) (same_player p.last player is) goes_on
        go false player is = absurd (none_is player is)

  pub on_poll : ComesOn its old (record { role = its.role; answer = answer; part = p.polls.part } ∷ []) new
  on_poll = λ standing run so. (Some p.last.standing, Some (on standing run so), comes standing run so, stands standing run so)

-- ---- an opening

-- the journal that is read holds a list
held_so : (its : OneEnd) (run : Option OpenRun) (state : State) (image : List ℕ) → LeavesSo its run state → MayLeaveAt state image → (entries : List Entry) × Holds its.header entries image
held_so its None state image leaves may = ([], leaves image may)
held_so its (Some run) state image leaves may = let (entries, held, is) = leaves image may in (entries, held)

-- the image holds a book of this end
abbrev HoldsBook : OneEnd → List ℕ → Type 0
HoldsBook its image = (entries : List Entry) × Holds its.header entries image × (its.header.role ≡ its.role) × Legal its.role entries

book_held : (its : OneEnd) (run : Option OpenRun) (state : State) (image : List ℕ) → its.header.role ≡ its.role → LeavesSo its run state → MayLeaveAt state image → HoldsBook its image
book_held its None state image role leaves may = ([], leaves image may, role, tt)
book_held its (Some run) state image role leaves may = let (entries, held, is) = leaves image may in (entries, held, role, is.legal)

-- so an opening over it is refused behind a failed call alone
refused_so : (its : OneEnd) (fault : OpenFault) (part : List Call) (journal : List ℕ) → TellsOpening its.role (Err fault) part journal → HoldsBook its journal → (let none : Option Standing = None in none ≡ None) × (fault ≡ opens.Station) × HasFailed part
refused_so its opens.Station part journal tells book = (refl, refl, tells)
refused_so its (opens.NotAJournal place) part journal tells (entries, held, role, legal) = absurd (never_both its.role journal its.header entries place held role legal tells)
refused_so its opens.Memory part journal tells book = absurd tells

silent_opening : (calls : List Call) → AreCallsOf Opening calls → said_in calls ≡ []
silent_opening [] are = refl
silent_opening (Attach journal port answer ∷ calls) are = absurd are.0
silent_opening (Size answer ∷ calls) are = silent_opening calls are.1
silent_opening (Read at room answer ∷ calls) are = silent_opening calls are.1
silent_opening (Write at bytes outcome ∷ calls) are = absurd are.0
silent_opening (Sync outcome ∷ calls) are = silent_opening calls are.1
silent_opening (Listen answer ∷ calls) are = absurd are.0
silent_opening (Speak bytes outcome ∷ calls) are = absurd are.0
silent_opening (Restart ∷ calls) are = absurd are.0

module _ (one_list : OneList) (its : OneEnd) (of_role : its.header.role ≡ its.role) (old new : SeatView) (part : List Call) (grown : new.log.calls ≡ (old.log.calls ++ Restart ∷ []) ++ part)
    (unwriting : AreUnwriting (state_of old.log.calls) (Restart ∷ part)) (refused : new.refused ≡ 0) where
  state_is : state_of new.log.calls ≡ replay (state_of old.log.calls) (Restart ∷ part)
  state_is = ap state_of (grown ∙ append_assoc old.log.calls (Restart ∷ []) part) ∙ replay_more (state_of []) old.log.calls (Restart ∷ part)

  fine_behind : IsFine (state_of old.log.calls) → IsFine (state_of new.log.calls)
  fine_behind fine = subst IsFine (sym state_is) (still_fine (state_of old.log.calls) (Restart ∷ part) fine unwriting)

  module _ (player : PlayerView) (first : IsFirst its.role its.chooser player (after_restart old.log).calls new.log.calls) (fine : failed_in part ≡ 0) (now : new.player ≡ Some player) where
    abbrev opened : Noted
    opened = record { role = its.role; answer = Opened; part = part }

    abbrev begun : OpenRun
    begun = begun_by player.book.entries part

    header_of : (run : Option OpenRun) → IsFine (state_of old.log.calls) → LeavesSo its run (state_of old.log.calls) → player.book.header ≡ its.header
    header_of run fine leaves =
        let journal : List ℕ = (replay (state_of old.log.calls) (Restart ∷ part)).journal in
        let (entries, held) = held_so its run (state_of old.log.calls) journal leaves (read_before (state_of old.log.calls) (Restart ∷ part) fine unwriting) in
        (one_list journal player.book.header its.header player.book.entries entries (subst (λ (x : State). Holds player.book.header player.book.entries x.journal) state_is first.holds) held).0

    plays_first : player.book.header ≡ its.header → IsPlaying its (Some player.standing) (Some begun) new.log.calls player
    plays_first header = record {
      chooser = first.chooser_is;
      header = ap (λ (s : Standing). s.header) first.standing ∙ header;
      stands = refl;
      open_run = begun;
      run_is = refl;
      beginning = first.beginning;
      heard = heard_grown (old.log.calls ++ Restart ∷ []) new.log.calls part grown ∙ ap (λ (l : List Reception). l ++ answers_in part) (sym first.heard);
      gone = gone_grown (old.log.calls ++ Restart ∷ []) new.log.calls part grown ∙ ap (λ (l : List ℕ). l ++ said_in part) (sym first.gone);
      runs = first.runs;
    }

    holds_first : player.book.header ≡ its.header → IsFine (state_of new.log.calls) → Holds its.header player.standing.desk.entries (image_by new.log)
    holds_first header fine =
        let held : Holds player.book.header player.book.entries (image_by new.log) = held_at_rest player.book.header player.book.entries new.log.calls fine (record { holds = first.holds; synced = first.pollable.rests.synced }) in
        subst (λ (h : Header). Holds h player.standing.desk.entries (image_by new.log)) header
        (subst (λ (l : List Entry). Holds player.book.header l (image_by new.log)) (sym (ap (λ (s : Standing). s.desk.entries) first.standing)) held)

    on_opened : ComesOn its old (opened ∷ []) new
    on_opened = λ standing run so.
        let header : player.book.header ≡ its.header = header_of run so.fine so.leaves in
        let plays : IsPlaying its (Some player.standing) (Some begun) new.log.calls player = plays_first header in
        let leaves : LeavesSo its (Some begun) (state_of new.log.calls) = leaves_so its (Some player.standing) (Some begun) new.log.calls player of_role plays in
        let holds : Holds its.header player.book.entries (state_of new.log.calls).journal = subst (λ (h : Header). Holds h player.book.entries (state_of new.log.calls).journal) header first.holds in (
          Some player.standing,
          Some begun,
          own_step its opened (progress_at old standing run) (progress_at new (Some player.standing) (Some begun)) refl (record {
            state = state_is;
            follows = (player.book.entries, holds, ap (λ (s : Standing). Some s) (first.standing ∙ ap (λ (h : Header). first_standing h player.book.entries) header), fine);
            runs = record {
              first = player.book.entries;
              begins = (unwriting, subst (λ (x : State). Holds its.header player.book.entries x.journal) state_is holds, subst (λ (x : State). LeavesRuns its.role its.header player.book.entries begun.heard begun.gone x) state_is leaves);
              run = refl;
            };
          }),
          record {
            fine = fine_behind so.fine;
            refused = ap (λ (s : Standing). s.desk.refused) first.standing ∙ sym refused;
            leaves = leaves;
            holds = λ fine. holds_first header (fine_behind so.fine);
            plays = λ other is. subst (λ (x : PlayerView). IsPlaying its (Some player.standing) (Some begun) new.log.calls x) (same_player player other (sym now ∙ is)) plays;
          },
        )

  module _ (fault : OpenFault) (calls : AreCallsOf Opening part) (tells : TellsOpening its.role (Err fault) part (state_of new.log.calls).journal) (now : new.player ≡ None) where
    abbrev refusal : Noted
    refusal = record { role = its.role; answer = NotOpened fault; part = part }

    leaves_still : (run : Option OpenRun) → IsFine (state_of old.log.calls) → LeavesSo its run (state_of old.log.calls) → LeavesSo its (option_map (longer part) run) (state_of new.log.calls)
    leaves_still None fine leaves = λ image may. leaves image (still (state_of old.log.calls) (Restart ∷ part) image fine unwriting (subst (λ (x : State). MayLeaveAt x image) state_is may))
    leaves_still (Some run) fine leaves =
        subst (λ (x : State). LeavesRuns its.role its.header run.first (run.heard ++ answers_in part) (run.gone ++ said_in part) x) (sym state_is)
        (failed_so one_list its.role its.header run.first run.heard run.gone (state_of old.log.calls) (step_of refusal) fine leaves unwriting (silent_opening part calls))

    -- what the journal holds is a book of this end
    legal_held : (standing : Option Standing) (run : Option OpenRun) → StandsSo its standing run old → HoldsBook its (state_of new.log.calls).journal
    legal_held standing run so =
        subst (λ (x : State). HoldsBook its x.journal) (sym state_is)
        (book_held its run (state_of old.log.calls) _ of_role so.leaves (read_before (state_of old.log.calls) (Restart ∷ part) so.fine unwriting))

    on_failed : ComesOn its old (refusal ∷ []) new
    on_failed = λ standing run so. (
      None,
      option_map (longer part) run,
      own_step its refusal (progress_at old standing run) (progress_at new None (option_map (longer part) run)) refl
          (record { state = state_is; follows = refused_so its fault part (state_of new.log.calls).journal tells (legal_held standing run so); runs = record { unwriting = unwriting; silent = silent_opening part calls; run = refl } }),
      record { fine = fine_behind so.fine; refused = sym refused; leaves = leaves_still run so.fine so.leaves; holds = tt; plays = λ player is. absurd (none_is player (sym now ∙ is)) },
    )

pub on_opening : (one_list : OneList) (its : OneEnd) (role : Role) (chooser : Chooser) → its.header.role ≡ its.role → its.role ≡ role → its.chooser ≡ chooser → (answer : Answer) (old new : SeatView) (s : SeatStarts role chooser answer old new)
    → ComesOn its old (record { role = its.role; answer = answer; part = s.opens.part } ∷ []) new
on_opening one_list its role chooser of_role role_is chooser_is answer old new s =
    subst (λ (a : Answer). ComesOn its old (record { role = its.role; answer = a; part = s.opens.part } ∷ []) new) (sym s.answer_is)
    (go s.opened s.now s.opens.ok (subst (λ (x : Role). TellsOpening x s.opened s.opens.part (state_of new.log.calls).journal) (sym role_is) s.opens.tells))
  where
    grown : new.log.calls ≡ (old.log.calls ++ Restart ∷ []) ++ s.opens.part
    grown = ap (λ (l : Log). l.calls) s.opens.log ∙ all_played_calls (after_restart old.log) s.opens.part

    go : (opened : Result PlayerView OpenFault) → new.player ≡ player_in opened → IfOk opened (λ (player : PlayerView). IsFirst role chooser player (after_restart old.log).calls new.log.calls)
        → TellsOpening its.role opened s.opens.part (state_of new.log.calls).journal → ComesOn its old (record { role = its.role; answer = opening_answer opened; part = s.opens.part } ∷ []) new
    go (Ok player) now first tells =
        on_opened one_list its of_role old new s.opens.part grown s.opens.unwriting s.refused player
        (subst (λ (x : Role). IsFirst x its.chooser player (after_restart old.log).calls new.log.calls) (sym role_is)
        (subst (λ (x : Chooser). IsFirst role x player (after_restart old.log).calls new.log.calls) (sym chooser_is) first)) tells now
    go (Err fault) now first tells = on_failed one_list its of_role old new s.opens.part grown s.opens.unwriting s.refused fault s.opens.calls tells now
