-- Polls and openings at a seat.
use Rattle.std.proofs.Common.{◌≡◌, ℕ, Bool, true, false, List, refl, sym, ◌∙◌, ap, subst, if◌then◌else◌, Option, Some, None, Result, Ok, Err}
use Rattle.std.specs.Prelude.{IfOk}
use Rattle.dsd_values.specs.declared.role.Role.{Role}
use Rattle.dsd_record.specs.Choices.{Chooser}
use Rattle.dsd_station.specs.Logged.{Log}
use Rattle.dsd_station.specs.Plans.{after_restart}
use Rattle.dsd_journal.specs.declared.opening.OpenFault.{OpenFault}
use Rattle.cable_world.specs.Noted.{runs_by}
use Rattle.cable_world.specs.Players.{PlayerView}
use Rattle.cable_world.specs.SeatOpens.{IsFirst, PlayerOpens, SeatStarts, opening_answer, player_in}
use Rattle.cable_world.specs.SeatSteps.{IsPollable, IsReady, PlayerPolls, SeatPolls}
use Rattle.cable_world.specs.Seats.{SeatView, settled, with_player}
use Rattle.cable_world.specs.declared.answer.Answer.{Answer}

some_is : (a b : PlayerView) → Some a ≡ Some b → a ≡ b
some_is a b e = cc

-- behind an opening
pub seat_started : (role : Role) (chooser : Chooser) (opened : Result PlayerView OpenFault) (answer : Answer) (before after : Log) (player : Option PlayerView) (spoken : List (List ℕ)) (refused : ℕ) (new : SeatView)
    → PlayerOpens role chooser opened before after → answer ≡ opening_answer opened
    → new ≡ with_player (record { log = after; player = player; spoken = spoken; refused = refused }) (player_in opened)
    → SeatStarts role chooser answer (record { log = before; player = player; spoken = spoken; refused = refused }) new
seat_started role chooser opened answer before after player spoken refused new opens is seat = record {
  opened = opened;
  opens = subst (λ (s : SeatView). PlayerOpens role chooser opened before s.log) (sym seat) opens;
  answer_is = is;
  now = ap (λ (s : SeatView). s.player) seat;
  spoken = ap (λ (s : SeatView). s.spoken) seat;
  refused = ap (λ (s : SeatView). s.refused) seat;
}

pub started_ready : (role : Role) (chooser : Chooser) (answer : Answer) (old new : SeatView) → SeatStarts role chooser answer old new → new.log.starved ≡ false → IsReady new
started_ready role chooser answer old new s none = record { unstarved = none; pollable = λ player is. go s.opened player (sym s.now ∙ is) s.opens.ok }
  where
    go : (opened : Result PlayerView OpenFault) (player : PlayerView) → player_in opened ≡ Some player → IfOk opened (λ p. IsFirst role chooser p (after_restart old.log).calls new.log.calls) → IsPollable player new.log.calls
    go (Ok one) player is first = subst (λ (p : PlayerView). IsPollable p new.log.calls) (some_is one player is) first.pollable
    go (Err fault) player is first = absurd (cc)

-- behind a poll, by whether the end still runs
pub seat_polled : (answer : Answer) (player last : PlayerView) (before after : Log) (spoken : List (List ℕ)) (refused count : ℕ) → PlayerPolls answer player last before after
    → count ≡ last.standing.desk.refused
    → (new : SeatView) → new ≡ settled (runs_by answer) (record { log = after; player = Some last; spoken = spoken; refused = count })
    → SeatPolls answer (record { log = before; player = Some player; spoken = spoken; refused = refused }) new
seat_polled answer player last before after spoken refused count polls is new so =
    let at : SeatView = record { log = after; player = Some last; spoken = spoken; refused = count } in
    record {
      player = player;
      last = last;
      was = refl;
      polls = subst (λ (l : Log). PlayerPolls answer player last before l) (sym (ap (λ (s : SeatView). s.log) so ∙ settled_log (runs_by answer) at)) polls;
      now = ap (λ (s : SeatView). s.player) so ∙ settled_player (runs_by answer) at;
      spoken = ap (λ (s : SeatView). s.spoken) so ∙ settled_spoken (runs_by answer) at;
      refused = ap (λ (s : SeatView). s.refused) so ∙ settled_refused (runs_by answer) at ∙ is;
    }
  where
    settled_log : (b : Bool) (s : SeatView) → (settled b s).log ≡ s.log
    settled_log true s = refl
    settled_log false s = refl

    settled_player : (b : Bool) (s : SeatView) → (settled b s).player ≡ (if b then s.player else None)
    settled_player true s = refl
    settled_player false s = refl

    settled_spoken : (b : Bool) (s : SeatView) → (settled b s).spoken ≡ s.spoken
    settled_spoken true s = refl
    settled_spoken false s = refl

    settled_refused : (b : Bool) (s : SeatView) → (settled b s).refused ≡ s.refused
    settled_refused true s = refl
    settled_refused false s = refl

pub polled_ready : (answer : Answer) (old new : SeatView) → SeatPolls answer old new → new.log.starved ≡ false → IsReady new
polled_ready answer old new s none = record { unstarved = none; pollable = λ player is. go (runs_by answer) player refl (sym s.now ∙ is) }
  where
    go : (runs : Bool) (player : PlayerView) → runs_by answer ≡ runs → (if runs then Some s.last else None) ≡ Some player → IsPollable player new.log.calls
    go true player r is = subst (λ (p : PlayerView). IsPollable p new.log.calls) (some_is s.last player is) (s.polls.pollable r)
    go false player r is = absurd (cc)

pub settled_starved : (b : Bool) (s : SeatView) → (settled b s).log.starved ≡ s.log.starved
settled_starved true s = refl
settled_starved false s = refl
