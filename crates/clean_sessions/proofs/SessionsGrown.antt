-- The new lists of both ends behind own turns: what was added is chosen, and each one's taken sets are among the other's signed ones.
use Rattle.std.proofs.Common.{ℕ, true, false, List, [], ◌∷◌, ap, subst, ◌∙◌}
use Rattle.dsd_values.specs.declared.role.Role.{Role}
use Rattle.delivery_book.specs.Deeds.{other_role}
use Rattle.delivery_book.proofs.Agreeing.{twice_other}
use Rattle.own_turn.specs.DueSets.{DueSet}
use Rattle.own_turn.specs.OwnTurn.{Desk, gathered}
use Rattle.own_turn.specs.TurnsGrow.{IsGrown}
use Rattle.own_turn.proofs.TurnsGrowing.{grown_not, grown_on, turn_grows}
use Rattle.clean_sessions.specs.DeliveryStands.{AreBacked}
use Rattle.clean_sessions.specs.SeatTurns.{AreOwnTurns, MeetForTurns, Seat, at_desk}
use Rattle.clean_sessions.specs.SinceLast.{desk_behind}
use Rattle.clean_sessions.proofs.DueStands.{backed_turned}
use Rattle.clean_sessions.proofs.SeatsMeet.{meet_next}

abbrev pub IsGrownAt : Seat → Desk → Type 0
IsGrownAt seat desk = IsGrown seat.header.role seat.chooser (λ _. Unit {0}) seat.desk.entries desk.entries

pub both_grown : (turns : List (List DueSet)) (near far : Seat) (text : List ℕ) (t : AreOwnTurns turns near far text) → IsGrownAt near (desk_behind true turns near far text t) × IsGrownAt far (desk_behind false turns near far text t)
both_grown [] near far text t = (grown_not near.header.role near.chooser (λ _. Unit {0}) near.desk.entries, grown_not far.header.role far.chooser (λ _. Unit {0}) far.desk.entries)
both_grown (first ∷ more) near far text (desk, load, turned, is, rest) =
    let later = both_grown more far (at_desk near desk) load rest in (
      grown_on near.header.role near.chooser (λ _. Unit {0}) near.desk.entries desk.entries (desk_behind false more far (at_desk near desk) load rest).entries
          (turn_grows (λ _. Unit {0}) near.header near.chooser near.desk desk text load (λ _ _. tt) turned) later.1,
      later.0,
    )

pub both_backed : (turns : List (List DueSet)) (near far : Seat) (sets : List DueSet) (text : List ℕ) → MeetForTurns near far sets text → (t : AreOwnTurns turns near far text)
    → AreBacked near.header.role (desk_behind true turns near far text t).entries (desk_behind false turns near far text t).entries
both_backed [] near far sets text m t = m.between.lists
both_backed (first ∷ more) near far sets text m (desk, load, turned, is, rest) =
    let later = both_backed more far (at_desk near desk) (gathered near.header turned.proposed) load (meet_next near far sets text m desk load turned) rest in
    subst (λ (r : Role). AreBacked r (desk_behind false more far (at_desk near desk) load rest).entries (desk_behind true more far (at_desk near desk) load rest).entries)
    (ap other_role m.roles ∙ twice_other near.header.role)
    (backed_turned far.header.role (desk_behind true more far (at_desk near desk) load rest).entries (desk_behind false more far (at_desk near desk) load rest).entries later)
