-- Behind own turns of both ends each has answered and proposed what it chose.
use Rattle.std.proofs.Common.{ℕ, true, false, List, [], ◌∷◌}
use Rattle.own_turn.specs.DueSets.{DueSet}
use Rattle.own_turn.specs.OwnTurn.{Desk, Turned, gathered}
use Rattle.clean_sessions.specs.CourseTurns.{EndSilent}
use Rattle.clean_sessions.specs.Declining.{HasAnswered}
use Rattle.clean_sessions.specs.SeatTurns.{AreOwnTurns, MeetForTurns, Seat, at_desk}
use Rattle.clean_sessions.specs.SinceLast.{desk_behind}
use Rattle.clean_sessions.proofs.DraftsHeld.{has_answered}
use Rattle.clean_sessions.proofs.OwnSets.{signs_sets}
use Rattle.clean_sessions.proofs.SeatsMeet.{meet_next}

abbrev At : Seat → Desk → Type 0
At seat desk = HasAnswered seat.header.role seat.chooser desk.entries

turn_answers : (near far : Seat) (sets : List DueSet) (text : List ℕ) → MeetForTurns near far sets text → (desk : Desk) (load : List ℕ) → Turned near.header near.chooser near.desk text desk load → At near desk
turn_answers near far sets text m desk load turned = has_answered near.header near.chooser (signs_sets near.header.role near.chooser m.near_drafts) near.desk far.desk desk sets text load m.between turned

-- what both have done stays so
carried : (turns : List (List DueSet)) (near far : Seat) (sets : List DueSet) (text : List ℕ) → MeetForTurns near far sets text → (t : AreOwnTurns turns near far text) → At near near.desk → At far far.desk
    → At near (desk_behind true turns near far text t) × At far (desk_behind false turns near far text t)
carried [] near far sets text m t here there = (here, there)
carried (first ∷ more) near far sets text m (desk, load, turned, is, rest) here there =
    let both = carried more far (at_desk near desk) (gathered near.header turned.proposed) load (meet_next near far sets text m desk load turned) rest there (turn_answers near far sets text m desk load turned) in
    (both.1, both.0)

pub both_answered : (turns : List (List DueSet)) (near far : Seat) (sets : List DueSet) (text : List ℕ) → MeetForTurns near far sets text → (t : AreOwnTurns turns near far text) → EndSilent turns near far text t
    → At near (desk_behind true turns near far text t) × At far (desk_behind false turns near far text t)
both_answered [] near far sets text m t silent = absurd silent
both_answered (first ∷ []) near far sets text m t silent = absurd silent
both_answered (first ∷ second ∷ more) near far sets text m (desk, load, turned, is, (desk', load', turned', is', rest)) silent =
    let mid = meet_next near far sets text m desk load turned in
    let next = meet_next far (at_desk near desk) (gathered near.header turned.proposed) load mid desk' load' turned' in
    carried more (at_desk near desk) (at_desk far desk') (gathered far.header turned'.proposed) load' next rest (turn_answers near far sets text m desk load turned)
    (turn_answers far (at_desk near desk) (gathered near.header turned.proposed) load mid desk' load' turned')
