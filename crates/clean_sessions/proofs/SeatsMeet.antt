-- Behind an own turn both ends meet for the next one.
use Rattle.std.proofs.Common.{ℕ, List, sym, ap, subst, ◌∙◌}
use Rattle.dsd_values.specs.declared.role.Role.{Role}
use Rattle.delivery_book.specs.Deeds.{other_role}
use Rattle.delivery_book.proofs.Agreeing.{twice_other}
use Rattle.own_turn.specs.DueSets.{DueSet}
use Rattle.own_turn.specs.OwnTurn.{Desk, Turned, gathered}
use Rattle.clean_sessions.specs.DeliveryStands.{IsBetweenTurns}
use Rattle.clean_sessions.specs.SeatTurns.{MeetForTurns, Seat, at_desk}
use Rattle.clean_sessions.proofs.DeliveryTurns.{between_next}
use Rattle.clean_sessions.proofs.OwnSets.{signs_sets}

pub meet_next : (near far : Seat) (sets : List DueSet) (text : List ℕ) → MeetForTurns near far sets text → (desk : Desk) (load : List ℕ) → (turned : Turned near.header near.chooser near.desk text desk load)
    → MeetForTurns far (at_desk near desk) (gathered near.header turned.proposed) load
meet_next near far sets text m desk load turned = record {
  roles = sym (ap other_role m.roles ∙ twice_other near.header.role);
  near_drafts = m.far_drafts;
  far_drafts = m.near_drafts;
  between = subst (λ (r : Role). IsBetweenTurns r far.desk desk (gathered near.header turned.proposed) load) (sym m.roles)
      (between_next near.header near.chooser (signs_sets near.header.role near.chooser m.near_drafts) near.desk far.desk desk sets text load m.between turned);
}
