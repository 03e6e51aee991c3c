-- Own turns of two ends one after the other, at their desks, and which deliveries they may have to do with.
use Rattle.std.specs.Prelude.{All, ◌≡◌, ◌+◌, ◌*◌, ℕ, Bool, true, false, List, [], ◌∷◌, ◌++◌, length, map, ⊤}
use Rattle.base_record_894.specs.BaseRecord.{BaseRecord}
use Rattle.base_record_894.specs.RecordText.{IsBase}
use Rattle.dsd_record.specs.Choices.{Chooser}
use Rattle.dsd_journal.specs.declared.header.Header.{Header}
use Rattle.delivery_book.specs.Deeds.{other_role}
use Rattle.delivery_book.specs.Lookups.{numbers_of}
use Rattle.own_turn.specs.DueSets.{DueSet}
use Rattle.own_turn.specs.OwnTurn.{Desk, Turned, gathered}
use Rattle.clean_sessions.specs.DeliveryStands.{IsBetweenTurns}

-- an end at its desk
pub record Seat : Type 0 where
  pub header : Header
  pub chooser : Chooser
  pub desk : Desk

abbrev pub at_desk : Seat → Desk → Seat
at_desk seat desk = record { header = seat.header; chooser = seat.chooser; desk = desk }

-- Own turns in turn, in which these sets are gathered. The first one is the near end's, which has heard this text, and each next one is the other
-- end's, which has heard the load of the one before.
abbrev pub AreOwnTurns : List (List DueSet) → Seat → Seat → List ℕ → Type 0
AreOwnTurns [] near far text = ⊤
AreOwnTurns (sets ∷ more) near far text =
    (desk : Desk) × (load : List ℕ) × (turned : Turned near.header near.chooser near.desk text desk load)
    × (sets ≡ gathered near.header turned.proposed) × AreOwnTurns more far (at_desk near desk) load

-- The own turn of the near end comes, which has heard these sets of the far one by this text. The drafts of both are base records.
pub record MeetForTurns (near far : Seat) (sets : List DueSet) (text : List ℕ) : Type 0 where
  pub roles : far.header.role ≡ other_role near.header.role
  pub near_drafts : All IsBase near.chooser.drafts
  pub far_drafts : All IsBase far.chooser.drafts
  pub between : IsBetweenTurns near.header.role near.desk far.desk sets text

-- no delivery was spoken of in this session
abbrev pub IsFresh : Seat → Type 0
IsFresh seat = seat.desk.asked ≡ []

abbrev pub has_none : List DueSet → Bool
has_none [] = true
has_none (set ∷ more) = false

-- two turns in a row without a set are the last ones; the first argument is that the turn before these had none
abbrev pub EndsWhenSilent : Bool → List (List DueSet) → Type 0
EndsWhenSilent silent [] = ⊤
EndsWhenSilent silent (sets ∷ more) = (silent ≡ true → has_none sets ≡ true → more ≡ []) × EndsWhenSilent (has_none sets) more

-- the deliveries that one of both ends knows, or has a draft of
abbrev pub deliveries_of : Seat → List (List ℕ)
deliveries_of seat = numbers_of seat.desk.entries ++ map (λ (draft : BaseRecord). draft.number) seat.chooser.drafts

abbrev pub most_turns : Seat → Seat → ℕ
most_turns near far = 2 * (37 * length (deliveries_of near ++ deliveries_of far)) + 2
