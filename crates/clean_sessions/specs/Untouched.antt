-- What a step of an own turn leaves as it was: all of a delivery that it has nothing to do with.
use Rattle.std.specs.Prelude.{◌≡◌, ℕ, false, bytes_eq, List, [], ◌∷◌, Some, ⊤}
use Rattle.dsd_record.specs.ReadSets.{set_in}
use Rattle.dsd_record.specs.declared.set_view.SetView.{SetView}
use Rattle.delivery_book.specs.Deeds.{deeds_of, number_in, of_delivery}
use Rattle.own_turn.specs.DueSets.{asked_of}
use Rattle.own_turn.specs.OwnTurn.{Desk}

-- its deeds, and what due sets ask of it
pub record IsUntouched (number : List ℕ) (old new : Desk) : Type 0 where
  pub deeds : of_delivery number (deeds_of new.entries) ≡ of_delivery number (deeds_of old.entries)
  pub asked : asked_of number new.asked ≡ asked_of number old.asked

-- the text is no set of this delivery
abbrev pub IsOther : List ℕ → List ℕ → Type 0
IsOther number text = (set : SetView) → set_in text ≡ Some set → bytes_eq (number_in set) number ≡ false

abbrev pub AreOther : List ℕ → List (List ℕ) → Type 0
AreOther number [] = ⊤
AreOther number (text ∷ more) = IsOther number text × AreOther number more
