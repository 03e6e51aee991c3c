-- A chosen set: what an end signs by its own choices.
use Rattle.std.specs.Prelude.{◌≡◌, ◌⊎◌, ℕ, Bool, true, false, List, [], ◌∷◌, Some, Ok}
use Rattle.std.specs.List.{Contains}
use Rattle.dsd_values.specs.SignatureRecord.{SignatureRecord}
use Rattle.dsd_values.specs.declared.role.Role.{Role}
use Rattle.base_record_894.specs.BaseRecord.{BaseRecord}
use Rattle.base_record_894.specs.WrittenText.{written_of}
use Rattle.dsd_record.specs.Choices.{Chooser}
use Rattle.dsd_record.specs.Version.{Version}
use Rattle.dsd_record.specs.declared.choice.Choice.{Choice}
use Rattle.dsd_record.specs.declared.choice.Choice.TheVariants.{Accept, Adjust, Wait}
use Rattle.dsd_journal.specs.declared.entry.Entry.{Entry}
use Rattle.delivery_book.specs.Answering.{IsAcceptance, IsAdjustment}
use Rattle.delivery_book.specs.Deeds.{deeds_of}
use Rattle.delivery_book.specs.Lookups.{awaits_us, own_amount, seen_of}
use Rattle.delivery_book.specs.Signing.{next_control}
use Rattle.delivery_book.specs.Standing.{IsNew}

-- the text is the written form of this draft, whose delivery is new
pub record ChoosesDraft (chooser : Chooser) (before : List Entry) (draft : BaseRecord) (text : List ℕ) : Type 0 where
  pub among : Contains chooser.drafts draft
  pub new : IsNew draft.number (deeds_of before)
  pub written : written_of draft (next_control before) ≡ Ok text

-- the text is the answer to a delivery that a choice asks for; an adjustment without a line is none
abbrev pub AnswersBy : Choice → Role → List Entry → List ℕ → SignatureRecord → List ℕ → Type 0
AnswersBy Accept role before number signature text = IsAcceptance role before number signature text
AnswersBy (Adjust []) role before number signature text = ⊥
AnswersBy (Adjust (line ∷ lines)) role before number signature text = IsAdjustment role before number (line ∷ lines) signature text
AnswersBy Wait role before number signature text = ⊥

abbrev pub accepts : Choice → Bool
accepts Accept = true
accepts (Adjust lines) = false
accepts Wait = false

-- The text is the answer that is chosen on the highest proposal of the delivery, which was taken, and none is accepted. The choice is the one on
-- the version that the proposal makes and on this end's last own amount.
pub record ChoosesAnswer (role : Role) (chooser : Chooser) (before : List Entry) (number text : List ℕ) : Type 0 where
  pub awaits : awaits_us before number ≡ true
  pub version : Version
  pub seen : seen_of before number ≡ Some version
  pub signature : SignatureRecord
  pub signs : chooser.signature number ≡ Some signature
  pub answers : AnswersBy (chooser.choice version (own_amount before number)) role before number signature text

-- The text is chosen behind these entries: as a draft, or as an answer.
abbrev pub Chosen : Role → Chooser → List Entry → List ℕ → Type 0
Chosen role chooser before text =
    ((draft : BaseRecord) × ChoosesDraft chooser before draft text) ⊎ ((number : List ℕ) × ChoosesAnswer role chooser before number text)
