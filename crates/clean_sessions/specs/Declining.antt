-- What an end has refused: to answer a delivery that awaits it, or to propose a draft of its own, since its choices gave no text that it may sign.
use Rattle.std.specs.Prelude.{◌≡◌, ℕ, true, List, ◌++◌}
use Rattle.dsd_values.specs.declared.role.Role.{Role}
use Rattle.std.specs.List.{Contains}
use Rattle.base_record_894.specs.BaseRecord.{BaseRecord}
use Rattle.dsd_record.specs.Choices.{Chooser}
use Rattle.dsd_journal.specs.declared.entry.Entry.{Entry}
use Rattle.delivery_book.specs.Deeds.{deeds_of, of_delivery}
use Rattle.delivery_book.specs.Lookups.{awaits_us}
use Rattle.delivery_book.specs.Standing.{IsNew}
use Rattle.own_turn.specs.OwnTurn.{MayAnswer, MayPropose}

-- With the entries as they were before some that have nothing to do with the delivery, no text is an answer to it that this end may sign.
pub record HasDeclined (role : Role) (chooser : Chooser) (number : List ℕ) (entries : List Entry) : Type 0 where
  pub before : List Entry
  pub more : List Entry
  pub grown : entries ≡ before ++ more
  pub alike : of_delivery number (deeds_of entries) ≡ of_delivery number (deeds_of before)
  pub none : (text : List ℕ) → MayAnswer role chooser before number text → ⊥

-- it has declined each delivery that awaits it
abbrev pub DeclinesOpen : Role → Chooser → List Entry → Type 0
DeclinesOpen role chooser entries = (number : List ℕ) → awaits_us entries number ≡ true → HasDeclined role chooser number entries

-- With the entries as they were before some more, no text of the draft may be signed.
pub record HoldsBack (role : Role) (chooser : Chooser) (draft : BaseRecord) (entries : List Entry) : Type 0 where
  pub before : List Entry
  pub more : List Entry
  pub grown : entries ≡ before ++ more
  pub none : (text : List ℕ) → MayPropose role chooser before draft text → ⊥

-- it has held back each draft whose delivery is still new
abbrev pub HoldsNew : Role → Chooser → List Entry → Type 0
HoldsNew role chooser entries = (draft : BaseRecord) → Contains chooser.drafts draft → IsNew draft.number (deeds_of entries) → HoldsBack role chooser draft entries

-- what an own turn leaves undone it has refused
pub record HasAnswered (role : Role) (chooser : Chooser) (entries : List Entry) : Type 0 where
  pub declines : DeclinesOpen role chooser entries
  pub holds : HoldsNew role chooser entries
