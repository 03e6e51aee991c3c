-- The answer that an end chooses on a version, as a function, and what of it a session does not fix.
use Rattle.std.specs.Prelude.{◌≡◌, ◌≤◌, ℕ, true, All, List, [], ◌∷◌, Option, Some, None, Result, Ok, Err}
use Rattle.dsd_pricing.specs.declared.amounts.Totals.{Totals}
use Rattle.dsd_values.specs.SignatureRecord.{IsSignature, SignatureRecord}
use Rattle.dsd_values.specs.declared.level.TheConstants.Level.{MAX as HIGHEST}
use Rattle.dsd_values.specs.declared.line.Line.{Line}
use Rattle.dsd_values.specs.declared.role.Role.{Role}
use Rattle.dsd_values.specs.declared.role.Role.TheVariants.{Supplier}
use Rattle.base_record_894.specs.BaseRecord.{BaseRecord}
use Rattle.base_record_894.specs.RecordText.{IsBase}
use Rattle.base_record_894.specs.WrittenText.{seal_of as base_seal}
use Rattle.adjustment_895.specs.AnswerRecord.{AnswerRecord}
use Rattle.adjustment_895.specs.WrittenText.{seal_of, written_of}
use Rattle.dsd_record.specs.ChangedPrice.{price_with}
use Rattle.dsd_record.specs.Choices.{Chooser, ChoosesSoundly}
use Rattle.dsd_record.specs.ReadSets.{set_in}
use Rattle.dsd_record.specs.Version.{Version}
use Rattle.dsd_record.specs.declared.set_view.SetView.TheVariants as sets
use Rattle.dsd_record.specs.declared.choice.Choice.{Choice}
use Rattle.dsd_record.specs.declared.choice.Choice.TheVariants.{Accept, Adjust, Wait}
use Rattle.dsd_record.specs.declared.price_after.ChangeFault.{ChangeFault}
use Rattle.dsd_journal.specs.declared.entry.Entry.{Entry}
use Rattle.delivery_book.specs.Answering.{answer_to}
use Rattle.delivery_book.specs.Lookups.{awaits_us, own_amount, seen_of}
use Rattle.delivery_book.specs.Signing.{next_control}
use Rattle.own_turn.specs.OwnTurn.{MayAnswer, MayPropose}

-- where the changed lines have a price
abbrev pub priced_answer : Role → Version → SignatureRecord → List Line → Result Totals ChangeFault → Option AnswerRecord
priced_answer role version signature lines (Ok totals) = Some (answer_to role version lines totals signature)
priced_answer role version signature lines (Err fault) = None

-- an adjustment without a line is none
abbrev pub answer_by : Role → Version → SignatureRecord → Choice → Option AnswerRecord
answer_by role version signature Accept = Some (answer_to role version [] version.totals signature)
answer_by role version signature (Adjust []) = None
answer_by role version signature (Adjust (line ∷ lines)) = priced_answer role version signature (line ∷ lines) (price_with version (line ∷ lines))
answer_by role version signature Wait = None

abbrev pub signed_answer : Role → Version → Option SignatureRecord → Choice → Option AnswerRecord
signed_answer role version (Some signature) choice = answer_by role version signature choice
signed_answer role version None choice = None

-- the amount is that of this end's last proposal of the delivery, if it made one
abbrev pub answer_of : Role → Chooser → List ℕ → Version → Option ℕ → Option AnswerRecord
answer_of role chooser number version amount = signed_answer role version (chooser.signature number) (chooser.choice version amount)

-- The text is the written form of the answer that is chosen on the version of the delivery.
pub record IsChosenAnswer (role : Role) (chooser : Chooser) (before : List Entry) (number text : List ℕ) : Type 0 where
  pub version : Version
  pub seen : seen_of before number ≡ Some version
  pub answer : AnswerRecord
  pub chosen : answer_of role chooser number version (own_amount before number) ≡ Some answer
  pub written : written_of answer (next_control before) ≡ Ok text

-- ---- all but the numbers that a session fixes

-- a version but for the integrity value of the set that made it
abbrev pub but_for_check : Version → Version
but_for_check version = record version { check = 0 }

-- an answer but for the integrity value that it names
abbrev pub but_for_named : AnswerRecord → AnswerRecord
but_for_named answer = record answer { check = 0 }

-- a chooser that does not look at integrity values
abbrev pub IgnoresCheck : Chooser → Type 0
IgnoresCheck chooser = (version : Version) (amount : Option ℕ) → chooser.choice version amount ≡ chooser.choice (but_for_check version) amount

-- an answer that names another integrity value
abbrev pub naming : AnswerRecord → ℕ → AnswerRecord
naming answer check = record answer { check = check }

-- the highest control number
abbrev pub nine_digits : ℕ
nine_digits = 999_999_999

-- what deciders choose: drafts that some text spells, lines that may be stated, and signatures that may be written
pub record ChoosesRightly (chooser : Chooser) : Type 0 where
  pub drafts : All IsBase chooser.drafts
  pub choices : ChoosesSoundly chooser
  pub signatures : (number : List ℕ) (signature : SignatureRecord) → chooser.signature number ≡ Some signature → IsSignature signature

-- The answer that is chosen on a version of the delivery behind these entries can be written with nine digits, at a level that there is.
pub record IsChosenOn (role : Role) (chooser : Chooser) (entries : List Entry) (number : List ℕ) (version : Version) (answer : AnswerRecord) : Type 0 where
  pub awaits : awaits_us entries number ≡ true
  pub seen : seen_of entries number ≡ Some version
  pub chosen : answer_of role chooser number version (own_amount entries number) ≡ Some answer
  pub level : answer.level ≤ HIGHEST
  pub text : List ℕ
  pub written : written_of answer nine_digits ≡ Ok text

-- it may be signed, and what is signed is this answer
pub record MaySignIt (role : Role) (chooser : Chooser) (entries : List Entry) (number : List ℕ) (answer : AnswerRecord) : Type 0 where
  pub text : List ℕ
  pub may : MayAnswer role chooser entries number text
  pub is : set_in text ≡ Some (sets.Answer answer (seal_of answer (next_control entries)))

-- the same of a draft of the supplier
pub record MayProposeIt (chooser : Chooser) (entries : List Entry) (draft : BaseRecord) : Type 0 where
  pub text : List ℕ
  pub may : MayPropose Supplier chooser entries draft text
  pub is : set_in text ≡ Some (sets.Base draft (base_seal draft (next_control entries)))
