-- The talk of a delivery: what both ends have said of it, and what they will still say in a clean session, by both lists and both choosers alone. Each set
-- answers the last one, until one end accepts or declines.
use Rattle.std.specs.Prelude.{◌≡◌, ◌⊎◌, ◌≤◌, ℕ, true, false, not, bytes_eq, is_some, List, [], ◌∷◌, map, Option, Some, None, Ok}
use Rattle.std.specs.List.{find, list_any}
use Rattle.std.specs.Option.{option_map}
use Rattle.dsd_values.specs.declared.level.TheConstants.Level.{MAX as HIGHEST}
use Rattle.dsd_values.specs.declared.role.Role.{Role}
use Rattle.dsd_values.specs.declared.role.Role.TheVariants.{Receiver, Supplier}
use Rattle.transaction_set.specs.declared.seal.Seal.{Seal}
use Rattle.base_record_894.specs.BaseRecord.{BaseRecord, amount_of}
use Rattle.base_record_894.specs.WrittenText.{written_of as base_written}
use Rattle.adjustment_895.specs.AnswerRecord.{AnswerRecord}
use Rattle.adjustment_895.specs.Grammar.{has_none}
use Rattle.adjustment_895.specs.WrittenText.{written_of}
use Rattle.dsd_record.specs.Applying.{adjusted}
use Rattle.dsd_record.specs.Chain.{chain_from, version_of}
use Rattle.dsd_record.specs.Choices.{Chooser}
use Rattle.dsd_record.specs.Version.{Version}
use Rattle.dsd_record.specs.declared.set_view.SetView.{SetView}
use Rattle.dsd_record.specs.declared.set_view.SetView.TheVariants as sets
use Rattle.dsd_journal.specs.declared.entry.Entry.{Entry}
use Rattle.dsd_journal.specs.declared.entry.EntryKind.TheVariants.{Signed}
use Rattle.delivery_book.specs.Deeds.{Deed, deeds_of, of_delivery, other_role, proposes}
use Rattle.delivery_book.specs.Lookups.{own_amount, seen_of}
use Rattle.delivery_book.specs.Standing.{acceptance_of, highest_of}
use Rattle.clean_sessions.specs.ChosenAnswers.{answer_of, but_for_check, but_for_named, nine_digits}
use Rattle.clean_sessions.specs.DeliveryStands.{sets_in}

-- what the supplier has, and what the receiver has
abbrev pub by_role : {X : Type 0} → X → X → Role → X
by_role supplier receiver Supplier = supplier
by_role supplier receiver Receiver = receiver

-- ---- sets, but for what a session fixes

abbrev pub unsealed : Seal
unsealed = record { control = []; check = 0 }

-- all but its control number, its integrity value, and the integrity value that it names
abbrev pub but_for_seal : SetView → SetView
but_for_seal (sets.Base base seal) = sets.Base base unsealed
but_for_seal (sets.Answer answer seal) = sets.Answer (but_for_named answer) unsealed

-- what a list has of a delivery
abbrev pub said_in : List ℕ → List Entry → List SetView
said_in number entries = map (λ (deed : Deed). but_for_seal deed.set) (of_delivery number (deeds_of entries))

abbrev pub as_answer : AnswerRecord → SetView
as_answer answer = sets.Answer answer unsealed

-- one of them is an acceptance
abbrev pub HasAcceptance : List SetView → Type 0
HasAcceptance said = list_any (λ (set : SetView). not (proposes set)) said ≡ true

-- ---- answers in turn

-- Where a talk has come to: the version that the last proposal made, and what the last proposal of the end that answers it, and of its partner, came to.
pub record TalkStand : Type 0 where
  pub version : Version
  pub own : Option ℕ
  pub partner : Option ℕ

-- behind an adjustment, which the partner answers
abbrev pub behind : TalkStand → AnswerRecord → TalkStand
behind at answer = record { version = adjusted at.version answer 0; own = at.partner; partner = Some answer.amount }

-- The end of this role has this answer, at a level that there is, and it can be written with nine digits of a control number.
pub record Says (role : Role) (chooser : Chooser) (number : List ℕ) (at : TalkStand) (answer : AnswerRecord) : Type 0 where
  pub chosen : option_map but_for_named (answer_of role chooser number at.version at.own) ≡ Some answer
  pub level : answer.level ≤ HIGHEST
  pub text : List ℕ
  pub written : written_of answer nine_digits ≡ Ok text

-- it has none
abbrev pub Declines : Role → Chooser → List ℕ → TalkStand → Type 0
Declines role chooser number at = (answer : AnswerRecord) → Says role chooser number at answer → ⊥

-- one end and the other answer in turn; behind an acceptance nothing is said
abbrev pub AreAnswers : (Role → Chooser) → List ℕ → Role → TalkStand → List AnswerRecord → Type 0
AreAnswers choosers number role at [] = Declines role (choosers role) number at
AreAnswers choosers number role at (answer ∷ more) =
    Says role (choosers role) number at answer
    × (has_none answer.lines ≡ true → more ≡ [])
    × (has_none answer.lines ≡ false → AreAnswers choosers number (other_role role) (behind at answer) more)

-- ---- the talk

-- the sets that the lists have already, and those that are still said
pub record Talk : Type 0 where
  pub known : List SetView
  pub new : List SetView

-- the list of one end has an acceptance
pub record IsOver (lists : Role → List Entry) (number : List ℕ) (talk : Talk) : Type 0 where
  pub role : Role
  pub accepted : is_some (acceptance_of number (deeds_of (lists role))) ≡ true
  pub known : talk.known ≡ said_in number (lists role)
  pub new : talk.new ≡ []

-- The last proposal that a list has was signed by the partner of the end of this role, which answers it.
pub record IsAnswered (choosers : Role → Chooser) (lists : Role → List Entry) (number : List ℕ) (talk : Talk) : Type 0 where
  pub role : Role
  pub longest : sets_in number (lists role) ≤ sets_in number (lists (other_role role))
  pub none : acceptance_of number (deeds_of (lists (other_role role))) ≡ None
  pub last : Deed
  pub highest : highest_of number (deeds_of (lists (other_role role))) ≡ Some last
  pub signed : last.kind ≡ Signed
  pub version : Version
  pub seen : seen_of (lists (other_role role)) number ≡ Some version
  pub answers : List AnswerRecord
  pub turns : AreAnswers choosers number role (record { version = but_for_check version; own = own_amount (lists role) number; partner = own_amount (lists (other_role role)) number }) answers
  pub known : talk.known ≡ said_in number (lists (other_role role))
  pub new : talk.new ≡ map as_answer answers

-- the supplier's draft of the delivery
abbrev pub draft_of : Chooser → List ℕ → Option BaseRecord
draft_of supplier number = find (λ (draft : BaseRecord). bytes_eq draft.number number) supplier.drafts

-- the draft is said, and the receiver answers it
pub record IsProposed (choosers : Role → Chooser) (number : List ℕ) (said : List SetView) : Type 0 where
  pub draft : BaseRecord
  pub drafted : draft_of (choosers Supplier) number ≡ Some draft
  pub text : List ℕ
  pub written : base_written draft nine_digits ≡ Ok text
  pub version : Version
  pub made : version_of (chain_from draft 0) ≡ Some version
  pub answers : List AnswerRecord
  pub turns : AreAnswers choosers number Receiver (record { version = version; own = None; partner = Some (amount_of draft) }) answers
  pub new : said ≡ sets.Base draft unsealed ∷ map as_answer answers

-- there is no draft of it that can be written
pub record IsLeftOut (choosers : Role → Chooser) (number : List ℕ) (said : List SetView) : Type 0 where
  pub none : (draft : BaseRecord) (text : List ℕ) → draft_of (choosers Supplier) number ≡ Some draft → base_written draft nine_digits ≡ Ok text → ⊥
  pub new : said ≡ []

-- neither list has a set of it
pub record IsNewTalk (choosers : Role → Chooser) (lists : Role → List Entry) (number : List ℕ) (talk : Talk) : Type 0 where
  pub unknown : (role : Role) → of_delivery number (deeds_of (lists role)) ≡ []
  pub known : talk.known ≡ []
  pub begins : IsProposed choosers number talk.new ⊎ IsLeftOut choosers number talk.new

abbrev pub IsTalk : (Role → Chooser) → (Role → List Entry) → List ℕ → Talk → Type 0
IsTalk choosers lists number talk = IsOver lists number talk ⊎ (IsAnswered choosers lists number talk ⊎ IsNewTalk choosers lists number talk)
