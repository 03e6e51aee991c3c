-- What the parts of an own turn come to, before the journal is written.
use Rattle.std.specs.Prelude.{◌≡◌, ◌⊎◌, ℕ, ◌+◌, Bool, true, false, List, ◌++◌, map, Some, Result, Ok, Err, IfErr, OnOk}
use Rattle.dsd_values.specs.SignatureRecord.{SignatureRecord}
use Rattle.dsd_values.specs.declared.role.Role.{Role}
use Rattle.dsd_record.specs.Choices.{Chooser}
use Rattle.dsd_station.specs.Told.{Told}
use Rattle.base_record_894.specs.BaseRecord.{BaseRecord}
use Rattle.base_record_894.specs.WrittenText.{written_of}
use Rattle.dsd_record.specs.ReadSets.{set_in}
use Rattle.dsd_record.specs.Version.{Version}
use Rattle.dsd_record.specs.declared.choice.Choice.{Choice}
use Rattle.dxs_envelope.specs.Views.{SetAt, Told as Lent}
use Rattle.dsd_journal.specs.Steps.{Flushes}
use Rattle.dsd_journal.specs.declared.adding_fault.FlushFault.{FlushFault}
use Rattle.dsd_journal.specs.declared.adding_fault.StageFault.{StageFault}
use Rattle.dsd_journal.specs.declared.adding_fault.StageFault.TheVariants as stages
use Rattle.dsd_journal.specs.declared.entry.Entry.{Entry}
use Rattle.dsd_journal.specs.declared.header.Header.{Header}
use Rattle.delivery_book.specs.Books.{BookView}
use Rattle.delivery_book.specs.Deeds.{deeds_of}
use Rattle.delivery_book.specs.Lookups.{own_amount, seen_of}
use Rattle.delivery_book.specs.Signing.{next_control}
use Rattle.delivery_book.specs.Standing.{IsNew}
use Rattle.delivery_book.specs.declared.book_fault.BookFault.{BookFault}
use Rattle.delivery_book.specs.declared.book_fault.BookFault.TheVariants as books
use Rattle.own_turn.specs.Choosing.{AnswersBy, accepts}
use Rattle.own_turn.specs.DueSets.{with_known_set}
use Rattle.own_turn.specs.NextEntry.{AddsInTurn}
use Rattle.own_turn.specs.declared.refusal.Refusal.{Refusal}
use Rattle.own_turn.specs.declared.refusal.Refusal.TheVariants.{Known, Rules, Staging}
use Rattle.own_turn.specs.declared.turn_fault.TurnFault.{TurnFault}
use Rattle.own_turn.specs.declared.turn_fault.TurnFault.TheVariants.{Full, Station}
use Rattle.own_turn.specs.Desks.{DeskView, IsTooLong, desk_of}
use Rattle.own_turn.specs.OwnTurn.{AnswersEach, Desk, InTurn, IsLoad, ProposesEach, StaysLegal, Takes, TakesSet, gathered, next_turn, signed, spoken, with_fault, with_signature}

-- The book works, and knows what is staged beside the entries of its journal.
pub record IsStaging (book : BookView) : Type 0 where
  pub works : book.works ≡ true
  pub known : book.known ≡ book.entries ++ book.staged

-- Nothing of it has changed but what is staged and known.
pub record KeepsJournal (old new : BookView) : Type 0 where
  pub header : new.header ≡ old.header
  pub entries : new.entries ≡ old.entries
  pub staging : IsStaging old → IsStaging new

-- A part of a turn was done; or there is no room for the entry that it adds next, and all before that is staged. Want of memory is free.
abbrev pub StagesTo : Result (Unit {0}) StageFault → (Desk → Desk → Type 0) → (Desk → List Entry → Entry → Type 0) → DeskView → DeskView → Type 0
StagesTo (Ok done) Done Next old new = Done (desk_of old) (desk_of new)
StagesTo (Err (stages.Full n)) Done Next old new = IsTooLong (Next (desk_of old)) new.book.known n
StagesTo (Err stages.Memory) Done Next old new = Unit {0}

-- ---- refusals

-- why a book adds no set, as a turn sees it; a call that stages asks the station for nothing
abbrev pub as_refusal : BookFault → Refusal
as_refusal (books.Full n) = Staging (stages.Full n)
as_refusal books.Memory = Staging stages.Memory
as_refusal books.Station = Staging stages.Memory
as_refusal books.Known = Known
as_refusal fault = Rules

-- a turn goes on behind a set that the rules refuse
abbrev pub as_unsigned : Refusal → Result (Unit {0}) StageFault
as_unsigned (Staging fault) = Err fault
as_unsigned Known = Ok tt
as_unsigned Rules = Ok tt

-- ---- taking

-- what a set that is not added comes to
abbrev pub PassesOver : Refusal → List ℕ → Result (Unit {0}) StageFault → DeskView → DeskView → Type 0
PassesOver (Staging fault) text result old new = (result ≡ Err fault) × (new ≡ old)
PassesOver Known text result old new = OnOk result (new ≡ record old { asked = with_known_set old.asked (set_in text) }) × IfErr result (λ fault. fault ≡ stages.Memory) × (new.book ≡ old.book)
PassesOver Rules text result old new = OnOk result (new ≡ record old { refused = old.refused + 1 }) × IfErr result (λ fault. fault ≡ stages.Memory) × (new.book ≡ old.book)

-- the sets that are still to be told are taken, and then the fault counts as a refused set
abbrev pub TakesTold : Role → Lent → Desk → Desk → Type 0
TakesTold role told old new = (behind : Desk) × InTurn (TakesSet role) (map (λ (set : SetAt). set.bytes) told.sets) old behind × (new ≡ with_fault behind told.fault)

abbrev pub TakesToldNext : Role → Lent → Desk → List Entry → Entry → Type 0
TakesToldNext role told old entries entry = AddsInTurn (TakesSet role) (map (λ (set : SetAt). set.bytes) told.sets) old entries entry

-- ---- signing

-- Of the texts as said one is signed with which the list stays legal, where there is one.
abbrev pub SignsSome : Role → List ℕ → Bool → (List Entry → List ℕ → Type 0) → Desk → Desk → Type 0
SignsSome role number acceptance Made old new =
    ((text : List ℕ) × Made old.entries text × StaysLegal role old.entries (signed text) × (new ≡ with_signature old number acceptance text))
    ⊎ (((text : List ℕ) → Made old.entries text → StaysLegal role old.entries (signed text) → ⊥) × (new ≡ old))

-- the answer that a choice asks for is signed
abbrev pub SignsChoice : Role → Choice → List ℕ → SignatureRecord → Desk → Desk → Type 0
SignsChoice role choice number signature old new = SignsSome role number (accepts choice) (λ entries text. AnswersBy choice role entries number signature text) old new

-- what is chosen on the highest proposal of a delivery
pub record IsChoice (chooser : Chooser) (entries : List Entry) (number : List ℕ) (choice : Choice) : Type 0 where
  pub version : Version
  pub seen : seen_of entries number ≡ Some version
  pub chosen : choice ≡ chooser.choice version (own_amount entries number)

-- the draft of a new delivery is signed
abbrev pub ProposesDraft : Role → BaseRecord → Desk → Desk → Type 0
ProposesDraft role draft old new = SignsSome role draft.number false (λ entries text. IsNew draft.number (deeds_of entries) × (written_of draft (next_control entries) ≡ Ok text)) old new

-- ---- the first three parts, and the last

-- all that a turn adds to the entries
pub record IsStaged (role : Role) (chooser : Chooser) (text : List ℕ) (old proposed : Desk) : Type 0 where
  pub taken : Desk
  pub answered : Desk
  pub takes : Takes role text old taken
  pub answers : AnswersEach role chooser taken answered
  pub proposes : ProposesEach role chooser answered proposed

-- what it speaks behind that
pub record Speaks (header : Header) (proposed new : Desk) (load : List ℕ) : Type 0 where
  pub loads : IsLoad header (next_turn proposed) (gathered header proposed) load
  pub speaks : new ≡ spoken proposed (gathered header proposed)

-- ---- the device

-- A flush of these entries, whether it went well or not.
pub record IsFlushed (header : Header) (entries added : List Entry) (old new : Told) : Type 0 where
  pub result : Result (Unit {0}) FlushFault
  pub flushes : Flushes header entries added result old new

-- it answers that there is no room for an entry with which the journal would be so long, or that the station failed
abbrev pub GivesUp : {T : Type 0} → ℕ → Result T TurnFault → Type 0
GivesUp n (Ok load) = ⊥
GivesUp n (Err fault) = (fault ≡ Station) ⊎ (fault ≡ Full n)
