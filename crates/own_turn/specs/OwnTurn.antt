-- An own turn: the sets that were heard are taken, deliveries that await this end are answered, drafts are proposed, and due sets are
-- gathered.
use Rattle.std.specs.Prelude.{◌≡◌, ◌⊎◌, ℕ, ◌+◌, Bool, false, if◌then◌else◌, List, [], ◌∷◌, ◌++◌, map, Option, Some, None}
use Rattle.std.specs.List.{filter, fold}
use Rattle.base_record_894.specs.BaseRecord.{BaseRecord}
use Rattle.dsd_values.specs.declared.role.Role.{Role}
use Rattle.dsd_record.specs.Choices.{Chooser}
use Rattle.dsd_record.specs.ReadSets.{set_in}
use Rattle.dsd_record.specs.Version.{Version}
use Rattle.dxs_envelope.specs.FirstFault.{told_of, whole}
use Rattle.dxs_envelope.specs.Sending.{Sent}
use Rattle.dxs_envelope.specs.Views.{SetAt, Told}
use Rattle.dxs_envelope.specs.declared.fault.EnvelopeFault.{EnvelopeFault}
use Rattle.dsd_journal.specs.declared.entry.Entry.{Entry}
use Rattle.dsd_journal.specs.declared.entry.EntryKind.TheVariants.{Signed, Took}
use Rattle.dsd_journal.specs.declared.header.Header.{Header}
use Rattle.delivery_book.specs.Lookups.{awaits_us, numbers_of, own_amount}
use Rattle.delivery_book.specs.Refusals.{was_taken}
use Rattle.delivery_book.specs.Signing.{Legal}
use Rattle.own_turn.specs.Choosing.{ChoosesAnswer, ChoosesDraft, accepts}
use Rattle.own_turn.specs.DueSets.{Asked, DueSet, due_sets, reached, texts_of, with_known_set, with_signed, with_spoken}

-- What own turns read and change: the entries, what due sets ask of this session, and the counts of refused sets and of own turns with
-- blocks.
pub record Desk : Type 0 where
  pub entries : List Entry
  pub asked : List Asked
  pub refused : ℕ
  pub turns : ℕ

abbrev pub took : List ℕ → Entry
took text = record { kind = Took; payload = text }

abbrev pub signed : List ℕ → Entry
signed text = record { kind = Signed; payload = text }

abbrev pub with_entry : Desk → Entry → Desk
with_entry desk entry = record desk { entries = desk.entries ++ entry ∷ [] }

-- the list with this entry more is legal
abbrev pub StaysLegal : Role → List Entry → Entry → Type 0
StaysLegal role entries entry = Legal role (entries ++ entry ∷ [])

-- one step after another, each on the desk that the one before it left
abbrev pub InTurn : {A : Type 0} → (A → Desk → Desk → Type 0) → List A → Desk → Desk → Type 0
InTurn Step [] old new = new ≡ old
InTurn Step (item ∷ items) old new = (next : Desk) × Step item old next × InTurn Step items next new

-- ---- taking

-- A set that is not added is Known where it equals one that was taken, and else it is refused.
abbrev pub passed_over : Desk → List ℕ → Desk
passed_over desk text =
    if was_taken text desk.entries
    then record desk { asked = with_known_set desk.asked (set_in text) }
    else record desk { refused = desk.refused + 1 }

-- a set is added as taken exactly where the list stays legal
abbrev pub TakesSet : Role → List ℕ → Desk → Desk → Type 0
TakesSet role text old new =
    (StaysLegal role old.entries (took text) × (new ≡ with_entry old (took text)))
    ⊎ ((StaysLegal role old.entries (took text) → ⊥) × (new ≡ passed_over old text))

-- what a text lends up to its first envelope fault; a turn without a heard text lends nothing, and has no fault
abbrev pub lent : List ℕ → Told
lent [] = whole
lent (byte ∷ more) = told_of (byte ∷ more)

abbrev pub sets_lent : List ℕ → List (List ℕ)
sets_lent text = map (λ (set : SetAt). set.bytes) (lent text).sets

-- the envelope fault of a heard text is counted as a refused set
abbrev pub with_fault : Desk → Option EnvelopeFault → Desk
with_fault desk None = desk
with_fault desk (Some fault) = record desk { refused = desk.refused + 1 }

-- the sets that the text lends, in order
abbrev pub Takes : Role → List ℕ → Desk → Desk → Type 0
Takes role text old new = (behind : Desk) × InTurn (TakesSet role) (sets_lent text) old behind × (new ≡ with_fault behind (lent text).fault)

-- ---- signing

-- this set of the delivery is signed, an acceptance or not
abbrev pub with_signature : Desk → List ℕ → Bool → List ℕ → Desk
with_signature desk number acceptance text =
    record desk { entries = desk.entries ++ signed text ∷ []; asked = with_signed desk.asked number acceptance }

-- ---- answering

-- The text is the chosen answer of this delivery, and the list stays legal with it.
pub record MayAnswer (role : Role) (chooser : Chooser) (entries : List Entry) (number text : List ℕ) : Type 0 where
  pub chosen : ChoosesAnswer role chooser entries number text
  pub legal : StaysLegal role entries (signed text)

-- an acceptance, and not an adjustment
abbrev pub is_acceptance : (chooser : Chooser) (entries : List Entry) (number : List ℕ) → Version → Bool
is_acceptance chooser entries number version = accepts (chooser.choice version (own_amount entries number))

-- a delivery gets its chosen answer, where there is one with which the list stays legal
abbrev pub Answers : Role → Chooser → List ℕ → Desk → Desk → Type 0
Answers role chooser number old new =
    ((text : List ℕ) × (may : MayAnswer role chooser old.entries number text) × (new ≡ with_signature old number (is_acceptance chooser old.entries number may.chosen.version) text))
    ⊎ (((text : List ℕ) → MayAnswer role chooser old.entries number text → ⊥) × (new ≡ old))

-- the deliveries that await this end
abbrev pub awaiting : List Entry → List (List ℕ)
awaiting entries = filter (awaits_us entries) (numbers_of entries)

abbrev pub AnswersEach : Role → Chooser → Desk → Desk → Type 0
AnswersEach role chooser old new = InTurn (Answers role chooser) (awaiting old.entries) old new

-- ---- proposing

-- The text is this draft, which is chosen since its delivery is new, in its written form, and the list stays legal with it.
pub record MayPropose (role : Role) (chooser : Chooser) (entries : List Entry) (draft : BaseRecord) (text : List ℕ) : Type 0 where
  pub chosen : ChoosesDraft chooser entries draft text
  pub legal : StaysLegal role entries (signed text)

-- an unknown draft is proposed, where it can be written
abbrev pub Proposes : Role → Chooser → BaseRecord → Desk → Desk → Type 0
Proposes role chooser draft old new =
    ((text : List ℕ) × MayPropose role chooser old.entries draft text × (new ≡ with_signature old draft.number false text))
    ⊎ (((text : List ℕ) → MayPropose role chooser old.entries draft text → ⊥) × (new ≡ old))

abbrev pub ProposesEach : Role → Chooser → Desk → Desk → Type 0
ProposesEach role chooser old new = InTurn (Proposes role chooser) chooser.drafts old new

-- ---- gathering

-- the control number of the transmission: the count of this end's turns with blocks, from 1
abbrev pub next_turn : Desk → ℕ
next_turn desk = desk.turns + 1

-- the due sets in the order of their deliveries, as far as one transmission reaches
abbrev pub gathered : Header → Desk → List DueSet
gathered header desk = reached header (next_turn desk) [] (due_sets desk.entries desk.asked)

-- these sets are spoken in one turn
abbrev pub spoken : Desk → List DueSet → Desk
spoken desk [] = desk
spoken desk (set ∷ more) = record desk {
  asked = fold with_spoken desk.asked (map (λ (due : DueSet). due.number) (set ∷ more));
  turns = next_turn desk;
}

-- the load is nothing where there is no set, and else the written transmission of them, from this journal's own id to its peer's
abbrev pub IsLoad : Header → ℕ → List DueSet → List ℕ → Type 0
IsLoad header control [] load = load ≡ []
IsLoad header control (set ∷ more) load = Sent (texts_of (set ∷ more)) header.own header.peer control load

-- ---- the turn

-- An own turn behind this heard text, which leaves the desk so and gives this load.
pub record Turned (header : Header) (chooser : Chooser) (old : Desk) (text : List ℕ) (new : Desk) (load : List ℕ) : Type 0 where
  pub taken : Desk
  pub answered : Desk
  pub proposed : Desk
  pub takes : Takes header.role text old taken
  pub answers : AnswersEach header.role chooser taken answered
  pub proposes : ProposesEach header.role chooser answered proposed
  pub loads : IsLoad header (next_turn proposed) (gathered header proposed) load
  pub speaks : new ≡ spoken proposed (gathered header proposed)
