-- Which texts say which drafts: a relation, apart from any reading. The words and their order are this project's profile.
use Rattle.std.specs.Prelude.{◌≡◌, ◌≤◌, ℕ, Bool, true, false, List, [], ◌∷◌, ◌++◌, length, map, codes, bytes_eq, Option, None, Ok}
use Rattle.std.specs.List.{All, flat_map}
use Rattle.std.specs.Result.{IsOk}
use Rattle.dsd_pricing.specs.Pricing.{totals_of}
use Rattle.dsd_values.specs.Calendar.{day_of}
use Rattle.dsd_values.specs.Reading.{cents_of, delivery_number_of, flag_of, word_of}
use Rattle.dsd_values.specs.SignatureRecord.{SignatureRecord}
use Rattle.dsd_values.specs.declared.extra.Extra.{Extra}
use Rattle.dsd_values.specs.declared.extra.Extra.TheVariants.{Allow, Note}
use Rattle.dsd_values.specs.declared.line.Line.{Line}
use Rattle.base_record_894.specs.BaseRecord.{BaseRecord}
use Rattle.base_record_894.specs.RecordText.{IsBase}
use Rattle.base_record_894.specs.declared.head.BaseHead.{BaseHead}
use Rattle.plain_lines.specs.Counting.{AreCounts, SaysCounted}
use Rattle.plain_lines.specs.Keyed.{AreApartBy, is_there, keyed, under}
use Rattle.plain_lines.specs.PlainText.{LineSeen, lines_in, word_of_line}
use Rattle.plain_lines.specs.Refusing.{IsLed, SaysSignature}
use Rattle.plain_lines.specs.declared.counted.Counted.{Counted}
use Rattle.handheld_core.specs.DraftRows.{AreRows, SaysAllowance, SaysItem}
use Rattle.handheld_core.specs.declared.draft.Draft.{Draft}
use Rattle.handheld_core.specs.declared.drafts.TheConstants.{MOST_DRAFTS}

-- ---- drafts under their delivery numbers

abbrev pub number_of : Draft → List ℕ
number_of draft = draft.base.number

-- the one with this delivery number, where there is one
abbrev pub draft_under : List ℕ → List Draft → Option Draft
draft_under number drafts = under bytes_eq number_of number drafts

-- there is one with this delivery number
abbrev pub is_known : List ℕ → List Draft → Bool
is_known number drafts = is_there bytes_eq number_of number drafts

-- each under its number, as a map holds them
abbrev pub numbered : List Draft → List (List ℕ × Draft)
numbered drafts = keyed number_of drafts

-- a base record that some text spells, and counters that are right
pub record IsDraft (draft : Draft) : Type 0 where
  pub base : IsBase draft.base
  pub counters : AreCounts draft.counters

-- no two have one delivery number, and there are no more than there may be
pub record AreDrafts (drafts : List Draft) : Type 0 where
  pub each : All IsDraft drafts
  pub apart : AreApartBy bytes_eq number_of drafts
  pub few : length drafts ≤ MOST_DRAFTS

-- ---- what each line says

pub data Entry : Type 0 where
  Head : BaseHead → Entry
  Sign : SignatureRecord → Entry
  Tolerance : ℕ → Entry
  -- behind an item, or at the level of the record
  Beside : Bool → Extra → Entry
  Item : Line → Entry
  Counter : Counted → Entry
  End : Entry

-- the words of a G82, its number first
pub record SaysHead (head : BaseHead) (line : LineSeen) : Type 0 where
  pub number : delivery_number_of (word_of_line line 1) ≡ Ok head.number
  pub flag : flag_of (word_of_line line 2) ≡ Ok head.flag
  pub day : day_of (word_of_line line 3) ≡ Ok head.day
  pub receiver_duns : word_of (word_of_line line 4) ≡ Ok head.receiver_duns
  pub receiver_place : word_of (word_of_line line 5) ≡ Ok head.receiver_place
  pub supplier_duns : word_of (word_of_line line 6) ≡ Ok head.supplier_duns
  pub supplier_place : word_of (word_of_line line 7) ≡ Ok head.supplier_place

-- the line says the extra, which is an allowance
abbrev pub SaysExtra : Bool → Extra → LineSeen → Type 0
SaysExtra in_line (Allow allowance) line = SaysAllowance in_line allowance line
SaysExtra in_line (Note text) line = ⊥

-- the line says this entry
abbrev pub SaysEntry : Entry → LineSeen → Type 0
SaysEntry (Head head) line = IsLed line (codes "DRAFT") 8 × SaysHead head line
SaysEntry (Sign signature) line = IsLed line (codes "SIGN") 2 × SaysSignature signature line
SaysEntry (Tolerance tolerance) line = IsLed line (codes "TOLERANCE") 2 × (cents_of (word_of_line line 1) ≡ Ok tolerance)
SaysEntry (Beside in_line extra) line = IsLed line (codes "ALLOW") 5 × SaysExtra in_line extra line
SaysEntry (Item item) line = IsLed line (codes "ITEM") 6 × SaysItem item line
SaysEntry (Counter counted) line = IsLed line (codes "COUNTER") 4 × SaysCounted counted line
SaysEntry End line = IsLed line (codes "END") 1

-- each line says its entry, in turn
abbrev pub Say : List Entry → List LineSeen → Type 0
Say [] [] = Unit {0}
Say (entry ∷ entries) (line ∷ lines) = SaysEntry entry line × Say entries lines
Say [] (line ∷ lines) = ⊥
Say (entry ∷ entries) [] = ⊥

-- ---- which texts say which drafts

-- an item, and then the allowances behind it
abbrev pub item_entries : Line → List Entry
item_entries line = Item (record line { extras = [] }) ∷ map (Beside true) line.extras

abbrev pub head_of : BaseRecord → BaseHead
head_of base = record {
  flag = base.flag;
  number = base.number;
  day = base.day;
  receiver_duns = base.receiver_duns;
  receiver_place = base.receiver_place;
  supplier_duns = base.supplier_duns;
  supplier_place = base.supplier_place;
}

-- the entries of one draft, in their order
abbrev pub entries_of : Draft → List Entry
entries_of draft =
    Head (head_of draft.base) ∷ Sign draft.base.signature ∷ Tolerance draft.tolerance ∷ map (Beside false) draft.base.extras
    ++ flat_map item_entries draft.base.lines ++ map Counter draft.counters ++ End ∷ []

-- Nothing else stands in the base record. Its rows have a price, and neither they nor the counters are too many or have a number twice.
pub record IsSaid (draft : Draft) : Type 0 where
  pub tail : draft.base.tail ≡ []
  pub references : draft.base.references ≡ []
  pub deposit : draft.base.deposit ≡ None
  pub rows : AreRows (record { extras = draft.base.extras; lines = draft.base.lines })
  pub priced : IsOk (totals_of draft.base.lines draft.base.extras)
  pub counters : AreCounts draft.counters

-- These lines say the entries of these drafts, one draft after another.
pub record AreSaid (drafts : List Draft) (text : List LineSeen) : Type 0 where
  pub lines : Say (flat_map entries_of drafts) text
  pub each : All IsSaid drafts
  pub apart : AreApartBy bytes_eq number_of drafts
  pub few : length drafts ≤ MOST_DRAFTS

-- The lines of the text say these drafts.
abbrev pub Says : List Draft → List ℕ → Type 0
Says drafts text = AreSaid drafts (lines_in text).lines
