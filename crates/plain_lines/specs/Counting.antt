-- Counted lines: a quantity and a cost under a line's number. The counters of a draft and the items of a count are such.
use Rattle.std.specs.Prelude.{◌≡◌, ◌≤◌, ℕ, nat_eq, nat_le, Bool, true, List, [], ◌∷◌, ◌++◌, length, codes, Option, Result, Ok}
use Rattle.std.specs.List.{All}
use Rattle.dsd_values.specs.Details.{no_details}
use Rattle.dsd_values.specs.Reading.{cost_of, dsd_of, quantity_of}
use Rattle.dsd_values.specs.declared.cost.TheConstants.Cost.{MAX as MOST_COST}
use Rattle.dsd_values.specs.declared.dsd_number.TheConstants.DsdNumber.{MIN as LEAST_DSD, MAX as MOST_DSD}
use Rattle.dsd_values.specs.declared.quantity.TheConstants.Quantity.{MAX as MOST_QUANTITY}
use Rattle.dsd_values.specs.declared.limits.TheConstants.{MOST_LINES}
use Rattle.dsd_values.specs.declared.line.Line.{Line}
use Rattle.dsd_record.specs.declared.draft_fault.DraftFault.{DraftFault}
use Rattle.dsd_record.specs.declared.draft_fault.DraftReason.TheVariants as reasons
use Rattle.plain_lines.specs.Keyed.{AreApartBy, is_there, keyed, under}
use Rattle.plain_lines.specs.PlainText.{LineSeen, has_words, word_of_line}
use Rattle.plain_lines.specs.Refusing.{◌>>=◌, refused_if, value_at}
use Rattle.plain_lines.specs.declared.counted.Counted.{Counted}

abbrev pub number_of : Counted → ℕ
number_of counted = counted.dsd

-- the one with this number, where there is one
abbrev pub counted_under : ℕ → List Counted → Option Counted
counted_under dsd counts = under nat_eq number_of dsd counts

-- one of them has this number
abbrev pub is_counted : ℕ → List Counted → Bool
is_counted dsd counts = is_there nat_eq number_of dsd counts

-- each under its number, as a map holds them
abbrev pub counts_numbered : List Counted → List (ℕ × Counted)
counts_numbered counts = keyed number_of counts

-- no number stands twice
abbrev pub AreCountedApart : List Counted → Type 0
AreCountedApart counts = AreApartBy nat_eq number_of counts

-- a number, a quantity and a cost of their types
pub record IsRightCounted (counted : Counted) : Type 0 where
  pub least : LEAST_DSD ≤ counted.dsd
  pub most : counted.dsd ≤ MOST_DSD
  pub quantity : counted.quantity ≤ MOST_QUANTITY
  pub cost : counted.cost ≤ MOST_COST

-- each is right, no number stands twice, and they are no more than a delivery has lines
pub record AreCounts (counts : List Counted) : Type 0 where
  pub right : All IsRightCounted counts
  pub apart : AreCountedApart counts
  pub few : length counts ≤ MOST_LINES

-- ---- which lines say them

-- the three words behind the leading one spell the number, the quantity and the cost
pub record SaysCounted (counted : Counted) (line : LineSeen) : Type 0 where
  pub words : has_words line 4 ≡ true
  pub dsd : dsd_of (word_of_line line 1) ≡ Ok counted.dsd
  pub quantity : quantity_of (word_of_line line 2) ≡ Ok counted.quantity
  pub cost : cost_of (word_of_line line 3) ≡ Ok counted.cost

-- what such a line says, or its first word that is refused
abbrev pub counted_in : LineSeen → Result Counted DraftFault
counted_in line = do
  dsd ← value_at line 1 (dsd_of (word_of_line line 1))
  quantity ← value_at line 2 (quantity_of (word_of_line line 2))
  cost ← value_at line 3 (cost_of (word_of_line line 3))
  Ok (record { dsd = dsd; quantity = quantity; cost = cost })

-- one more at the end, unless its number stands already
abbrev pub unless_counted : List Counted → LineSeen → Counted → Result (List Counted) DraftFault
unless_counted counts line counted = refused_if (is_counted counted.dsd counts) line reasons.Twice (Ok (counts ++ counted ∷ []))

-- what stands with one more line: there may be only so many
abbrev pub counts_with : List Counted → LineSeen → Result (List Counted) DraftFault
counts_with counts line = refused_if (nat_le MOST_LINES (length counts)) line reasons.Limit (counted_in line >>= unless_counted counts line)

-- ---- lines of a delivery by their counts

-- a line with the counted quantity and cost
abbrev pub recounted : Counted → Line → Line
recounted counted line = record line { quantity = counted.quantity; cost = counted.cost }

-- a line that the delivery did not have: its unit is `EA`, and its other words are empty
abbrev pub new_line : Counted → Line
new_line counted = record {
  dsd = counted.dsd;
  quantity = counted.quantity;
  unit = codes "EA";
  upc = [];
  details = no_details;
  cost = counted.cost;
  tail = [];
  extras = [];
}
