-- The rows of a draft: items with their allowances, and allowances of the record. Which lines say them, and what is read of such a
-- line (this project's profile).
use Rattle.std.specs.Prelude.{◌≡◌, ◌≤◌, ℕ, Bool, true, false, ◌==◌, nat_le, List, [], ◌∷◌, ◌++◌, length, Some, None, Result, Ok, Err, if◌then◌else◌}
use Rattle.std.specs.List.{All}
use Rattle.dsd_values.specs.Behind.{with_extra}
use Rattle.dsd_values.specs.Details.{no_details}
use Rattle.dsd_values.specs.Reading.{cents_of, cost_of, dsd_of, filled_word_of, percent_of, quantity_of, word_of}
use Rattle.dsd_values.specs.declared.allowance.Allowance.{Allowance}
use Rattle.dsd_values.specs.declared.extra.Extra.{Extra}
use Rattle.dsd_values.specs.declared.extra.Extra.TheVariants.{Allow}
use Rattle.dsd_values.specs.declared.fault.ValueFault.{ValueFault}
use Rattle.dsd_values.specs.declared.fault.ValueFault.TheVariants.{Empty, OutOfRange}
use Rattle.dsd_values.specs.declared.limits.TheConstants.{MOST_ALLOWANCES, MOST_LINES}
use Rattle.dsd_values.specs.declared.line.Line.{Line}
use Rattle.dsd_record.specs.declared.draft_fault.DraftFault.{DraftFault}
use Rattle.dsd_record.specs.declared.draft_fault.DraftReason.TheVariants as reasons
use Rattle.transaction_set.specs.Grammar.{AreApart}
use Rattle.transaction_set.specs.Reasons.{has_line, last_extras}
use Rattle.transaction_set.specs.SoundLines.{AreSoundExtras, IsPlainLine}
use Rattle.plain_lines.specs.PlainText.{LineSeen, word_of_line}
use Rattle.plain_lines.specs.Refusing.{◌>>=◌, refused_if, value_at}
use Rattle.handheld_core.specs.declared.allowance.Form.{Form}
use Rattle.handheld_core.specs.declared.allowance.Form.TheVariants as forms
use Rattle.handheld_core.specs.declared.allowance.Size.{Size}

pub record Rows : Type 0 where
  -- of the record itself
  pub extras : List Extra
  pub lines : List Line

-- ---- which rows a draft may have

-- each may stand there, and no more than may stand at one place
pub record AreAllowances (in_line : Bool) (extras : List Extra) : Type 0 where
  pub sound : AreSoundExtras in_line extras
  pub few : length extras ≤ MOST_ALLOWANCES

-- plain elements, and allowances behind them
pub record IsItem (line : Line) : Type 0 where
  pub plain : IsPlainLine line
  pub behind : AreAllowances true line.extras

pub record AreRows (rows : Rows) : Type 0 where
  pub items : All IsItem rows.lines
  pub apart : AreApart rows.lines
  pub few : length rows.lines ≤ MOST_LINES
  pub beside : AreAllowances false rows.extras

-- ---- items

-- an item of these elements
abbrev pub item_of : ℕ → ℕ → List ℕ → List ℕ → ℕ → Line
item_of dsd quantity unit upc cost = record {
  dsd = dsd;
  quantity = quantity;
  unit = unit;
  upc = upc;
  details = no_details;
  cost = cost;
  tail = [];
  extras = [];
}

-- the line says the item, behind which nothing stands yet
pub record SaysItem (line : Line) (said : LineSeen) : Type 0 where
  pub dsd : dsd_of (word_of_line said 1) ≡ Ok line.dsd
  pub quantity : quantity_of (word_of_line said 2) ≡ Ok line.quantity
  pub unit : filled_word_of (word_of_line said 3) ≡ Ok line.unit
  pub upc : word_of (word_of_line said 4) ≡ Ok line.upc
  pub cost : cost_of (word_of_line said 5) ≡ Ok line.cost
  pub other : line ≡ item_of line.dsd line.quantity line.unit line.upc line.cost

abbrev pub item_in : LineSeen → Result Line DraftFault
item_in line = do
  dsd ← value_at line 1 (dsd_of (word_of_line line 1))
  quantity ← value_at line 2 (quantity_of (word_of_line line 2))
  unit ← value_at line 3 (filled_word_of (word_of_line line 3))
  upc ← value_at line 4 (word_of (word_of_line line 4))
  cost ← value_at line 5 (cost_of (word_of_line line 5))
  Ok (item_of dsd quantity unit upc cost)

-- one more item, unless its number stands already
abbrev pub unless_standing : Rows → LineSeen → Line → Result Rows DraftFault
unless_standing rows line item = refused_if (has_line item.dsd rows.lines) line reasons.Twice (Ok (record rows { lines = rows.lines ++ item ∷ [] }))

abbrev pub with_item : Rows → LineSeen → Result Rows DraftFault
with_item rows line = refused_if (nat_le MOST_LINES (length rows.lines)) line reasons.Limit (item_in line >>= unless_standing rows line)

-- ---- allowances

-- a rate has no quantity at the level of the record
abbrev pub rate_form : Bool → Result Form ValueFault
rate_form true = Ok forms.Rate
rate_form false = Err OutOfRange

abbrev pub form_of : Bool → List ℕ → Result Form ValueFault
form_of in_line [] = Err Empty
form_of in_line (b ∷ []) = if b == 84 then Ok forms.Total else (if b == 82 then rate_form in_line else (if b == 80 then Ok forms.Percent else Err OutOfRange))
form_of in_line (b ∷ next ∷ more) = Err OutOfRange

abbrev pub total_size : Result ℕ ValueFault → Result Size ValueFault
total_size (Ok cents) = Ok (record { total = Some cents; rate = None; percent = None })
total_size (Err fault) = Err fault

abbrev pub rate_size : Result ℕ ValueFault → Result Size ValueFault
rate_size (Ok cost) = Ok (record { total = None; rate = Some cost; percent = None })
rate_size (Err fault) = Err fault

abbrev pub percent_size : Result ℕ ValueFault → Result Size ValueFault
percent_size (Ok percent) = Ok (record { total = None; rate = None; percent = Some percent })
percent_size (Err fault) = Err fault

-- the size that a text of this form writes
abbrev pub size_of : Form → List ℕ → Result Size ValueFault
size_of forms.Total text = total_size (cents_of text)
size_of forms.Rate text = rate_size (cost_of text)
size_of forms.Percent text = percent_size (percent_of text)

-- an allowance of this size and no other element
abbrev pub sized : List ℕ → List ℕ → Size → Allowance
sized code method size = record {
  code = code;
  method = method;
  number = [];
  exception = [];
  rate = size.rate;
  quantity = None;
  unit = [];
  total = size.total;
  percent = size.percent;
  tail = [];
}

abbrev pub allowance_in : Bool → LineSeen → Result Allowance DraftFault
allowance_in in_line line = do
  code ← value_at line 1 (filled_word_of (word_of_line line 1))
  method ← value_at line 2 (filled_word_of (word_of_line line 2))
  form ← value_at line 3 (form_of in_line (word_of_line line 3))
  size ← value_at line 4 (size_of form (word_of_line line 4))
  Ok (sized code method size)

-- the line says the allowance, in an item or at the level of the record
abbrev pub SaysAllowance : Bool → Allowance → LineSeen → Type 0
SaysAllowance in_line allowance line = (form : Form) × (size : Size)
    × (filled_word_of (word_of_line line 1) ≡ Ok allowance.code) × (filled_word_of (word_of_line line 2) ≡ Ok allowance.method)
    × (form_of in_line (word_of_line line 3) ≡ Ok form) × (size_of form (word_of_line line 4) ≡ Ok size) × (allowance ≡ sized allowance.code allowance.method size)

-- those that one more stands beside
abbrev pub beside : Bool → Rows → List Extra
beside true rows = last_extras rows.lines
beside false rows = rows.extras

-- one more allowance, behind the last item or at the level of the record
abbrev pub allowed : Bool → Rows → Allowance → Rows
allowed true rows allowance = record rows { lines = with_extra (Allow allowance) rows.lines }
allowed false rows allowance = record rows { extras = rows.extras ++ Allow allowance ∷ [] }

abbrev pub with_allowance : Bool → Rows → LineSeen → Result Rows DraftFault
with_allowance in_line rows line =
    refused_if (nat_le MOST_ALLOWANCES (length (beside in_line rows))) line reasons.Limit (allowance_in in_line line >>= λ allowance. Ok (allowed in_line rows allowance))
