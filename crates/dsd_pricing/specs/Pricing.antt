-- What the rows of a delivery come to, in whole cents (this project's profile: the standard leaves the rounding, the methods and the order
-- of an allowance's forms to the partners).
use Rattle.std.specs.Prelude.{ℕ, ℤ, pos, neg_ℤ, ◌+ℤ◌, int_lt, unsigned_abs, ◌+◌, ◌*◌, ◌/◌, ◌≤◌, if◌then◌else◌, IsTrue, IsSome, List, length, fold, All, Option, Some, None, Result, Ok, Err, ⊤}
use Rattle.std.specs.List.{sum_by}
use Rattle.std.specs.Option.{option_map, option_or, unwrap_or}
use Rattle.dsd_values.specs.Methods.{counts, method_of}
use Rattle.dsd_values.specs.declared.allowance.Allowance.{Allowance}
use Rattle.dsd_values.specs.declared.cents.TheConstants.Cents.{MAX as MOST_CENTS}
use Rattle.dsd_values.specs.declared.extra.Extra.{Extra}
use Rattle.dsd_values.specs.declared.extra.Extra.TheVariants.{Allow, Note}
use Rattle.dsd_values.specs.declared.limits.TheConstants.{MOST_LINES}
use Rattle.dsd_values.specs.declared.line.Line.{Line}
use Rattle.dsd_values.specs.declared.method.Method.{Method}
use Rattle.dsd_values.specs.declared.method.Method.TheVariants.{Lowers, Raises, Other}
use Rattle.dsd_pricing.specs.declared.amounts.Totals.{Totals}
use Rattle.dsd_pricing.specs.declared.fault.PriceFault.{PriceFault}
use Rattle.dsd_pricing.specs.declared.fault.PriceFault.TheVariants.{Negative, TooLarge}

-- ---- what a row costs

-- how many whole units of this size a number is, to the nearest: half a unit goes up
abbrev pub rounded : ℕ → ℕ → ℕ
rounded number unit = (number + unit / 2) / unit

-- a quantity at a cost in ten-thousandths of a unit of money, of which a cent has a hundred
abbrev pub extended : ℕ → ℕ → ℕ
extended quantity cost = rounded (quantity * cost) 100

-- the extension of a line
abbrev pub extension_of : Line → ℕ
extension_of line = extended line.quantity line.cost

-- ---- what an allowance changes

-- a percent of a basis; the percent is in hundredths of a percent
abbrev pub share : ℕ → ℕ → ℕ
share basis percent = rounded (basis * percent) 10_000

-- the size that the forms of an allowance give: a total, else a rate at a quantity, else a percent of the basis
abbrev pub size_by : Option ℕ → Option ℕ → Option ℕ → Option ℕ → ℕ → Option ℕ
size_by (Some total) rate quantity percent basis = Some total
size_by None (Some rate) quantity percent basis = option_map (λ units. extended units rate) quantity
size_by None None quantity percent basis = option_map (share basis) percent

-- the size of an allowance; its own quantity comes before the one that is handed in
abbrev pub size : Allowance → ℕ → Option ℕ → Option ℕ
size allowance basis quantity = size_by allowance.total allowance.rate (option_or allowance.quantity quantity) allowance.percent basis

-- an allowance that changes an amount has a size
abbrev pub HasSize : Allowance → Option ℕ → Type 0
HasSize allowance quantity = (basis : ℕ) → IsTrue (counts allowance.method) → IsSome (size allowance basis quantity)

-- the size as a change of the amount
abbrev pub change : Method → ℕ → ℤ
change Lowers cents = neg_ℤ (pos cents)
change Raises cents = pos cents
change Other cents = pos 0

-- what an allowance changes of a basis
abbrev pub effect : Allowance → ℕ → Option ℕ → ℤ
effect allowance basis quantity = change (method_of allowance.method) (unwrap_or (size allowance basis quantity) 0)

-- ---- what stands behind a line, or at record level

-- signed numbers of the elements, added up
abbrev pub signed_sum_by : {X : Type 0} → (X → ℤ) → List X → ℤ
signed_sum_by number xs = fold (λ sum x. sum +ℤ number x) (pos 0) xs

-- what an extra changes of a basis: a note changes nothing
abbrev pub effect_in : ℕ → Option ℕ → Extra → ℤ
effect_in basis quantity (Allow allowance) = effect allowance basis quantity
effect_in basis quantity (Note text) = pos 0

-- an extra that changes an amount has a size
abbrev pub HasSizeIn : Option ℕ → Extra → Type 0
HasSizeIn quantity (Allow allowance) = HasSize allowance quantity
HasSizeIn quantity (Note text) = ⊤

-- what all of these extras change of a basis
abbrev pub effects : List Extra → ℕ → Option ℕ → ℤ
effects extras basis quantity = signed_sum_by (effect_in basis quantity) extras

-- what the extras of a line change of its extension
abbrev pub line_effects : Line → ℤ
line_effects line = effects line.extras (extension_of line) (Some line.quantity)

-- ---- what a delivery comes to

-- the sum of the quantities of these lines
abbrev pub quantities : List Line → ℕ
quantities lines = sum_by (λ line. line.quantity) lines

-- the sum of their extensions
abbrev pub extensions : List Line → ℕ
extensions lines = sum_by extension_of lines

-- the extensions, what the extras of the lines change, and what the extras of the record change of the sum of the extensions
abbrev pub priced : List Line → List Extra → ℤ
priced lines extras = pos (extensions lines) +ℤ signed_sum_by line_effects lines +ℤ effects extras (extensions lines) None

-- each allowance of these lines that changes an amount has a size
abbrev pub HaveSizes : List Line → Type 0
HaveSizes lines = All (λ line. All (HasSizeIn (Some line.quantity)) line.extras) lines

-- rows that have a price: no more lines than a delivery may have, and a size in each allowance that changes an amount
pub record ArePriced (lines : List Line) (extras : List Extra) : Type 0 where
  pub few : length lines ≤ MOST_LINES
  pub in_lines : HaveSizes lines
  pub in_record : All (HasSizeIn None) extras

-- what a set states of a quantity and a sum in cents, or why it can state none
abbrev pub totals_from : ℕ → ℤ → Result Totals PriceFault
totals_from quantity sum =
    if int_lt sum (pos 0) then Err (Negative sum)
    else (if int_lt (pos MOST_CENTS) sum then Err (TooLarge sum)
    else Ok (record { quantity = quantity; amount = unsigned_abs sum }))

-- the totals of a delivery
abbrev pub totals_of : List Line → List Extra → Result Totals PriceFault
totals_of lines extras = totals_from (quantities lines) (priced lines extras)
