-- What the rows of a version would come to with changes, and why they would have no price.
use Rattle.std.specs.Prelude.{◌≡◌, ◌<◌, ◌≤◌, nat_lt, if◌then◌else◌, List, length, Result, Ok, Err}
use Rattle.dsd_pricing.specs.Pricing.{totals_of}
use Rattle.dsd_pricing.specs.declared.amounts.Totals.{Totals}
use Rattle.dsd_pricing.specs.declared.fault.PriceFault.{PriceFault}
use Rattle.dsd_values.specs.declared.extra.Extra.{Extra}
use Rattle.dsd_values.specs.declared.limits.TheConstants.{MOST_LINES}
use Rattle.dsd_values.specs.declared.line.Line.{Line}
use Rattle.dsd_record.specs.LineChanges.{changed}
use Rattle.dsd_record.specs.Version.{Version}
use Rattle.dsd_record.specs.declared.price_after.ChangeFault.{ChangeFault}
use Rattle.dsd_record.specs.declared.price_after.ChangeFault.TheVariants.{Limit, Memory, Price}

-- ---- what they come to

-- no more lines than a delivery may have would stand, and with the extras of the record these have these totals
pub record IsPriceAfter (version : Version) (changes : List Line) (totals : Totals) : Type 0 where
  pub few : length (changed version.lines changes) ≤ MOST_LINES
  pub price : totals_of (changed version.lines changes) version.extras ≡ Ok totals

-- one line too many would stand, and else the lines have no price
abbrev pub IsRefused : Version → List Line → ChangeFault → Type 0
IsRefused version changes (Limit lines) = (MOST_LINES < length (changed version.lines changes)) × (lines ≡ length (changed version.lines changes))
IsRefused version changes (Price fault) = (length (changed version.lines changes) ≤ MOST_LINES) × (totals_of (changed version.lines changes) version.extras ≡ Err fault)
IsRefused version changes Memory = Unit {0}

-- ---- the same as an answer

abbrev pub as_change : Result Totals PriceFault → Result Totals ChangeFault
as_change (Ok totals) = Ok totals
as_change (Err fault) = Err (Price fault)

-- the totals of these rows, of which there may be too many
abbrev pub totals_within : List Line → List Extra → Result Totals ChangeFault
totals_within lines extras = if nat_lt MOST_LINES (length lines) then Err (Limit (length lines)) else as_change (totals_of lines extras)

abbrev pub price_with : Version → List Line → Result Totals ChangeFault
price_with version changes = totals_within (changed version.lines changes) version.extras
