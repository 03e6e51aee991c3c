-- Days, and what reading eight digits as a day answers.
use Rattle.std.specs.Prelude.{ℕ, ◌/◌, ◌%◌, Bool, ◌&&◌, nat_le, if◌then◌else◌, pos, List, position, Result, Ok, Err}
use Rattle.std.specs.Str.Parse.{digits_value}
use Rattle.jiff_core.specs.Calendar.{days_in_month}
use Rattle.dsd_values.specs.Reading.{is_no_digit, filled, complete}
use Rattle.dsd_values.specs.declared.day.TheConstants.{DAY_BYTES}
use Rattle.dsd_values.specs.declared.fault.ValueFault.{ValueFault}
use Rattle.dsd_values.specs.declared.fault.ValueFault.TheVariants.{NoSuchDay}

-- what contracts see of a day
pub record Date : Type 0 where
  pub year : ℕ
  pub month : ℕ
  pub day : ℕ

-- the Gregorian calendar has this day, and its year has at most four digits
abbrev pub is_date : ℕ → ℕ → ℕ → Bool
is_date year month day =
    nat_le year 9999 && nat_le 1 month && nat_le month 12 && nat_le 1 day && nat_le day (days_in_month (pos year) month)

-- that day, or that there is none
abbrev pub date_at : ℕ → ℕ → ℕ → Result Date ValueFault
date_at year month day =
    if is_date year month day then Ok (record { year = year; month = month; day = day }) else Err NoSuchDay

-- the day that a number of eight digits names: year, month and day, in this order
abbrev pub date_numbered : ℕ → Result Date ValueFault
date_numbered n = date_at (n / 10_000) (n / 100 % 100) (n % 100)

-- eight digits
abbrev pub day_of : List ℕ → Result Date ValueFault
day_of text =
    filled DAY_BYTES (position is_no_digit text) text (complete DAY_BYTES text (date_numbered (digits_value 10 text)))
