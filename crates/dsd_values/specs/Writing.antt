-- The one text that is written of each value (this project's profile).
use Rattle.std.specs.Prelude.{ℕ, zero, suc, ◌+◌, ◌/◌, ◌%◌, ◌^◌, not, ◌&&◌, ◌==◌, if◌then◌else◌, List, [], ◌∷◌, ◌++◌}
use Rattle.std.specs.Fmt.{decimal}
use Rattle.std.specs.Int.{w16, to_be_bytes}
use Rattle.hex.specs.Hex.{encode_upper}
use Rattle.dsd_values.specs.declared.cost.TheConstants.{COST_DECIMALS}
use Rattle.dsd_values.specs.declared.percent.TheConstants.{PERCENT_DECIMALS}
use Rattle.dsd_values.specs.Calendar.{Date}

-- the digits of a number without leading zeros, and `0` for zero
abbrev pub number_text : ℕ → List ℕ
number_text n = decimal n

-- so many digits of a number below 10 ^ places, up to the last that is not 0
unfoldable pub decimals_text : ℕ → ℕ → List ℕ
decimals_text zero n = []
decimals_text (suc k) n = if n == 0 then [] else (48 + n / 10 ^ k) ∷ decimals_text k (n % 10 ^ k)

-- what stands before the point: nothing where it is 0 and decimals follow
abbrev pub whole_text : ℕ → ℕ → List ℕ
whole_text whole rest = if whole == 0 && not (rest == 0) then [] else decimal whole

-- the point and the decimals, or nothing where there are none
abbrev pub rest_text : ℕ → ℕ → List ℕ
rest_text places rest = if rest == 0 then [] else 46 ∷ decimals_text places rest

-- a number in units of the last of so many places after the point
abbrev pub decimal_text : ℕ → ℕ → List ℕ
decimal_text places n = whole_text (n / 10 ^ places) (n % 10 ^ places) ++ rest_text places (n % 10 ^ places)

-- ten-thousandths of a unit of money
abbrev pub cost_text : ℕ → List ℕ
cost_text cost = decimal_text COST_DECIMALS cost

-- hundredths of a percent
abbrev pub percent_text : ℕ → List ℕ
percent_text percent = decimal_text PERCENT_DECIMALS percent

-- four upper-case hexadecimal digits, those of the higher byte first
abbrev pub check_text : ℕ → List ℕ
check_text check = encode_upper (to_be_bytes w16 check)

-- both digits of a number below 100
abbrev pub two_digits : ℕ → List ℕ
two_digits n = (48 + n / 10) ∷ (48 + n % 10) ∷ []

-- four digits of the year, two of the month and two of the day
abbrev pub day_text : Date → List ℕ
day_text date = two_digits (date.year / 100) ++ two_digits (date.year % 100) ++ two_digits date.month ++ two_digits date.day
