-- Which texts spell which value. The kinds and their bounds are this project's profile of the elements of the sets.
use Rattle.std.specs.Prelude.{◌≡◌, ◌≢◌, ◌⊎◌, ℕ, ◌+◌, ◌-◌, ◌*◌, ◌^◌, ◌<◌, ◌≤◌, pos, List, [], ◌∷◌, ◌++◌, length, take, drop, codes}
use Rattle.std.specs.Char.{IsAsciiDigit, IsAsciiUppercase}
use Rattle.std.specs.Int.{IsInRange}
use Rattle.std.specs.List.{All}
use Rattle.std.specs.Str.Parse.{digits_value}
use Rattle.jiff_core.specs.Calendar.{IsDate}
use Rattle.dsd_values.specs.Calendar.{Date}
use Rattle.dsd_values.specs.declared.cents.TheConstants.Cents.{MAX as MOST_CENTS}
use Rattle.dsd_values.specs.declared.cost.TheConstants.Cost.{MAX as MOST_COST}
use Rattle.dsd_values.specs.declared.cost.TheConstants.{COST_DECIMALS}
use Rattle.dsd_values.specs.declared.percent.TheConstants.Percent.{MAX as MOST_PERCENT}
use Rattle.dsd_values.specs.declared.percent.TheConstants.{PERCENT_DECIMALS}
use Rattle.dsd_values.specs.declared.quantity.TheConstants.Quantity.{MAX as MOST_QUANTITY}
use Rattle.dsd_values.specs.declared.quantity.TheConstants.{MOST_TOTAL_QUANTITY}
use Rattle.dsd_values.specs.declared.level.TheConstants.Level.{MAX as HIGHEST_LEVEL}
use Rattle.dsd_values.specs.declared.dsd_number.TheConstants.DsdNumber.{MIN as LEAST_DSD, MAX as MOST_DSD}
use Rattle.dsd_values.specs.declared.number.TheConstants.{NUMBER_BYTES}
use Rattle.dsd_values.specs.declared.check.TheConstants.{CHECK_BYTES}
use Rattle.dsd_values.specs.declared.comm_id.TheConstants.{COMM_ID_BYTES}
use Rattle.dsd_values.specs.declared.delivery_number.TheConstants.{DELIVERY_NUMBER_BYTES}
use Rattle.dsd_values.specs.declared.day.TheConstants.{DAY_BYTES}
use Rattle.dsd_values.specs.declared.limits.TheConstants.{WORD_BYTES}
use Rattle.dsd_values.specs.declared.flag.Flag.{Flag}
use Rattle.dsd_values.specs.declared.flag.Flag.TheVariants.{Debit, Credit}
use Rattle.dsd_values.specs.declared.role.Role.{Role}
use Rattle.dsd_values.specs.declared.role.Role.TheVariants.{Supplier, Receiver}

-- ---- numbers

-- 1 to 15 digits, leading zeros among them, of a number from low to high
pub record SpellsNumber (low high number : ℕ) (text : List ℕ) : Type 0 where
  pub filled : 0 < length text
  pub short : length text ≤ NUMBER_BYTES
  pub digits : All IsAsciiDigit text
  pub value : digits_value 10 text ≡ number
  pub at_least : low ≤ number
  pub at_most : number ≤ high

-- the digits before and after a point, which is 46. A text without a point has none after it
abbrev pub HasParts : List ℕ → List ℕ → List ℕ → Type 0
HasParts whole decimals text = (text ≡ whole ++ 46 ∷ decimals) ⊎ ((text ≡ whole) × (decimals ≡ []))

-- at most 15 bytes: at least one digit, at most one point, and after it at most so many digits. The number is in
-- units of the last place that a digit may have
pub record SpellsDecimal (places high number : ℕ) (text : List ℕ) : Type 0 where
  pub whole : List ℕ
  pub decimals : List ℕ
  pub parts : HasParts whole decimals text
  pub whole_digits : All IsAsciiDigit whole
  pub decimal_digits : All IsAsciiDigit decimals
  pub filled : 0 < length whole + length decimals
  pub short : length text ≤ NUMBER_BYTES
  pub few : length decimals ≤ places
  pub value : digits_value 10 whole * 10 ^ places + digits_value 10 decimals * 10 ^ (places - length decimals) ≡ number
  pub at_most : number ≤ high

-- 1 to 15 digits of any number. So many digits write no greater one
abbrev pub SpellsPlainNumber : ℕ → List ℕ → Type 0
SpellsPlainNumber number text = SpellsNumber 0 999_999_999_999_999 number text

-- an amount of money in cents
abbrev pub SpellsCents : ℕ → List ℕ → Type 0
SpellsCents cents text = SpellsNumber 0 MOST_CENTS cents text

-- the quantity of a line
abbrev pub SpellsQuantity : ℕ → List ℕ → Type 0
SpellsQuantity quantity text = SpellsNumber 0 MOST_QUANTITY quantity text

-- the quantity of a whole delivery
abbrev pub SpellsTotalQuantity : ℕ → List ℕ → Type 0
SpellsTotalQuantity quantity text = SpellsNumber 0 MOST_TOTAL_QUANTITY quantity text

-- the level of a proposal
abbrev pub SpellsLevel : ℕ → List ℕ → Type 0
SpellsLevel level text = SpellsNumber 0 HIGHEST_LEVEL level text

-- the number of a line
abbrev pub SpellsDsd : ℕ → List ℕ → Type 0
SpellsDsd dsd text = SpellsNumber LEAST_DSD MOST_DSD dsd text

-- ten-thousandths of a unit of money
abbrev pub SpellsCost : ℕ → List ℕ → Type 0
SpellsCost cost text = SpellsDecimal COST_DECIMALS MOST_COST cost text

-- hundredths of a percent
abbrev pub SpellsPercent : ℕ → List ℕ → Type 0
SpellsPercent percent text = SpellsDecimal PERCENT_DECIMALS MOST_PERCENT percent text

-- ---- words

-- 20 to 7E hexadecimal other than '*', which is 42 and parts elements
abbrev pub IsElementCharacter : ℕ → Type 0
IsElementCharacter b = IsInRange 0x20 0x7E b × (b ≢ 42)

-- a word is its own text
pub record SpellsWord (word text : List ℕ) : Type 0 where
  pub same : text ≡ word
  pub characters : All IsElementCharacter text
  pub short : length text ≤ WORD_BYTES

-- the same with a least and a most length of its own, and never empty
pub record SpellsWordBetween (least most : ℕ) (word text : List ℕ) : Type 0 where
  pub same : text ≡ word
  pub characters : All IsElementCharacter text
  pub filled : 0 < length text
  pub long : least ≤ length text
  pub short : length text ≤ most

-- a word that may not be empty
abbrev pub SpellsFilledWord : List ℕ → List ℕ → Type 0
SpellsFilledWord word text = SpellsWordBetween 1 WORD_BYTES word text

-- the same other than a space, which is 32
abbrev pub IsNumberCharacter : ℕ → Type 0
IsNumberCharacter b = IsElementCharacter b × (b ≢ 32)

-- a delivery number is its own text: 1 to 22 element characters, none of them a space
pub record SpellsDeliveryNumber (number text : List ℕ) : Type 0 where
  pub same : text ≡ number
  pub characters : All IsNumberCharacter text
  pub filled : 0 < length text
  pub short : length text ≤ DELIVERY_NUMBER_BYTES

-- a letter 'A' to 'Z' or a digit
abbrev pub IsIdCharacter : ℕ → Type 0
IsIdCharacter b = IsAsciiUppercase b ⊎ IsAsciiDigit b

-- a communication id is its own text: ten letters 'A' to 'Z' and digits
pub record SpellsCommId (id text : List ℕ) : Type 0 where
  pub same : text ≡ id
  pub characters : All IsIdCharacter text
  pub ten : length text ≡ COMM_ID_BYTES

-- ---- checks and days

-- a hexadecimal digit, '0' to '9' or 'A' to 'F'
abbrev pub IsCheckDigit : ℕ → Type 0
IsCheckDigit b = IsAsciiDigit b ⊎ IsInRange 65 70 b

-- four hexadecimal digits with upper-case letters
pub record SpellsCheck (check : ℕ) (text : List ℕ) : Type 0 where
  pub digits : All IsCheckDigit text
  pub four : length text ≡ CHECK_BYTES
  pub value : digits_value 16 text ≡ check

-- four digits of the year, two of the month and two of the day, of a date that the calendar has
pub record SpellsDay (date : Date) (text : List ℕ) : Type 0 where
  pub digits : All IsAsciiDigit text
  pub eight : length text ≡ DAY_BYTES
  pub year : digits_value 10 (take 4 text) ≡ date.year
  pub month : digits_value 10 (take 2 (drop 4 text)) ≡ date.month
  pub day : digits_value 10 (drop 6 text) ≡ date.day
  pub there : IsDate (pos date.year) (pos date.month) (pos date.day)

-- ---- fixed choices

-- the one letter of each flag
abbrev pub flag_text : Flag → List ℕ
flag_text Debit = codes "D"
flag_text Credit = codes "C"

-- the one letter of each role
abbrev pub role_text : Role → List ℕ
role_text Supplier = codes "S"
role_text Receiver = codes "R"
