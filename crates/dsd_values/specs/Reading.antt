-- What readers answer: from a text to its value or its first fault, the outermost word first. The kinds and their
-- bounds are this project's profile.
use Rattle.std.specs.Prelude.{◌≡◌, ℕ, ◌||◌, ◌*◌, ◌+◌, ◌-◌, ◌^◌, Bool, not, ◌&&◌, ◌==◌, nat_lt, nat_le, if◌then◌else◌, List, [], ◌∷◌, length, position, Option, Some, None, Result, Ok, Err}
use Rattle.std.specs.Char.{is_ascii_digit}
use Rattle.std.specs.Int.{is_in_range}
use Rattle.std.specs.Option.{option_or, option_map}
use Rattle.std.specs.List.{before_first, after_first, list_any}
use Rattle.std.specs.Str.Parse.{digits_value}
use Rattle.dsd_values.specs.declared.cents.TheConstants.Cents.{MAX as MOST_CENTS}
use Rattle.dsd_values.specs.declared.cost.TheConstants.Cost.{MAX as MOST_COST}
use Rattle.dsd_values.specs.declared.cost.TheConstants.{COST_DECIMALS}
use Rattle.dsd_values.specs.declared.percent.TheConstants.Percent.{MAX as MOST_PERCENT}
use Rattle.dsd_values.specs.declared.percent.TheConstants.{PERCENT_DECIMALS}
use Rattle.dsd_values.specs.declared.quantity.TheConstants.Quantity.{MAX as MOST_QUANTITY}
use Rattle.dsd_values.specs.declared.quantity.TheConstants.{MOST_TOTAL_QUANTITY}
use Rattle.dsd_values.specs.declared.level.TheConstants.Level.{MAX as HIGHEST_LEVEL}
use Rattle.dsd_values.specs.declared.dsd_number.TheConstants.DsdNumber.{MIN as LEAST_DSD, MAX as MOST_DSD}
use Rattle.dsd_values.specs.declared.number.TheConstants.{NUMBER_BYTES}
use Rattle.dsd_values.specs.declared.check.TheConstants.{CHECK_BYTES}
use Rattle.dsd_values.specs.declared.comm_id.TheConstants.{COMM_ID_BYTES}
use Rattle.dsd_values.specs.declared.delivery_number.TheConstants.{DELIVERY_NUMBER_BYTES}
use Rattle.dsd_values.specs.declared.limits.TheConstants.{KEPT_BYTES, WORD_BYTES}
use Rattle.dsd_values.specs.declared.fault.ValueFault.{ValueFault}
use Rattle.dsd_values.specs.declared.fault.ValueFault.TheVariants.{Empty, TooLong, NotDigit, TooManyDecimals, OutOfRange}
use Rattle.dsd_values.specs.declared.fault.KeptFault.{KeptFault}
use Rattle.dsd_values.specs.declared.fault.KeptFault.TheVariants.{Long}
use Rattle.dsd_values.specs.declared.flag.Flag.{Flag}
use Rattle.dsd_values.specs.declared.flag.Flag.TheVariants.{Debit, Credit}
use Rattle.dsd_values.specs.declared.role.Role.{Role}
use Rattle.dsd_values.specs.declared.role.Role.TheVariants.{Supplier, Receiver}

-- ---- the faults that readers share, in their order

-- the place of a byte that may not stand comes before the value
abbrev pub unless_outside : {V : Type 0} → Option ℕ → Result V ValueFault → Result V ValueFault
unless_outside (Some place) value = Err (NotDigit place)
unless_outside None value = value

-- a text of at most so many bytes, with the first that may not stand
abbrev pub bounded : {V : Type 0} → ℕ → Option ℕ → List ℕ → Result V ValueFault → Result V ValueFault
bounded most outside text value =
    if nat_lt most (length text) then Err (TooLong (length text)) else unless_outside outside value

-- the same of a text that may not be empty
abbrev pub filled : {V : Type 0} → ℕ → Option ℕ → List ℕ → Result V ValueFault → Result V ValueFault
filled most outside text value = if length text == 0 then Err Empty else bounded most outside text value

-- a text of at least so many bytes
abbrev pub complete : {V : Type 0} → ℕ → List ℕ → Result V ValueFault → Result V ValueFault
complete least text value = if nat_lt (length text) least then Err OutOfRange else value

-- a number from low to high
abbrev pub within : ℕ → ℕ → ℕ → Result ℕ ValueFault
within low high n = if nat_le low n && nat_le n high then Ok n else Err OutOfRange

-- ---- whole numbers

-- neither of '0' to '9'
abbrev pub is_no_digit : ℕ → Bool
is_no_digit b = not (is_ascii_digit b)

-- a place where there is one, else the value
abbrev pub place_or : {V : Type 0} → Option ℕ → V → Result V ℕ
place_or (Some place) value = Err place
place_or None value = Ok value

-- the number of a text of digits, or the place of the first byte that is none
abbrev pub digits_or_place : List ℕ → Result ℕ ℕ
digits_or_place text = place_or (position is_no_digit text) (digits_value 10 text)

-- 1 to 15 digits
abbrev pub plain_number_of : List ℕ → Result ℕ ValueFault
plain_number_of text = filled NUMBER_BYTES (position is_no_digit text) text (Ok (digits_value 10 text))

-- 1 to 15 digits of a number from low to high
abbrev pub number_of : ℕ → ℕ → List ℕ → Result ℕ ValueFault
number_of low high text =
    filled NUMBER_BYTES (position is_no_digit text) text (within low high (digits_value 10 text))

-- an amount of money in cents
abbrev pub cents_of : List ℕ → Result ℕ ValueFault
cents_of text = number_of 0 MOST_CENTS text

-- the quantity of a line
abbrev pub quantity_of : List ℕ → Result ℕ ValueFault
quantity_of text = number_of 0 MOST_QUANTITY text

-- the quantity of a whole delivery
abbrev pub total_quantity_of : List ℕ → Result ℕ ValueFault
total_quantity_of text = number_of 0 MOST_TOTAL_QUANTITY text

-- the level of a proposal
abbrev pub level_of : List ℕ → Result ℕ ValueFault
level_of text = number_of 0 HIGHEST_LEVEL text

-- the number of a line
abbrev pub dsd_of : List ℕ → Result ℕ ValueFault
dsd_of text = number_of LEAST_DSD MOST_DSD text

-- ---- numbers with a point

-- '.' is 46
abbrev pub is_point : ℕ → Bool
is_point b = b == 46

-- what stands before the first point, all where there is none
abbrev pub whole_part : List ℕ → List ℕ
whole_part text = before_first is_point text

-- what stands after the first point, nothing where there is none
abbrev pub decimal_part : List ℕ → List ℕ
decimal_part text = after_first is_point text

-- the place of the first byte of both parts that is no digit
abbrev pub outside_parts : List ℕ → List ℕ → Option ℕ
outside_parts whole rest =
    option_or (position is_no_digit whole) (option_map (λ i. length whole + 1 + i) (position is_no_digit rest))

-- the first byte that is neither a digit nor the first point, and 0 where the text has no digit
abbrev pub decimal_outside : List ℕ → Option ℕ
decimal_outside text =
    if list_any is_ascii_digit text then outside_parts (whole_part text) (decimal_part text) else Some 0

-- the number in units of the last of so many places after the point
unfoldable pub decimal_value : ℕ → List ℕ → ℕ
decimal_value places text =
    digits_value 10 (whole_part text) * 10 ^ places + digits_value 10 (decimal_part text) * 10 ^ (places - length (decimal_part text))

-- at most so many digits after the point
abbrev pub few_decimals : {V : Type 0} → ℕ → List ℕ → Result V ValueFault → Result V ValueFault
few_decimals places text value =
    if nat_lt places (length (decimal_part text)) then Err (TooManyDecimals (length (decimal_part text))) else value

-- digits with at most one point, and at most so many of them after it
abbrev pub plain_decimal_of : ℕ → List ℕ → Result ℕ ValueFault
plain_decimal_of places text =
    filled NUMBER_BYTES (decimal_outside text) text (few_decimals places text (Ok (decimal_value places text)))

-- the same of a number of at most so many units
abbrev pub decimal_of : ℕ → ℕ → List ℕ → Result ℕ ValueFault
decimal_of places high text =
    filled NUMBER_BYTES (decimal_outside text) text (few_decimals places text (within 0 high (decimal_value places text)))

-- ten-thousandths of a unit of money
abbrev pub cost_of : List ℕ → Result ℕ ValueFault
cost_of text = decimal_of COST_DECIMALS MOST_COST text

-- hundredths of a percent
abbrev pub percent_of : List ℕ → Result ℕ ValueFault
percent_of text = decimal_of PERCENT_DECIMALS MOST_PERCENT text

-- ---- words

-- an element character is 20 to 7E hexadecimal other than '*', which is 42
abbrev pub is_no_element_byte : ℕ → Bool
is_no_element_byte b = not (is_in_range 0x20 0x7E b) || (b == 42)

-- each byte is an element character
abbrev pub IsElementText : List ℕ → Type 0
IsElementText text = position is_no_element_byte text ≡ None

-- a word, which may be empty: at most 35 element characters
abbrev pub word_of : List ℕ → Result (List ℕ) ValueFault
word_of text = bounded WORD_BYTES (position is_no_element_byte text) text (Ok text)

-- a word that may not be empty
abbrev pub filled_word_of : List ℕ → Result (List ℕ) ValueFault
filled_word_of text = filled WORD_BYTES (position is_no_element_byte text) text (Ok text)

-- a word with a least and a most length of its own
abbrev pub word_between : ℕ → ℕ → List ℕ → Result (List ℕ) ValueFault
word_between least most text =
    filled most (position is_no_element_byte text) text (complete least text (Ok text))

-- ---- delivery numbers, ids and checks

-- no element character, or a space, which is 32
abbrev pub is_no_number_byte : ℕ → Bool
is_no_number_byte b = is_no_element_byte b || (b == 32)

-- each byte may stand in a delivery number
abbrev pub IsNumberText : List ℕ → Type 0
IsNumberText text = position is_no_number_byte text ≡ None

-- 1 to 22 element characters, none of them a space
abbrev pub delivery_number_of : List ℕ → Result (List ℕ) ValueFault
delivery_number_of text = filled DELIVERY_NUMBER_BYTES (position is_no_number_byte text) text (Ok text)

-- neither a letter 'A' to 'Z', which are 65 to 90, nor a digit
abbrev pub is_no_id_byte : ℕ → Bool
is_no_id_byte b = not (is_in_range 65 90 b) && not (is_ascii_digit b)

-- each byte may stand in a communication id
abbrev pub IsIdText : List ℕ → Type 0
IsIdText text = position is_no_id_byte text ≡ None

-- ten letters 'A' to 'Z' and digits
abbrev pub comm_id_of : List ℕ → Result (List ℕ) ValueFault
comm_id_of text =
    filled COMM_ID_BYTES (position is_no_id_byte text) text (complete COMM_ID_BYTES text (Ok text))

-- neither a digit nor a letter 'A' to 'F', which are 65 to 70
abbrev pub is_no_check_byte : ℕ → Bool
is_no_check_byte b = not (is_ascii_digit b) && not (is_in_range 65 70 b)

-- four hexadecimal digits with upper-case letters
abbrev pub check_of : List ℕ → Result ℕ ValueFault
check_of text =
    filled CHECK_BYTES (position is_no_check_byte text) text (complete CHECK_BYTES text (Ok (digits_value 16 text)))

-- ---- fixed choices

-- 'D', which is 68, or 'C', which is 67
abbrev pub flag_of : List ℕ → Result Flag ValueFault
flag_of [] = Err Empty
flag_of (b ∷ []) = if b == 68 then Ok Debit else if b == 67 then Ok Credit else Err OutOfRange
flag_of (b ∷ c ∷ rest) = Err OutOfRange

-- 'S', which is 83, or 'R', which is 82
abbrev pub role_of : List ℕ → Result Role ValueFault
role_of [] = Err Empty
role_of (b ∷ []) = if b == 83 then Ok Supplier else if b == 82 then Ok Receiver else Err OutOfRange
role_of (b ∷ c ∷ rest) = Err OutOfRange

-- ---- texts that are kept

-- a text of at most 512 bytes, as it came
abbrev pub kept_of : List ℕ → Result (List ℕ) KeptFault
kept_of text = if nat_lt KEPT_BYTES (length text) then Err (Long (length text)) else Ok text
