-- Reading one event, with the first reason against its line.
use Rattle.std.specs.Prelude.{ℕ, Bool, not, List, [], ◌∷◌, position, codes, bytes_eq, Option, Some, None, Result, Ok, Err, if◌then◌else◌}
use Rattle.std.specs.Char.{is_ascii_hexdigit}
use Rattle.std.specs.Option.{option_or}
use Rattle.hex.specs.Hex.{decode_of}
use Rattle.hex.specs.declared.error.FromHexError.{FromHexError}
use Rattle.dsd_values.specs.Reading.{filled, number_of}
use Rattle.dsd_values.specs.declared.fault.ValueFault.{ValueFault}
use Rattle.dsd_values.specs.declared.fault.ValueFault.TheVariants.{Empty, OutOfRange}
use Rattle.dsd_values.specs.declared.role.Role.{Role}
use Rattle.dsd_values.specs.declared.role.Role.TheVariants.{Receiver, Supplier}
use Rattle.dsd_station.specs.declared.call.Pick.{Pick}
use Rattle.dsd_station.specs.declared.call.Pick.TheVariants.{Drop, Half, Keep}
use Rattle.dsd_record.specs.declared.draft_fault.DraftFault.{DraftFault}
use Rattle.plain_lines.specs.PlainText.{LineSeen, piece_of, word_of_line}
use Rattle.plain_lines.specs.Refusing.{◌>>=◌, value_at}
use Rattle.cable_world.specs.declared.deed.Deed.{Deed}
use Rattle.cable_world.specs.declared.deed.Deed.TheVariants as deeds
use Rattle.cable_world.specs.declared.event.Event.{Event}
use Rattle.cable_world.specs.declared.event.Event.TheVariants.{Start, Pass, Lose, Break, Again, Quiet, Unplug, Hear, Stop, Fail, Clean}
use Rattle.cable_world.specs.declared.event_line.TheConstants.{MOST_AGAIN, MOST_ARMED, MOST_DIGITS, MOST_PASSED, MOST_QUIET}

-- ---- the words of an event

-- `H` or `R`
abbrev pub end_of : List ℕ → Result Role ValueFault
end_of [] = Err Empty
end_of (b ∷ more) = if bytes_eq (b ∷ more) (codes "H") then Ok Supplier else if bytes_eq (b ∷ more) (codes "R") then Ok Receiver else Err OutOfRange

-- `KEEP`, `DROP` or `HALF`
abbrev pub pick_of : List ℕ → Result Pick ValueFault
pick_of [] = Err Empty
pick_of (b ∷ more) =
    if bytes_eq (b ∷ more) (codes "KEEP") then Ok Keep
    else if bytes_eq (b ∷ more) (codes "DROP") then Ok Drop
    else if bytes_eq (b ∷ more) (codes "HALF") then Ok Half else Err OutOfRange

abbrev pub is_no_digit : ℕ → Bool
is_no_digit b = not (is_ascii_hexdigit b)

-- an odd number of digits names no bytes
abbrev pub unless_odd : Result (List ℕ) FromHexError → Result (List ℕ) ValueFault
unless_odd (Ok bytes) = Ok bytes
unless_odd (Err fault) = Err OutOfRange

-- digits, some and not too many
abbrev pub digits_judged : List ℕ → Result (Unit {0}) ValueFault
digits_judged text = filled MOST_DIGITS (position is_no_digit text) text (Ok tt)

-- the bytes that digits of either case name
abbrev pub bytes_of : List ℕ → Result (List ℕ) ValueFault
bytes_of text = filled MOST_DIGITS (position is_no_digit text) text (unless_odd (decode_of text))

-- what these words of a line say
abbrev pub end_in : LineSeen → Result Role DraftFault
end_in line = value_at line 1 (end_of (word_of_line line 1))

abbrev pub number_in : LineSeen → ℕ → ℕ → Result ℕ DraftFault
number_in line number most = value_at line number (number_of 1 most (word_of_line line number))

-- ---- one event

-- what this leading word says is to happen to the frames that wait, or to both ends
abbrev pub cable_deed : List ℕ → Option Deed
cable_deed word =
    if bytes_eq word (codes "PASS") then Some deeds.Pass
    else if bytes_eq word (codes "LOSE") then Some deeds.Lose
    else if bytes_eq word (codes "BREAK") then Some deeds.Break
    else if bytes_eq word (codes "UNPLUG") then Some deeds.Unplug
    else if bytes_eq word (codes "CLEAN") then Some deeds.Clean else None

-- and to one end
abbrev pub end_deed : List ℕ → Option Deed
end_deed word =
    if bytes_eq word (codes "START") then Some deeds.Start
    else if bytes_eq word (codes "AGAIN") then Some deeds.Again
    else if bytes_eq word (codes "QUIET") then Some deeds.Quiet
    else if bytes_eq word (codes "HEAR") then Some deeds.Hear
    else if bytes_eq word (codes "STOP") then Some deeds.Stop
    else if bytes_eq word (codes "FAIL") then Some deeds.Fail else None

abbrev pub deed_named : List ℕ → Option Deed
deed_named word = option_or (cable_deed word) (end_deed word)

abbrev pub deed_of : LineSeen → Option Deed
deed_of line = deed_named (piece_of line 0)

-- the leading word counted
abbrev pub word_count : Deed → ℕ
word_count deeds.Start = 2
word_count deeds.Pass = 2
word_count deeds.Lose = 1
word_count deeds.Break = 1
word_count deeds.Again = 3
word_count deeds.Quiet = 3
word_count deeds.Unplug = 1
word_count deeds.Hear = 3
word_count deeds.Stop = 4
word_count deeds.Fail = 3
word_count deeds.Clean = 1

abbrev pub event_in : Deed → LineSeen → Result Event DraftFault
event_in deeds.Start line = end_in line >>= λ role. Ok (Start role)
event_in deeds.Pass line = number_in line 1 MOST_PASSED >>= λ n. Ok (Pass n)
event_in deeds.Lose line = Ok Lose
event_in deeds.Break line = Ok Break
event_in deeds.Again line = do
  role ← end_in line
  k ← number_in line 2 MOST_AGAIN
  Ok (Again role k)
event_in deeds.Quiet line = do
  role ← end_in line
  n ← number_in line 2 MOST_QUIET
  Ok (Quiet role n)
event_in deeds.Unplug line = Ok Unplug
event_in deeds.Hear line = do
  role ← end_in line
  bytes ← value_at line 2 (bytes_of (word_of_line line 2))
  Ok (Hear role bytes)
event_in deeds.Stop line = do
  role ← end_in line
  n ← number_in line 2 MOST_ARMED
  pick ← value_at line 3 (pick_of (word_of_line line 3))
  Ok (Stop role n pick)
event_in deeds.Fail line = do
  role ← end_in line
  n ← number_in line 2 MOST_ARMED
  Ok (Fail role n)
event_in deeds.Clean line = Ok Clean
