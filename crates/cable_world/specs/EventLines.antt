-- Which line says which event. The words and their bounds are this project's profile.
use Rattle.std.specs.Prelude.{◌≡◌, ◌≤◌, ◌<◌, ℕ, List, length, codes, Ok}
use Rattle.hex.specs.Hex.{decode_of}
use Rattle.dsd_values.specs.Reading.{number_of}
use Rattle.dsd_values.specs.declared.role.Role.{Role}
use Rattle.dsd_values.specs.declared.role.Role.TheVariants.{Receiver, Supplier}
use Rattle.dsd_station.specs.declared.call.Pick.{Pick}
use Rattle.dsd_station.specs.declared.call.Pick.TheVariants.{Drop, Half, Keep}
use Rattle.plain_lines.specs.PlainText.{LineSeen, word_of_line}
use Rattle.plain_lines.specs.Refusing.{IsLed}
use Rattle.cable_world.specs.declared.event.Event.{Event}
use Rattle.cable_world.specs.declared.event.Event.TheVariants.{Start, Pass, Lose, Break, Again, Quiet, Unplug, Hear, Stop, Fail, Clean}
use Rattle.cable_world.specs.declared.event_line.TheConstants.{MOST_AGAIN, MOST_ARMED, MOST_DIGITS, MOST_PASSED, MOST_QUIET}

-- the handheld is the supplier's end
abbrev pub end_text : Role → List ℕ
end_text Supplier = codes "H"
end_text Receiver = codes "R"

abbrev pub pick_text : Pick → List ℕ
pick_text Keep = codes "KEEP"
pick_text Drop = codes "DROP"
pick_text Half = codes "HALF"

-- the first word behind the leading one names the end
abbrev pub SaysEnd : Role → LineSeen → Type 0
SaysEnd role line = word_of_line line 1 ≡ end_text role

-- the word with this number is a number from 1 to this
abbrev pub SaysNumber : ℕ → ℕ → ℕ → LineSeen → Type 0
SaysNumber number most n line = number_of 1 most (word_of_line line number) ≡ Ok n

-- digits of either case, two for each byte
pub record SpellsBytes (bytes text : List ℕ) : Type 0 where
  pub filled : 0 < length text
  pub short : length text ≤ MOST_DIGITS
  pub digits : decode_of text ≡ Ok bytes

-- the line says this event
abbrev pub SaysEvent : Event → LineSeen → Type 0
SaysEvent (Start role) line = IsLed line (codes "START") 2 × SaysEnd role line
SaysEvent (Pass n) line = IsLed line (codes "PASS") 2 × SaysNumber 1 MOST_PASSED n line
SaysEvent Lose line = IsLed line (codes "LOSE") 1
SaysEvent Break line = IsLed line (codes "BREAK") 1
SaysEvent (Again role k) line = IsLed line (codes "AGAIN") 3 × SaysEnd role line × SaysNumber 2 MOST_AGAIN k line
SaysEvent (Quiet role n) line = IsLed line (codes "QUIET") 3 × SaysEnd role line × SaysNumber 2 MOST_QUIET n line
SaysEvent Unplug line = IsLed line (codes "UNPLUG") 1
SaysEvent (Hear role bytes) line = IsLed line (codes "HEAR") 3 × SaysEnd role line × SpellsBytes bytes (word_of_line line 2)
SaysEvent (Stop role n pick) line = IsLed line (codes "STOP") 4 × SaysEnd role line × SaysNumber 2 MOST_ARMED n line × (word_of_line line 3 ≡ pick_text pick)
SaysEvent (Fail role n) line = IsLed line (codes "FAIL") 3 × SaysEnd role line × SaysNumber 2 MOST_ARMED n line
SaysEvent Clean line = IsLed line (codes "CLEAN") 1
