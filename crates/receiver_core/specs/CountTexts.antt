-- Which texts say which counts: a relation, apart from any reading. The words and their order are this project's profile.
use Rattle.std.specs.Prelude.{◌≡◌, ◌≤◌, ℕ, Bool, true, false, List, [], ◌∷◌, ◌++◌, length, map, codes, bytes_eq, Option, Ok}
use Rattle.std.specs.List.{All, flat_map}
use Rattle.dsd_values.specs.Reading.{delivery_number_of}
use Rattle.dsd_values.specs.SignatureRecord.{SignatureRecord}
use Rattle.plain_lines.specs.Counting.{AreCounts as AreRight, SaysCounted}
use Rattle.plain_lines.specs.Keyed.{AreApartBy, is_there, keyed, under}
use Rattle.plain_lines.specs.PlainText.{LineSeen, lines_in, word_of_line}
use Rattle.plain_lines.specs.Refusing.{IsLed, SaysSignature}
use Rattle.plain_lines.specs.declared.counted.Counted.{Counted}
use Rattle.receiver_core.specs.declared.count.Count.{Count}
use Rattle.receiver_core.specs.declared.counts.TheConstants.{MOST_COUNTS}

-- ---- counts under their delivery numbers

abbrev pub number_of : Count → List ℕ
number_of count = count.number

-- the one of the delivery with this number, where there is one
abbrev pub count_under : List ℕ → List Count → Option Count
count_under number counts = under bytes_eq number_of number counts

-- there is one of the delivery with this number
abbrev pub is_known : List ℕ → List Count → Bool
is_known number counts = is_there bytes_eq number_of number counts

-- each under its number, as a map holds them
abbrev pub numbered : List Count → List (List ℕ × Count)
numbered counts = keyed number_of counts

-- what was counted of each is right, no delivery is counted twice, and there are no more than there may be
pub record AreCounts (counts : List Count) : Type 0 where
  pub each : All (λ (count : Count). AreRight count.lines) counts
  pub apart : AreApartBy bytes_eq number_of counts
  pub few : length counts ≤ MOST_COUNTS

-- ---- what each line says

pub data Entry : Type 0 where
  Number : List ℕ → Entry
  Sign : SignatureRecord → Entry
  Counters : Bool → Entry
  Item : Counted → Entry
  End : Entry

-- whether counters are accepted
abbrev pub answer_text : Bool → List ℕ
answer_text true = codes "YES"
answer_text false = codes "NO"

-- the line says this entry
abbrev pub SaysEntry : Entry → LineSeen → Type 0
SaysEntry (Number number) line = IsLed line (codes "COUNT") 2 × (delivery_number_of (word_of_line line 1) ≡ Ok number)
SaysEntry (Sign signature) line = IsLed line (codes "SIGN") 2 × SaysSignature signature line
SaysEntry (Counters yes_or_no) line = IsLed line (codes "COUNTER") 2 × (word_of_line line 1 ≡ answer_text yes_or_no)
SaysEntry (Item counted) line = IsLed line (codes "ITEM") 4 × SaysCounted counted line
SaysEntry End line = IsLed line (codes "END") 1

-- each line says its entry, in turn
abbrev pub Say : List Entry → List LineSeen → Type 0
Say [] [] = Unit {0}
Say (entry ∷ entries) (line ∷ lines) = SaysEntry entry line × Say entries lines
Say [] (line ∷ lines) = ⊥
Say (entry ∷ entries) [] = ⊥

-- ---- which texts say which counts

-- the entries of one count, in their order
abbrev pub entries_of : Count → List Entry
entries_of count = Number count.number ∷ Sign count.signature ∷ Counters count.counters ∷ map Item count.lines ++ End ∷ []

-- These lines say the entries of these counts, one count after another.
pub record AreSaid (counts : List Count) (text : List LineSeen) : Type 0 where
  pub lines : Say (flat_map entries_of counts) text
  pub counts_right : AreCounts counts

-- The lines of the text say these counts.
abbrev pub Says : List Count → List ℕ → Type 0
Says counts text = AreSaid counts (lines_in text).lines
