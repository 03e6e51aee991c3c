-- The lines of a text that a person writes: drafts, counts and scripts. Each ends with LF or CR LF, and its words stand with one space
-- between them (this project's profile).
use Rattle.std.specs.Prelude.{ℕ, ◌+◌, Bool, true, false, not, ◌&&◌, ◌==◌, bytes_eq, codes, if◌then◌else◌, List, [], ◌∷◌, ◌++◌, length}
use Rattle.std.specs.List.{flat_map, list_any, slice_index_or, slice_split}
use Rattle.std.specs.Str.Lines.{strip_carriage_return}

-- what contracts see of a line: where it starts, its words, and whether it ends
pub record LineSeen : Type 0 where
  pub place : ℕ
  pub words : List (List ℕ)
  pub ended : Bool

-- what contracts see of the lines that are still to come, and where the text ends
pub record LinesLeft : Type 0 where
  pub lines : List LineSeen
  pub end : ℕ

-- ---- lines

-- LF is 10
abbrev pub is_line_feed : ℕ → Bool
is_line_feed b = b == 10

-- a space is 32
abbrev pub is_space : ℕ → Bool
is_space b = b == 32

-- the pieces of a text at its spaces
abbrev pub words_of : List ℕ → List (List ℕ)
words_of text = slice_split is_space text

-- a line in front of an LF, without the CR at its end
abbrev pub ended_line : ℕ → List ℕ → LineSeen
ended_line place piece = record { place = place; words = words_of (strip_carriage_return piece); ended = true }

-- what stands behind the last LF is a line that does not end, where there is something
abbrev pub last_line : ℕ → List ℕ → List LineSeen
last_line place [] = []
last_line place (b ∷ more) = record { place = place; words = words_of (b ∷ more); ended = false } ∷ []

-- the lines of a text by its pieces at each LF, the first one starting at this place
abbrev pub lines_from : ℕ → List (List ℕ) → List LineSeen
lines_from place [] = []
lines_from place (piece ∷ []) = last_line place piece
lines_from place (piece ∷ next ∷ more) = ended_line place piece ∷ lines_from (place + length piece + 1) (next ∷ more)

-- the lines of a text that starts at this place
abbrev pub lines_at : ℕ → List ℕ → LinesLeft
lines_at place text = record { lines = lines_from place (slice_split is_line_feed text); end = place + length text }

abbrev pub lines_in : List ℕ → LinesLeft
lines_in text = lines_at 0 text

-- the text of these lines, each with an LF behind it
abbrev pub text_of : List (List ℕ) → List ℕ
text_of lines = flat_map (λ (line : List ℕ). line ++ 10 ∷ []) lines

-- ---- words

-- the word with this number, the leading one having 0; a word that is not there is empty
abbrev pub piece_of : LineSeen → ℕ → List ℕ
piece_of line number = slice_index_or line.words number []

-- where each of these words ends in a text, the first one starting at this place and a space standing behind each
abbrev pub ends_from : ℕ → List (List ℕ) → List ℕ
ends_from place [] = []
ends_from place (word ∷ words) = (place + length word) ∷ ends_from (place + length word + 1) words

-- `-` is the empty word
abbrev pub unless_dash : List ℕ → List ℕ
unless_dash word = if bytes_eq word (codes "-") then [] else word

abbrev pub word_of_line : LineSeen → ℕ → List ℕ
word_of_line line number = unless_dash (piece_of line number)

abbrev pub is_nothing : List ℕ → Bool
is_nothing word = length word == 0

-- so many words, none of which is nothing
abbrev pub are_so_many : ℕ → List (List ℕ) → Bool
are_so_many count words = (length words == count) && not (list_any is_nothing words)

-- the line ends, and has so many words
abbrev pub has_words : LineSeen → ℕ → Bool
has_words line count = line.ended && are_so_many count line.words

-- its leading word is this one
abbrev pub leads : LineSeen → List ℕ → Bool
leads line word = bytes_eq (piece_of line 0) word
