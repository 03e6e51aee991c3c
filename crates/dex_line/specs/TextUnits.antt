-- A text as its units: segments with their terminators, which a block takes whole.
use Rattle.std.specs.Prelude.{◌≡◌, ◌⊎◌, ℕ, ◌<◌, ◌≤◌, Bool, false, ◌&&◌, ◌==◌, if◌then◌else◌, List, [], ◌∷◌, ◌++◌, length, take, drop, position, None, ⊤}
use Rattle.std.specs.List.{onto_first}
use Rattle.dex_line.specs.Bytes.{ends_id, line_feed}
use Rattle.dex_line.specs.declared.cutter.TheConstants.{BLOCK_WRITTEN}

abbrev pub is_feed : ℕ → Bool
is_feed b = b == line_feed

-- a text as its segments, each with its terminator, which ends in LF
unfoldable pub lines_of : List ℕ → List (List ℕ)
lines_of [] = []
lines_of (b ∷ more) = if b == line_feed then (b ∷ []) ∷ lines_of more else onto_first b (lines_of more)

-- ---- ends of lines

-- no bytes, or such as end in LF
abbrev pub IsWholeLines : List ℕ → Type 0
IsWholeLines text = (text ≡ []) ⊎ ((front : List ℕ) × (text ≡ front ++ line_feed ∷ []))

-- so many bytes are whole lines, and no line ends behind them
pub record EndsLines (text : List ℕ) (size : ℕ) : Type 0 where
  pub inside : size ≤ length text
  pub whole : IsWholeLines (take size text)
  pub none : position is_feed (drop size text) ≡ None

-- the last one of whole lines, or nothing of none
pub record IsLastLine (lines line : List ℕ) : Type 0 where
  pub before : List ℕ
  pub joined : lines ≡ before ++ line
  pub ended : IsWholeLines before
  pub whole : IsWholeLines line
  pub one : 0 < length lines → lines_of line ≡ line ∷ []

-- ---- units

-- a G85, the trailer that has the check of a set
abbrev pub is_trailer : List ℕ → Bool
is_trailer (a ∷ b ∷ c ∷ behind ∷ more) = a == 0x47 && b == 0x38 && c == 0x35 && ends_id behind
is_trailer _ = false

-- an SE, the end of a set
abbrev pub is_set_end : List ℕ → Bool
is_set_end (a ∷ b ∷ behind ∷ more) = a == 0x53 && b == 0x45 && ends_id behind
is_set_end _ = false

-- a G85 and the SE behind it are one unit
unfoldable pub paired : List (List ℕ) → List (List ℕ)
paired [] = []
paired (line ∷ []) = line ∷ []
paired (line ∷ next ∷ more) = if is_trailer line && is_set_end next then (line ++ next) ∷ paired more else line ∷ paired (next ∷ more)

unfoldable pub units_of : List ℕ → List (List ℕ)
units_of text = paired (lines_of text)

-- each unit fits into a block
abbrev pub EachFits : List (List ℕ) → Type 0
EachFits [] = ⊤
EachFits (unit ∷ more) = (length unit ≤ BLOCK_WRITTEN) × EachFits more

abbrev pub UnitsFit : List ℕ → Type 0
UnitsFit text = EachFits (units_of text)
