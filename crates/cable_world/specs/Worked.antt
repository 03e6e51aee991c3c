-- Worked texts of scripts.
use Rattle.std.specs.Prelude.{ℕ, List, [], ◌∷◌, ◌++◌, codes}
use Rattle.plain_lines.specs.PlainText.{text_of}

-- the lines of the two ends: 62 bytes with what ends them
abbrev pub two_ends : List (List ℕ)
two_ends = codes "HANDHELD HH00000001 RR00000001" ∷ codes "RECEIVER RR00000001 HH00000001" ∷ []

-- the lines in front of the events, without a draft and a count: 83 bytes
abbrev pub front : List (List ℕ)
front = two_ends ++ codes "DRAFTS" ∷ codes "COUNTS" ∷ codes "EVENTS" ∷ []

-- the front and these events
abbrev pub script_with : List (List ℕ) → List ℕ
script_with events = text_of (front ++ events)
