-- Worked texts of drafts.
use Rattle.std.specs.Prelude.{ℕ, List, [], ◌∷◌, ◌++◌, codes}
use Rattle.plain_lines.specs.PlainText.{text_of}

-- the lines in front of the rows: 50 bytes with what ends them
abbrev pub front : List (List ℕ)
front = codes "DRAFT 1 D 20240229 - - - -" ∷ codes "SIGN JONES" ∷ codes "TOLERANCE 5" ∷ []

-- the front and these rows
abbrev pub draft_with : List (List ℕ) → List ℕ
draft_with rows = text_of (front ++ rows)
