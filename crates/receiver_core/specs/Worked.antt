-- Worked texts of counts.
use Rattle.std.specs.Prelude.{ℕ, List, [], ◌∷◌, ◌++◌, codes}
use Rattle.plain_lines.specs.PlainText.{text_of}

-- the lines in front of the counted lines: 35 bytes with what ends them
abbrev pub front : List (List ℕ)
front = codes "COUNT 100001" ∷ codes "SIGN SMITH" ∷ codes "COUNTER NO" ∷ []

-- the front and these lines
abbrev pub count_with : List (List ℕ) → List ℕ
count_with rows = text_of (front ++ rows)
