-- Lines of a delivery under their numbers, and what changes make of them.
use Rattle.std.specs.Prelude.{ℕ, ◌==◌, List, [], ◌∷◌, Option, fold, map, if◌then◌else◌}
use Rattle.std.specs.List.{find}
use Rattle.dsd_values.specs.declared.line.Line.{Line}

-- the lines with this one among them: in the place of the one with its number, else last
abbrev pub put : List Line → Line → List Line
put [] new = new ∷ []
put (line ∷ lines) new = if new.dsd == line.dsd then new ∷ lines else line ∷ put lines new

-- the lines after each of these changes in turn
abbrev pub changed : List Line → List Line → List Line
changed lines changes = fold put lines changes

-- the lines, each under its number
abbrev pub numbered : List Line → List (ℕ × Line)
numbered lines = map (λ (line : Line). (line.dsd, line)) lines

-- the line with this number, where there is one
abbrev pub line_under : ℕ → List Line → Option Line
line_under dsd lines = find (λ (line : Line). dsd == line.dsd) lines
