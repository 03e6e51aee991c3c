-- Printed lines.
use Rattle.std.specs.Prelude.{ℕ, List, [], ◌∷◌, ◌++◌}

-- a line ends with LF
abbrev pub line : List ℕ → List ℕ
line text = text ++ 10 ∷ []

-- two texts with a space between them
abbrev pub both : List ℕ → List ℕ → List ℕ
both first second = first ++ (32 ∷ []) ++ second
