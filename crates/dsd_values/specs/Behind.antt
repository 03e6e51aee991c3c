-- What stands behind the lines of a delivery.
use Rattle.std.specs.Prelude.{List, [], ◌∷◌, ◌++◌}
use Rattle.dsd_values.specs.declared.extra.Extra.{Extra}
use Rattle.dsd_values.specs.declared.line.Line.{Line}

-- the line with one more extra behind it
abbrev pub extended : Extra → Line → Line
extended extra line = record line { extras = line.extras ++ extra ∷ [] }

-- the lines with one more extra behind the last of them
abbrev pub with_extra : Extra → List Line → List Line
with_extra extra [] = []
with_extra extra (line ∷ []) = extended extra line ∷ []
with_extra extra (line ∷ next ∷ lines) = line ∷ with_extra extra (next ∷ lines)
