-- Into how many blocks texts are cut, each alone.
use Rattle.std.specs.Prelude.{◌≡◌, ◌≤◌, ◌+◌, ℕ, false, List, [], ◌∷◌, ◌++◌, length, ⊤}
use Rattle.dex_line.specs.BlockCut.{blocks_of}
use Rattle.dex_line.specs.TextUnits.{is_trailer, units_of, UnitsFit}

-- of all of them together
abbrev pub blocks_alone : List (List ℕ) → ℕ
blocks_alone [] = 0
blocks_alone (text ∷ texts) = length (blocks_of text) + blocks_alone texts

abbrev pub all_units : List (List ℕ) → List (List ℕ)
all_units [] = []
all_units (text ∷ texts) = units_of text ++ all_units texts

abbrev pub AllFit : List (List ℕ) → Type 0
AllFit [] = ⊤
AllFit (text ∷ texts) = UnitsFit text × AllFit texts

-- as many units, and none is longer
abbrev pub AreShorter : List (List ℕ) → List (List ℕ) → Type 0
AreShorter [] [] = ⊤
AreShorter (unit ∷ units) (other ∷ others) = (length unit ≤ length other) × AreShorter units others
AreShorter [] (other ∷ others) = ⊥
AreShorter (unit ∷ units) [] = ⊥

-- the last line is no G85
abbrev pub EndsApart : List (List ℕ) → Type 0
EndsApart [] = ⊤
EndsApart (line ∷ []) = is_trailer line ≡ false
EndsApart (line ∷ next ∷ more) = EndsApart (next ∷ more)
