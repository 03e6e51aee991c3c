-- No fewer lines stand after changes than there are changes.
use Rattle.std.proofs.Common.{◌≡◌, ◌≤◌, ℕ, ◌+◌, ◌==◌, ◌||◌, Bool, true, false, List, [], ◌∷◌, length, if◌then◌else◌, refl, arith}
use Rattle.dsd_values.specs.declared.line.Line.{Line}
use Rattle.transaction_set.specs.Grammar.{AreApart}
use Rattle.transaction_set.specs.Reasons.{has_line}
use Rattle.dsd_record.specs.LineChanges.{changed, put}

abbrev one_unless : Bool → ℕ
one_unless true = 0
one_unless false = 1

-- how many of the lines have a number that none of the changes has
abbrev others : List Line → List Line → ℕ
others [] changes = 0
others (line ∷ lines) changes = one_unless (has_line line.dsd changes) + others lines changes

others_all : (lines : List Line) → length lines ≡ others lines []
others_all [] = refl
others_all (line ∷ lines) = let rest = others_all lines in omega arith

-- with a change more there are no more of them
one_less : (b c : Bool) → one_unless (b || c) ≤ one_unless c
one_less true true = omega arith
one_less true false = omega arith
one_less false c = omega arith

others_less : (lines : List Line) (change : Line) (changes : List Line) → others lines (change ∷ changes) ≤ others lines changes
others_less [] change changes = omega arith
others_less (line ∷ lines) change changes =
    let one = one_less (change.dsd == line.dsd) (has_line line.dsd changes) in
    let rest = others_less lines change changes in
    omega arith

-- a line that is put among them is one of the others for the changes behind it
put_counts : (lines : List Line) (change : Line) (changes : List Line) → has_line change.dsd changes ≡ false → 1 + others lines (change ∷ changes) ≤ others (put lines change) changes
put_counts [] change changes none = let one : one_unless (has_line change.dsd changes) ≡ 1 = rw none refl in omega arith
put_counts (line ∷ lines) change changes none = by (change.dsd == line.dsd) (put_counts lines change changes none)
  where
    by : (b : Bool) → 1 + others lines (change ∷ changes) ≤ others (put lines change) changes
        → 1 + (one_unless (b || has_line line.dsd changes) + others lines (change ∷ changes)) ≤ others (if b then change ∷ lines else line ∷ put lines change) changes
    by true rest = let one : one_unless (has_line change.dsd changes) ≡ 1 = rw none refl in let less = others_less lines change changes in omega arith
    by false rest = omega arith

counted : (lines changes : List Line) → AreApart changes → length changes + others lines changes ≤ length (changed lines changes)
counted lines [] apart = let all = others_all lines in omega arith
counted lines (change ∷ changes) apart =
    let more = put_counts lines change changes apart.0 in
    let rest = counted (put lines change) changes apart.1 in
    omega arith

pub changes_few : (lines changes : List Line) → AreApart changes → length changes ≤ length (changed lines changes)
changes_few lines changes apart = let all = counted lines changes apart in omega arith
