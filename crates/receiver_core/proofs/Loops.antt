-- One more line of a list of which what is left still gives the rest.
use Rattle.std.proofs.Common.{◌≡◌, Bool, true, false, List, [], ◌∷◌, ◌++◌, Option, Some, None, if◌then◌else◌, sym, ap, ◌∙◌, append_assoc}
use Rattle.dsd_values.specs.declared.line.Line.{Line}
use Rattle.transaction_set.specs.Reasons.{has_line}
use Rattle.plain_lines.specs.Counting.{counted_under, new_line}
use Rattle.plain_lines.specs.declared.counted.Counted.{Counted}
use Rattle.receiver_core.specs.Choosing.{added, change_of, differing, with_change}

-- a line that differs, and those behind it
pub differs : (counts : List Counted) (line change : Line) (lines before : List Line) → Some change ≡ change_of (counted_under line.dsd counts) line → (before ++ change ∷ []) ++ differing counts lines ≡ before ++ differing counts (line ∷ lines)
differs counts line change lines before is = append_assoc before (change ∷ []) (differing counts lines) ∙ ap (λ (o : Option Line). before ++ with_change o (differing counts lines)) is

-- one that does not
pub agrees : (counts : List Counted) (line : Line) (lines before : List Line) → None ≡ change_of (counted_under line.dsd counts) line → before ++ differing counts lines ≡ before ++ differing counts (line ∷ lines)
agrees counts line lines before is = ap (λ (o : Option Line). before ++ with_change o (differing counts lines)) is

-- a line that the record does not have, and those behind it
pub adds : (lines : List Line) (counted : Counted) (counts : List Counted) (before : List Line) (new : Line) → has_line counted.dsd lines ≡ false → new ≡ new_line counted
    → (before ++ new ∷ []) ++ added lines counts ≡ before ++ added lines (counted ∷ counts)
adds lines counted counts before new lacks is =
    append_assoc before (new ∷ []) (added lines counts) ∙ ap (λ (n : Line). before ++ n ∷ added lines counts) is
    ∙ ap (λ (b : Bool). before ++ (if b then added lines counts else new_line counted ∷ added lines counts)) (sym lacks)

-- one that it has
pub has : (lines : List Line) (counted : Counted) (counts : List Counted) (before : List Line) → has_line counted.dsd lines ≡ true → before ++ added lines counts ≡ before ++ added lines (counted ∷ counts)
has lines counted counts before there = ap (λ (b : Bool). before ++ (if b then added lines counts else new_line counted ∷ added lines counts)) (sym there)
