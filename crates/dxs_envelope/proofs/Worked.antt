-- A text of rows that pass some tests is a set that may be sent.
use Rattle.std.proofs.Common.{◌≡◌, ℕ, ◌+◌, ◌≤◌, Bool, true, false, not, ◌&&◌, nat_le, List, [], ◌∷◌, ◌++◌, length, get_or, codes, refl, arith}
use Rattle.std.specs.Prelude.{All}
use Rattle.std.specs.List.{list_all}
use Rattle.std.proofs.lemmas.Bool.Decides.{nat_tests}
use Rattle.std.proofs.lemmas.List.Elements.{All-cons, All-nil}
use Rattle.std.proofs.lemmas.List.Sums.{AllPass-from_list_all}
use Rattle.segments.specs.Views.{has_id}
use Rattle.segments.specs.SegmentSpelling.{IsPart, is_element_character, is_id}
use Rattle.segments.specs.SegmentWriting.{IsLine, line_of, segment_of, segments_of, text_of}
use Rattle.segments.specs.Views.{Seg}
use Rattle.segments.proofs.Written.{lines_spelled}
use Rattle.segments.specs.SetUnits.{EndsInReturn, Fits, IsSet, IsSetText, units_of}

abbrev pub Row : Type 0
Row = List (List ℕ)

-- ---- tests

abbrev pub has_characters : Row → Bool
has_characters row = list_all (λ part. list_all is_element_character part) row

abbrev pub is_line : Row → Bool
is_line row = has_characters row && is_id (get_or row 0 []) && nat_le (length row) 31 && nat_le (length (line_of row)) 245

abbrev pub fits : List ℕ → Bool
fits unit = nat_le (length unit) 245

abbrev pub is_no_end : Seg → Bool
is_no_end seg = not (has_id seg (codes "SE"))

-- ---- what passes them

parts_pass : (row : Row) → has_characters row ≡ true → All IsPart row
parts_pass row e = λ k d under.
    AllPass-from_list_all is_element_character (get_or row k d) (AllPass-from_list_all (λ part. list_all is_element_character part) row e k d under)

left_of : (a b : Bool) → (a && b) ≡ true → a ≡ true
left_of true b e = refl
left_of false b e = cc

right_of : (a b : Bool) → (a && b) ≡ true → b ≡ true
right_of true b e = e
right_of false b e = cc

at_most : (m n : ℕ) → nat_le m n ≡ true → m ≤ n
at_most m n e = grind (arith, nat_tests)

line_passes : (row : Row) → is_line row ≡ true → IsLine row
line_passes row e =
    let three = left_of _ (nat_le (length (line_of row)) 245) e in
    let two = left_of _ (nat_le (length row) 31) three in
    record {
      segment = record {
        characters = parts_pass row (left_of (has_characters row) (is_id (get_or row 0 [])) two);
        id = right_of (has_characters row) (is_id (get_or row 0 [])) two;
        few = at_most (length row) 31 (right_of _ (nat_le (length row) 31) three);
      };
      short = at_most (length (line_of row)) 245 (right_of _ (nat_le (length (line_of row)) 245) e);
    }

no_end : (b : Bool) → not b ≡ true → b ≡ false
no_end true e = cc
no_end false e = refl

pub no_ends : (segs : List Seg) → list_all is_no_end segs ≡ true → All (λ seg. has_id seg (codes "SE") ≡ false) segs
no_ends segs e = λ k d under. no_end (has_id (get_or segs k d) (codes "SE")) (AllPass-from_list_all is_no_end segs e k d under)

returns : (place : ℕ) (rows : List Row) → All EndsInReturn (segments_of place rows)
returns place [] = All-nil EndsInReturn
returns place (row ∷ rows) = All-cons EndsInReturn (segment_of place row) (segments_of (place + length (line_of row)) rows) refl (returns (place + length (line_of row)) rows)

fit_all : (units : List (List ℕ)) → list_all fits units ≡ true → All Fits units
fit_all units e = λ k d under. at_most (length (get_or units k d)) 245 (AllPass-from_list_all fits units e k d under)

-- a set of these rows
pub rows_sent : (rows : List Row) → list_all is_line rows ≡ true → IsSet (segments_of 0 rows) → list_all fits (units_of (segments_of 0 rows)) ≡ true
    → IsSetText (text_of rows)
rows_sent rows lines set short = record {
  segments = segments_of 0 rows;
  spelled = lines_spelled 0 rows (λ k d under. line_passes (get_or rows k d) (AllPass-from_list_all is_line rows lines k d under));
  set = set;
  units = record { returns = returns 0 rows; fit = fit_all (units_of (segments_of 0 rows)) short };
}

-- ---- a set

abbrev inside_rows : List Row
inside_rows =
    (codes "G82" ∷ codes "D" ∷ codes "100001" ∷ [] ∷ [] ∷ [] ∷ [] ∷ codes "20240229" ∷ [])
    ∷ (codes "LS" ∷ codes "0100" ∷ [])
    ∷ (codes "G83" ∷ codes "1" ∷ codes "12" ∷ codes "EA" ∷ codes "012345678905" ∷ [] ∷ [] ∷ [] ∷ codes "1.25" ∷ [])
    ∷ (codes "G83" ∷ codes "2" ∷ codes "3" ∷ codes "EA" ∷ codes "012345678912" ∷ [] ∷ [] ∷ [] ∷ codes ".3333" ∷ [])
    ∷ (codes "LE" ∷ codes "0100" ∷ [])
    ∷ (codes "G84" ∷ codes "15" ∷ codes "1600" ∷ [])
    ∷ (codes "G86" ∷ codes "JONES" ∷ [])
    ∷ (codes "G85" ∷ codes "C60A" ∷ [])
    ∷ []

abbrev delivery_rows : List Row
delivery_rows = (codes "ST" ∷ codes "894" ∷ codes "0001" ∷ []) ∷ inside_rows ++ (codes "SE" ∷ codes "10" ∷ codes "0001" ∷ []) ∷ []

delivery_set : IsSet (segments_of 0 delivery_rows)
delivery_set = record { first = _; inside = segments_of 13 inside_rows; last = _; joined = refl; begins = refl; goes_on = no_ends (segments_of 13 inside_rows) refl; ends = refl }

pub delivery_sent : IsSetText (text_of delivery_rows)
delivery_sent = rows_sent delivery_rows refl delivery_set refl
