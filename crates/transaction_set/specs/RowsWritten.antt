-- What a writer of rows has written, and what it answers.
use Rattle.std.specs.Prelude.{◌≡◌, ℕ, ◌+◌, ◌≤◌, nat_lt, List, [], ◌∷◌, ◌++◌, length, Option, Some, None, Result, Ok, Err, if◌then◌else◌}
use Rattle.std.specs.Borrow.{Bor}
use Rattle.segments.specs.SegmentWriting.{Written, line_of, parts_of_begun, text_of}
use Rattle.transaction_set.specs.SetWriting.{Row}
use Rattle.segments.specs.declared.segment_write_fault.TheConstants.{SEGMENT_WRITTEN}
use Rattle.segments.specs.declared.segment_write_fault.SegmentWriteFault.{SegmentWriteFault}
use Rattle.segments.specs.declared.segment_write_fault.SegmentWriteFault.TheVariants.{LongSegment}

-- the length, with CR LF, of the first of these rows that is too long to be written
abbrev pub first_long : List Row → Option ℕ
first_long [] = None
first_long (row ∷ rows) = if nat_lt SEGMENT_WRITTEN (length (line_of row)) then Some (length (line_of row)) else first_long rows

-- what contracts see of a writer of rows: their text, and how many they are
pub record SetSoFar : Type 0 where
  pub text : List ℕ
  pub count : ℕ

abbrev pub no_rows : SetSoFar
no_rows = record { text = []; count = 0 }

-- with these rows more
abbrev pub with_rows : List Row → SetSoFar → SetSoFar
with_rows rows old = record { text = old.text ++ text_of rows; count = old.count + length rows }

abbrev pub unless_long : {X : Type 0} → Option ℕ → X → Result X SegmentWriteFault
unless_long (Some size) new = Err (LongSegment size)
unless_long None new = Ok new

-- where none of these rows is too long the writer has them more, else it answers the length of the first that is
abbrev pub after_writing : List Row → SetSoFar → Result SetSoFar SegmentWriteFault
after_writing rows old = unless_long (first_long rows) (with_rows rows old)

-- the text then
abbrev pub text_in : Result SetSoFar SegmentWriteFault → Result (List ℕ) SegmentWriteFault
text_in (Ok new) = Ok new.text
text_in (Err fault) = Err fault

abbrev pub text_after : List Row → SetSoFar → Result (List ℕ) SegmentWriteFault
text_after rows old = text_in (after_writing rows old)

-- a writer keeps segments of which none is begun, and no more of them than bytes
pub record KeepsCount (written : Written) (count : ℕ) : Type 0 where
  pub ended : written.begun ≡ None
  pub few : count ≤ length written.text

-- the segment that is begun has these elements more
abbrev pub with_elements : List (List ℕ) → Written → Written
with_elements elements old = record { text = old.text; begun = Some (parts_of_begun old.begun ++ elements) }

-- a text where there is one, else the empty one
abbrev pub behind_star : Option (Bor (List ℕ)) → List ℕ
behind_star (Some rest) = rest.now
behind_star None = []
