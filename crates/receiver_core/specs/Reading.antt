-- Reading counts line by line, with the first reason against each line.
use Rattle.std.specs.Prelude.{◌≡◌, ◌<◌, ℕ, Bool, true, false, nat_le, List, [], ◌∷◌, ◌++◌, length, codes, bytes_eq, Result, Ok, Err, if◌then◌else◌}
use Rattle.dsd_values.specs.Reading.{delivery_number_of}
use Rattle.dsd_values.specs.SignatureRecord.{SignatureRecord}
use Rattle.dsd_values.specs.declared.fault.ValueFault.{ValueFault}
use Rattle.dsd_values.specs.declared.fault.ValueFault.TheVariants.{Empty, OutOfRange}
use Rattle.dsd_record.specs.declared.draft_fault.DraftFault.{DraftFault}
use Rattle.dsd_record.specs.declared.draft_fault.DraftReason.TheVariants as reasons
use Rattle.plain_lines.specs.Counting.{counts_with}
use Rattle.plain_lines.specs.PlainText.{LineSeen, LinesLeft, leads, lines_in, word_of_line}
use Rattle.plain_lines.specs.Refusing.{◌>>=◌, misplaced, refused_if, said_in, signature_in, unless, value_at, whole_at}
use Rattle.receiver_core.specs.CountTexts.{is_known}
use Rattle.receiver_core.specs.declared.count.Count.{Count}
use Rattle.receiver_core.specs.declared.counts.TheConstants.{MOST_COUNTS}
use Rattle.receiver_core.specs.declared.reading.Part.{Part}
use Rattle.receiver_core.specs.declared.reading.Part.TheVariants as parts

-- what was said so far: the counts that are whole, and the part of the one that is not
pub record SoFar : Type 0 where
  pub done : List Count
  pub part : Part

abbrev pub nothing : SoFar
nothing = record { done = []; part = parts.Between }

-- no count has begun that is not whole
abbrev pub is_between : Part → Bool
is_between parts.Between = true
is_between (parts.Headed number) = false
is_between (parts.Signed number signature) = false
is_between (parts.Lines count) = false

-- A count that has begun is of a delivery that was not counted before, and there is room for it.
pub record IsBegun (number : List ℕ) (done : List Count) : Type 0 where
  pub fresh : is_known number done ≡ false
  pub room : length done < MOST_COUNTS

abbrev pub IsRightPart : Part → List Count → Type 0
IsRightPart parts.Between done = Unit {0}
IsRightPart (parts.Headed number) done = IsBegun number done
IsRightPart (parts.Signed number signature) done = IsBegun number done
IsRightPart (parts.Lines count) done = IsBegun count.number done

-- `YES` or `NO`
abbrev pub answer_of : List ℕ → Result Bool ValueFault
answer_of [] = Err Empty
answer_of (b ∷ more) = if bytes_eq (b ∷ more) (codes "YES") then Ok true else if bytes_eq (b ∷ more) (codes "NO") then Ok false else Err OutOfRange

-- ---- what one more line says

-- the number of a delivery that was not counted before
abbrev pub begun : List Count → LineSeen → Result SoFar DraftFault
begun done line = do
  number ← value_at line 1 (delivery_number_of (word_of_line line 1))
  refused_if (is_known number done) line reasons.Twice (Ok (record { done = done; part = parts.Headed number }))

-- the signature
abbrev pub signed : List Count → List ℕ → LineSeen → Result SoFar DraftFault
signed done number line = do
  signature ← signature_in line
  Ok (record { done = done; part = parts.Signed number signature })

abbrev pub going_on : List Count → Count → SoFar
going_on done count = record { done = done; part = parts.Lines count }

-- whether counters are accepted
abbrev pub answered : List Count → List ℕ → SignatureRecord → LineSeen → Result SoFar DraftFault
answered done number signature line = do
  counters ← value_at line 1 (answer_of (word_of_line line 1))
  Ok (going_on done (record { number = number; signature = signature; counters = counters; lines = [] }))

-- a counted line more
abbrev pub counted : List Count → Count → LineSeen → Result SoFar DraftFault
counted done count line = do
  lines ← counts_with count.lines line
  Ok (going_on done (record count { lines = lines }))

abbrev pub with_item : List Count → Count → LineSeen → Result SoFar DraftFault
with_item done count line = unless (misplaced line (codes "ITEM") 4) line (counted done count line)

-- the end of a count
abbrev pub with_end : List Count → Count → LineSeen → Result SoFar DraftFault
with_end done count line = unless (misplaced line (codes "END") 1) line (Ok (record { done = done ++ count ∷ []; part = parts.Between }))

-- by the part that is not whole: what may stand there, of how many words, and what it says
abbrev pub in_part : Part → List Count → LineSeen → Result SoFar DraftFault
in_part parts.Between done line = unless (misplaced line (codes "COUNT") 2) line (refused_if (nat_le MOST_COUNTS (length done)) line reasons.Limit (begun done line))
in_part (parts.Headed number) done line = unless (misplaced line (codes "SIGN") 2) line (signed done number line)
in_part (parts.Signed number signature) done line = unless (misplaced line (codes "COUNTER") 2) line (answered done number signature line)
in_part (parts.Lines count) done line = if leads line (codes "ITEM") then with_item done count line else with_end done count line

unfoldable pub count_step : SoFar → LineSeen → Result SoFar DraftFault
count_step so_far line = in_part so_far.part so_far.done line

-- ---- a whole text

-- the counts, where the text does not end inside one
abbrev pub finished : ℕ → SoFar → Result (List Count) DraftFault
finished end so_far = whole_at (is_between so_far.part) end so_far.done

abbrev pub counts_in : LinesLeft → SoFar → Result (List Count) DraftFault
counts_in left so_far = said_in count_step finished left so_far

-- the counts that the text says, or its first refusal
abbrev pub counts_of : List ℕ → Result (List Count) DraftFault
counts_of text = counts_in (lines_in text) nothing
