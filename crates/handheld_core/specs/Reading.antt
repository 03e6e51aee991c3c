-- Reading drafts line by line, with the first reason against each line.
use Rattle.std.specs.Prelude.{◌≡◌, ◌<◌, ℕ, Bool, true, false, nat_le, List, [], ◌∷◌, ◌++◌, length, codes, Result, Ok, Err, if◌then◌else◌}
use Rattle.dsd_pricing.specs.Pricing.{totals_of}
use Rattle.dsd_pricing.specs.declared.fault.PriceFault.{PriceFault}
use Rattle.dsd_values.specs.Calendar.{day_of}
use Rattle.dsd_values.specs.Reading.{cents_of, delivery_number_of, flag_of, word_of}
use Rattle.dsd_values.specs.SignatureRecord.{SignatureRecord}
use Rattle.base_record_894.specs.BaseRecord.{BaseRecord}
use Rattle.base_record_894.specs.Making.{record_made, unless_unpriced}
use Rattle.base_record_894.specs.declared.head.BaseHead.{BaseHead}
use Rattle.dsd_record.specs.declared.draft_fault.DraftFault.{DraftFault}
use Rattle.dsd_record.specs.declared.draft_fault.DraftReason.TheVariants as reasons
use Rattle.plain_lines.specs.Counting.{counts_with}
use Rattle.plain_lines.specs.PlainText.{LineSeen, LinesLeft, leads, lines_in, word_of_line}
use Rattle.plain_lines.specs.Refusing.{◌>>=◌, misplaced, refused, refused_if, said_in, signature_in, unless, value_at, whole_at}
use Rattle.handheld_core.specs.DraftRows.{with_allowance, with_item}
use Rattle.handheld_core.specs.DraftTexts.{is_known}
use Rattle.handheld_core.specs.declared.draft.Draft.{Draft}
use Rattle.handheld_core.specs.declared.drafts.TheConstants.{MOST_DRAFTS}
use Rattle.handheld_core.specs.declared.reading.OpenDraft.{OpenDraft}
use Rattle.handheld_core.specs.declared.reading.Part.{Part}
use Rattle.handheld_core.specs.declared.reading.Part.TheVariants as parts
use Rattle.handheld_core.specs.declared.reading.Stage.{Stage}
use Rattle.handheld_core.specs.declared.reading.Stage.TheVariants as stages

-- what was said so far: the drafts that are whole, and the part of the one that is not
pub record SoFar : Type 0 where
  pub done : List Draft
  pub part : Part

abbrev pub nothing : SoFar
nothing = record { done = []; part = parts.Between }

-- no draft has begun that is not whole
abbrev pub is_between : Part → Bool
is_between parts.Between = true
is_between (parts.Headed head) = false
is_between (parts.Signed head signature) = false
is_between (parts.Open open_draft) = false

-- A draft that has begun is of a delivery that no other draft is of, and there is room for it.
pub record IsBegun (head : BaseHead) (done : List Draft) : Type 0 where
  pub fresh : is_known head.number done ≡ false
  pub room : length done < MOST_DRAFTS

abbrev pub IsRightPart : Part → List Draft → Type 0
IsRightPart parts.Between done = Unit {0}
IsRightPart (parts.Headed head) done = IsBegun head done
IsRightPart (parts.Signed head signature) done = IsBegun head done
IsRightPart (parts.Open open_draft) done = IsBegun open_draft.head done

-- ---- the lines in front of the rows

-- the words of a G82, its number first
abbrev pub head_in : LineSeen → Result BaseHead DraftFault
head_in line = do
  number ← value_at line 1 (delivery_number_of (word_of_line line 1))
  flag ← value_at line 2 (flag_of (word_of_line line 2))
  day ← value_at line 3 (day_of (word_of_line line 3))
  receiver_duns ← value_at line 4 (word_of (word_of_line line 4))
  receiver_place ← value_at line 5 (word_of (word_of_line line 5))
  supplier_duns ← value_at line 6 (word_of (word_of_line line 6))
  supplier_place ← value_at line 7 (word_of (word_of_line line 7))
  Ok (record { flag = flag; number = number; day = day; receiver_duns = receiver_duns; receiver_place = receiver_place; supplier_duns = supplier_duns; supplier_place = supplier_place })

-- the head of a delivery that no other draft is of
abbrev pub begun : List Draft → LineSeen → Result SoFar DraftFault
begun done line = do
  head ← head_in line
  refused_if (is_known head.number done) line reasons.Twice (Ok (record { done = done; part = parts.Headed head }))

abbrev pub signed : List Draft → BaseHead → LineSeen → Result SoFar DraftFault
signed done head line = do
  signature ← signature_in line
  Ok (record { done = done; part = parts.Signed head signature })

-- a draft of which no row has come
abbrev pub opened : BaseHead → SignatureRecord → ℕ → OpenDraft
opened head signature tolerance = record {
  head = head;
  signature = signature;
  tolerance = tolerance;
  rows = record { extras = []; lines = [] };
  counters = [];
  stage = stages.Record;
}

abbrev pub tolerated : List Draft → BaseHead → SignatureRecord → LineSeen → Result SoFar DraftFault
tolerated done head signature line = do
  tolerance ← value_at line 1 (cents_of (word_of_line line 1))
  Ok (record { done = done; part = parts.Open (opened head signature tolerance) })

-- ---- the rows

abbrev pub going_on : List Draft → OpenDraft → SoFar
going_on done open_draft = record { done = done; part = parts.Open open_draft }

-- behind an item an allowance is of that item
abbrev pub is_in_line : Stage → Bool
is_in_line stages.Record = false
is_in_line stages.Item = true
is_in_line stages.Counter = true

abbrev pub with_counter : List Draft → OpenDraft → LineSeen → Result SoFar DraftFault
with_counter done open_draft line =
    unless (misplaced line (codes "COUNTER") 4) line (counts_with open_draft.counters line >>= λ counters. Ok (going_on done (record open_draft { counters = counters; stage = stages.Counter })))

abbrev pub one_item : List Draft → OpenDraft → LineSeen → Result SoFar DraftFault
one_item done open_draft line =
    unless (misplaced line (codes "ITEM") 6) line (with_item open_draft.rows line >>= λ rows. Ok (going_on done (record open_draft { rows = rows; stage = stages.Item })))

abbrev pub one_allowance : List Draft → OpenDraft → LineSeen → Result SoFar DraftFault
one_allowance done open_draft line =
    unless (misplaced line (codes "ALLOW") 5) line (with_allowance (is_in_line open_draft.stage) open_draft.rows line >>= λ rows. Ok (going_on done (record open_draft { rows = rows })))

-- the draft of a base record
abbrev pub draft_of : OpenDraft → BaseRecord → Draft
draft_of open_draft base = record { base = base; tolerance = open_draft.tolerance; counters = open_draft.counters }

-- the draft that is whole, where its rows have a price
abbrev pub priced : List Draft → OpenDraft → LineSeen → Result BaseRecord PriceFault → Result SoFar DraftFault
priced done open_draft line (Ok base) = Ok (record { done = done ++ draft_of open_draft base ∷ []; part = parts.Between })
priced done open_draft line (Err fault) = refused line reasons.Price

abbrev pub base_of : OpenDraft → Result BaseRecord PriceFault
base_of open_draft = unless_unpriced (totals_of open_draft.rows.lines open_draft.rows.extras) (record_made open_draft.head open_draft.rows.lines open_draft.rows.extras open_draft.signature)

abbrev pub with_end : List Draft → OpenDraft → LineSeen → Result SoFar DraftFault
with_end done open_draft line = unless (misplaced line (codes "END") 1) line (priced done open_draft line (base_of open_draft))

-- behind a counter neither item nor allowance stands
abbrev pub with_row : Stage → List Draft → OpenDraft → LineSeen → Result SoFar DraftFault
with_row stages.Record done open_draft line = if leads line (codes "ITEM") then one_item done open_draft line else one_allowance done open_draft line
with_row stages.Item done open_draft line = if leads line (codes "ITEM") then one_item done open_draft line else one_allowance done open_draft line
with_row stages.Counter done open_draft line = refused line reasons.Line

-- a line that is not the end of the draft
abbrev pub one_row : List Draft → OpenDraft → LineSeen → Result SoFar DraftFault
one_row done open_draft line = if leads line (codes "COUNTER") then with_counter done open_draft line else with_row open_draft.stage done open_draft line

abbrev pub in_rows : List Draft → OpenDraft → LineSeen → Result SoFar DraftFault
in_rows done open_draft line =
    if leads line (codes "COUNTER") then with_counter done open_draft line
    else (if leads line (codes "END") then with_end done open_draft line else with_row open_draft.stage done open_draft line)

-- ---- one more line

abbrev pub in_part : Part → List Draft → LineSeen → Result SoFar DraftFault
in_part parts.Between done line = unless (misplaced line (codes "DRAFT") 8) line (refused_if (nat_le MOST_DRAFTS (length done)) line reasons.Limit (begun done line))
in_part (parts.Headed head) done line = unless (misplaced line (codes "SIGN") 2) line (signed done head line)
in_part (parts.Signed head signature) done line = unless (misplaced line (codes "TOLERANCE") 2) line (tolerated done head signature line)
in_part (parts.Open open_draft) done line = in_rows done open_draft line

unfoldable pub draft_step : SoFar → LineSeen → Result SoFar DraftFault
draft_step so_far line = in_part so_far.part so_far.done line

-- ---- a whole text

-- the drafts, where the text does not end inside one
abbrev pub finished : ℕ → SoFar → Result (List Draft) DraftFault
finished end so_far = whole_at (is_between so_far.part) end so_far.done

abbrev pub drafts_in : LinesLeft → SoFar → Result (List Draft) DraftFault
drafts_in left so_far = said_in draft_step finished left so_far

-- the drafts that the text says, or its first refusal
abbrev pub drafts_of : List ℕ → Result (List Draft) DraftFault
drafts_of text = drafts_in (lines_in text) nothing
