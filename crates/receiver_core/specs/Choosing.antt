-- What a receiver does on a proposal, by what it counted (this project's profile).
use Rattle.std.specs.Prelude.{ℕ, Bool, ◌&&◌, ◌==◌, nat_le, List, [], ◌∷◌, ◌++◌, Option, Some, None, if◌then◌else◌}
use Rattle.std.specs.Option.{option_map}
use Rattle.dsd_values.specs.declared.line.Line.{Line}
use Rattle.transaction_set.specs.Reasons.{has_line}
use Rattle.dsd_record.specs.Choices.{Chooser}
use Rattle.dsd_record.specs.Version.{Version}
use Rattle.dsd_record.specs.declared.choice.Choice.{Choice}
use Rattle.dsd_record.specs.declared.choice.Choice.TheVariants.{Accept, Adjust, Wait}
use Rattle.plain_lines.specs.Counting.{counted_under, new_line, recounted}
use Rattle.plain_lines.specs.declared.counted.Counted.{Counted}
use Rattle.receiver_core.specs.CountTexts.{count_under}
use Rattle.receiver_core.specs.declared.count.Count.{Count}

-- ---- which lines differ

-- a line that was not counted has quantity 0, at its own cost
abbrev pub uncounted : Line → Line
uncounted line = record line { quantity = 0 }

abbrev pub is_as_counted : Counted → Line → Bool
is_as_counted counted line = (line.quantity == counted.quantity) && (line.cost == counted.cost)

-- a line of the record as it was counted, where it differs
abbrev pub change_of : Option Counted → Line → Option Line
change_of (Some counted) line = if is_as_counted counted line then None else Some (recounted counted line)
change_of None line = if line.quantity == 0 then None else Some (uncounted line)

abbrev pub with_change : Option Line → List Line → List Line
with_change (Some change) changes = change ∷ changes
with_change None changes = changes

-- those of the record that differ, in its order
abbrev pub differing : List Counted → List Line → List Line
differing counts [] = []
differing counts (line ∷ lines) = with_change (change_of (counted_under line.dsd counts) line) (differing counts lines)

-- those that were counted and are not in the record, in the order of the count
abbrev pub added : List Line → List Counted → List Line
added lines [] = []
added lines (counted ∷ counts) = if has_line counted.dsd lines then added lines counts else new_line counted ∷ added lines counts

abbrev pub changes_of : List Counted → List Line → List Line
changes_of counts lines = differing counts lines ++ added lines counts

-- ---- the choice

-- It is accepted where no line differs, and from level 2 on where counters are; at level 0 the lines that differ are adjusted.
abbrev pub choice_with : List Line → Bool → ℕ → Choice
choice_with [] counters level = Accept
choice_with (change ∷ changes) counters level =
    if counters && nat_le 2 level then Accept else (if level == 0 then Adjust (change ∷ changes) else Wait)

-- a delivery that was not counted waits
abbrev pub choice_by : Option Count → Version → Choice
choice_by (Some count) version = choice_with (changes_of count.lines version.lines) count.counters version.level
choice_by None version = Wait

-- the receiver with these counts: it proposes nothing
abbrev pub receiver : List Count → Chooser
receiver counts = record {
  drafts = [];
  choice = λ version own_amount. choice_by (count_under version.number counts) version;
  signature = λ number. option_map (λ (count : Count). count.signature) (count_under number counts);
}
