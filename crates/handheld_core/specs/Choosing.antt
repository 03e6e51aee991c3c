-- What a supplier does on a proposal, by its drafts (this project's profile).
use Rattle.std.specs.Prelude.{ℕ, ◌+◌, Bool, ◌&&◌, ◌==◌, nat_le, List, [], ◌∷◌, map, Option, Some, None, if◌then◌else◌}
use Rattle.std.specs.Option.{option_map}
use Rattle.dsd_values.specs.declared.line.Line.{Line}
use Rattle.dsd_record.specs.Choices.{Chooser}
use Rattle.dsd_record.specs.LineChanges.{line_under}
use Rattle.dsd_record.specs.Version.{Version}
use Rattle.dsd_record.specs.declared.choice.Choice.{Choice}
use Rattle.dsd_record.specs.declared.choice.Choice.TheVariants.{Accept, Adjust, Wait}
use Rattle.plain_lines.specs.Counting.{new_line, recounted}
use Rattle.plain_lines.specs.declared.counted.Counted.{Counted}
use Rattle.handheld_core.specs.DraftTexts.{draft_under}
use Rattle.handheld_core.specs.declared.draft.Draft.{Draft}

-- two amounts differ by at most the tolerance
abbrev pub is_within : ℕ → ℕ → ℕ → Bool
is_within tolerance own other = nat_le own (other + tolerance) && nat_le other (own + tolerance)

-- a line of the proposal with the countered quantity and cost, or else a new one
abbrev pub counter_by : Option Line → Counted → Line
counter_by (Some line) counted = recounted counted line
counter_by None counted = new_line counted

-- all counters, in their order, whether they change the proposal or not
abbrev pub countered : List Line → List Counted → List Line
countered lines counters = map (λ (counted : Counted). counter_by (line_under counted.dsd lines) counted) counters

-- at level 1 a proposal is countered, where there are counters
abbrev pub counter_at : ℕ → List Line → List Counted → Choice
counter_at level lines [] = Wait
counter_at level lines (counted ∷ counters) = if level == 1 then Adjust (countered lines (counted ∷ counters)) else Wait

abbrev pub choice_by_amount : Draft → Version → ℕ → Choice
choice_by_amount draft version own = if is_within draft.tolerance own version.totals.amount then Accept else counter_at version.level version.lines draft.counters

-- It waits without a draft, and without a proposal of its own.
abbrev pub choice_by : Option Draft → Version → Option ℕ → Choice
choice_by (Some draft) version (Some own) = choice_by_amount draft version own
choice_by (Some draft) version None = Wait
choice_by None version own = Wait

-- the supplier with these drafts
abbrev pub supplier : List Draft → Chooser
supplier drafts = record {
  drafts = map (λ (draft : Draft). draft.base) drafts;
  choice = λ version own_amount. choice_by (draft_under version.number drafts) version own_amount;
  signature = λ number. option_map (λ (draft : Draft). draft.base.signature) (draft_under number drafts);
}
