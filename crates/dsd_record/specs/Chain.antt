-- The proposals of a delivery in their order, and the version that they make.
use Rattle.std.specs.Prelude.{◌≡◌, ◌≢◌, ℕ, List, [], ◌∷◌, ◌++◌, length, Option, Some, Ok, option_map}
use Rattle.std.specs.List.{flat_map}
use Rattle.std.specs.Result.{result_ok}
use Rattle.dsd_pricing.specs.Pricing.{totals_of}
use Rattle.dsd_pricing.specs.declared.amounts.Totals.{Totals}
use Rattle.dsd_values.specs.declared.line.Line.{Line}
use Rattle.base_record_894.specs.BaseRecord.{BaseRecord}
use Rattle.adjustment_895.specs.AnswerRecord.{AnswerRecord}
use Rattle.dsd_record.specs.Applying.{Applies, adjusted, lines_after, stated_by}
use Rattle.dsd_record.specs.LineChanges.{changed}
use Rattle.dsd_record.specs.Version.{Version}

-- an adjustment with its own integrity value
pub record Adjusted : Type 0 where
  pub answer : AnswerRecord
  pub check : ℕ

-- a base record with its own integrity value, and adjustments
pub record Chain : Type 0 where
  pub base : BaseRecord
  pub check : ℕ
  pub adjustments : List Adjusted

-- a base record alone
abbrev pub chain_from : BaseRecord → ℕ → Chain
chain_from base check = record { base = base; check = check; adjustments = [] }

-- the chain with one more adjustment
abbrev pub with_adjusted : Chain → Adjusted → Chain
with_adjusted chain adjustment = record chain { adjustments = chain.adjustments ++ adjustment ∷ [] }

-- ---- the version that a chain makes

-- the lines of the base record, changed by those of each adjustment in turn
abbrev pub lines_of : Chain → List Line
lines_of chain = changed chain.base.lines (flat_map (λ (adjustment : Adjusted). adjustment.answer.lines) chain.adjustments)

-- the check of the last proposal
abbrev pub last_check : ℕ → List Adjusted → ℕ
last_check check [] = check
last_check check (adjustment ∷ more) = last_check adjustment.check more

-- the version, where its rows come to these totals
abbrev pub version_with : Chain → Totals → Version
version_with chain totals = record {
  flag = chain.base.flag;
  number = chain.base.number;
  day = chain.base.day;
  lines = lines_of chain;
  extras = chain.base.extras;
  totals = totals;
  level = length chain.adjustments;
  check = last_check chain.check chain.adjustments;
}

-- the version that the chain makes, where its rows have a price
abbrev pub version_of : Chain → Option Version
version_of chain = option_map (version_with chain) (result_ok (totals_of (lines_of chain) chain.base.extras))

-- ---- which lists of proposals are a chain

-- It adjusts this version, and the rows behind it have the price that it states.
pub record Follows (version : Version) (answer : AnswerRecord) : Type 0 where
  pub adjusts : answer.lines ≢ []
  pub applies : Applies version answer
  pub price : totals_of (lines_after version answer) version.extras ≡ Ok (stated_by answer)

-- each adjusts the version before it
abbrev pub FollowOn : Version → List Adjusted → Type 0
FollowOn version [] = Unit {0}
FollowOn version (adjustment ∷ more) = Follows version adjustment.answer × FollowOn (adjusted version adjustment.answer adjustment.check) more

-- The rows of the base record have a price, and the adjustments follow on the version that it makes.
pub record IsChained (chain : Chain) : Type 0 where
  pub totals : Totals
  pub price : totals_of chain.base.lines chain.base.extras ≡ Ok totals
  pub follow : FollowOn (version_with (chain_from chain.base chain.check) totals) chain.adjustments

-- Where the old version is that of a chain, the chain goes on with this adjustment, and the new version is that of both.
abbrev pub GoesOn : Version → Version → Adjusted → Type 0
GoesOn old new adjustment = (chain : Chain) → IsChained chain → version_of chain ≡ Some old → IsChained (with_adjusted chain adjustment) × (version_of (with_adjusted chain adjustment) ≡ Some new)
