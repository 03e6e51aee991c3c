-- What a version of a delivery is: what both ends agree on after the base record and some adjustments.
use Rattle.std.specs.Prelude.{◌≡◌, ℕ, List, All, Ok}
use Rattle.dsd_pricing.specs.Pricing.{totals_of}
use Rattle.dsd_pricing.specs.declared.amounts.Totals.{Totals}
use Rattle.dsd_values.specs.Calendar.{Date}
use Rattle.dsd_values.specs.declared.extra.Extra.{Extra}
use Rattle.dsd_values.specs.declared.flag.Flag.{Flag}
use Rattle.dsd_values.specs.declared.line.Line.{Line}
use Rattle.transaction_set.specs.Grammar.{IsSound}
use Rattle.transaction_set.specs.SoundLines.{IsSoundLine}

pub record Version : Type 0 where
  pub flag : Flag
  pub number : List ℕ
  pub day : Date
  pub lines : List Line
  -- those of the record itself
  pub extras : List Extra
  pub totals : Totals
  pub level : ℕ
  -- the integrity value of the set that made it
  pub check : ℕ

-- the rows of a version are such as sets may state, and its totals are what they come to
pub record IsVersion (version : Version) : Type 0 where
  pub sound : IsSound version.lines version.extras
  pub each : All IsSoundLine version.lines
  pub price : totals_of version.lines version.extras ≡ Ok version.totals
