-- What the lines of a set keep while they are read: which DSD numbers they have, and what stands behind them.
use Rattle.std.specs.Prelude.{◌≡◌, ℕ, ◌<◌, ◌≤◌, Bool, false, List, length, get_or, All}
use Rattle.dsd_values.specs.declared.extra.Extra.{Extra}
use Rattle.dsd_values.specs.declared.extra.Extra.TheVariants.{Allow, Note}
use Rattle.dsd_values.specs.declared.line.Line.{Line}
use Rattle.dsd_values.specs.declared.limits.TheConstants.{MOST_ALLOWANCES, MOST_LINES}
use Rattle.transaction_set.specs.Extras.{HasExtras, allowances}
use Rattle.transaction_set.specs.Reasons.{has_line}

-- at each number: whether a line has it; none has one past the end
pub record IsTable (lines : List Line) (stands : List Bool) : Type 0 where
  pub few : length lines ≤ MOST_LINES
  pub behind : All HasExtras lines
  pub tells : (dsd : ℕ) → get_or stands dsd false ≡ has_line dsd lines

-- one more allowance may stand beside these, and a note always
abbrev pub HasRoom : Extra → List Extra → Type 0
HasRoom (Allow allowance) extras = allowances extras < MOST_ALLOWANCES
HasRoom (Note text) extras = Unit {0}
