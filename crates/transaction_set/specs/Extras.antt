-- What stands behind an item or at record level: allowances and notes, and the texts that are kept as they came (this project's
-- profile).
use Rattle.std.specs.Prelude.{◌≡◌, ◌≤◌, ℕ, Bool, true, false, List, All}
use Rattle.std.specs.List.{count_by}
use Rattle.dsd_values.specs.declared.extra.Extra.{Extra}
use Rattle.dsd_values.specs.declared.extra.Extra.TheVariants.{Allow, Note}
use Rattle.dsd_values.specs.declared.limits.TheConstants.{MOST_ALLOWANCES}
use Rattle.dsd_values.specs.declared.line.Line.{Line}
use Rattle.segments.specs.Views.{Seg}
use Rattle.segments.specs.Elements.{kept_text}
use Rattle.transaction_set.specs.Allowances.{HasSize, IsAllowance, allowance_in}
use Rattle.transaction_set.specs.declared.kind.Kind.{Kind}
use Rattle.transaction_set.specs.declared.kind.Kind.TheVariants as kinds

-- G22 is a note of a line, G23 one of a line or of the record
abbrev pub is_note : Bool → Kind → Bool
is_note in_line kinds.Note = true
is_note in_line kinds.LineNote = in_line
is_note in_line _ = false

-- the segment says this extra, in a line or at record level
abbrev pub IsExtra : Bool → Extra → Kind → Seg → Type 0
IsExtra in_line (Allow allowance) kind seg = (kind ≡ kinds.Allowance) × IsAllowance in_line allowance seg
IsExtra in_line (Note text) kind seg = (is_note in_line kind ≡ true) × (kept_text seg ≡ text)

-- the extra of a segment of this kind
abbrev pub extra_in : Kind → Seg → Extra
extra_in kinds.Allowance seg = Allow (allowance_in seg)
extra_in _ seg = Note (kept_text seg)

-- how many of these extras are allowances
abbrev pub is_allowance : Extra → Bool
is_allowance (Allow allowance) = true
is_allowance (Note text) = false

abbrev pub allowances : List Extra → ℕ
allowances extras = count_by is_allowance extras

-- ---- what holds of extras that were read

-- an allowance that changes a price has a size
abbrev pub IsSized : Bool → Extra → Type 0
IsSized in_line (Allow allowance) = HasSize in_line allowance
IsSized in_line (Note text) = Unit {0}

-- each has one where it has to, and they are no more allowances than may stand there
pub record AreExtras (in_line : Bool) (extras : List Extra) : Type 0 where
  pub sized : All (IsSized in_line) extras
  pub few : allowances extras ≤ MOST_ALLOWANCES

-- what stands behind a line
abbrev pub HasExtras : Line → Type 0
HasExtras line = AreExtras true line.extras
