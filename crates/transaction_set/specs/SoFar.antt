-- What the segments of a set say so far.
use Rattle.std.specs.Prelude.{ℕ, Bool, true, false, List, [], ◌∷◌, ◌++◌, Option, Some, None, if◌then◌else◌}
use Rattle.dsd_values.specs.Behind.{with_extra}
use Rattle.dsd_values.specs.declared.extra.Extra.{Extra}
use Rattle.dsd_values.specs.declared.line.Line.{Line}
use Rattle.dsd_values.specs.SignatureRecord.{SignatureRecord}
use Rattle.segments.specs.Views.{Seg}
use Rattle.transaction_set.specs.Extras.{extra_in}
use Rattle.segments.specs.Elements.{kept_text}
use Rattle.transaction_set.specs.Tables.{line_in, control_in, loop_id_in, totals_in, signature_in, integrity_in}
use Rattle.transaction_set.specs.declared.stated.StatedTotals.{StatedTotals}
use Rattle.transaction_set.specs.declared.kind.Kind.{Kind}
use Rattle.transaction_set.specs.declared.kind.Kind.TheVariants as kinds
use Rattle.transaction_set.specs.declared.phase.Phase.{Phase}
use Rattle.transaction_set.specs.declared.phase.Phase.TheVariants as phases

-- what may come next, how many segments there were, the check over their bytes, and what they stated
pub record SoFar : Type 0 where
  pub phase : Phase
  pub count : ℕ
  pub check : ℕ
  pub control : List ℕ
  pub references : List (List ℕ)
  pub loop_id : List ℕ
  pub lines : List Line
  -- those of the record; those of a line stand in it
  pub extras : List Extra
  pub totals : StatedTotals
  -- none where it has not come
  pub signature : Option SignatureRecord
  pub integrity : ℕ

-- before any has come
abbrev pub no_totals : StatedTotals
no_totals = record { quantity = 0; amount = 0; deposit = None }

-- no segment has come
abbrev pub nothing : SoFar
nothing = record {
  phase = phases.Start;
  count = 0;
  check = 0;
  control = [];
  references = [];
  loop_id = [];
  lines = [];
  extras = [];
  totals = no_totals;
  signature = None;
  integrity = 0;
}

-- behind an item
abbrev pub in_line : Phase → Bool
in_line phases.Items = true
in_line _ = false

-- ---- each field behind a segment of this kind: what it says, or what stood before

abbrev pub control_after : Kind → List ℕ → List ℕ → List ℕ
control_after kinds.Start new old = new
control_after _ new old = old

abbrev pub loop_id_after : Kind → List ℕ → List ℕ → List ℕ
loop_id_after kinds.LoopStart new old = new
loop_id_after _ new old = old

abbrev pub references_after : Kind → List ℕ → List (List ℕ) → List (List ℕ)
references_after kinds.Reference new old = old ++ new ∷ []
references_after _ new old = old

-- what stands behind an item belongs to the last line
abbrev pub lines_after : Kind → Bool → Line → Extra → List Line → List Line
lines_after kinds.Item in_line line extra old = old ++ line ∷ []
lines_after kinds.Allowance true line extra old = with_extra extra old
lines_after kinds.LineNote true line extra old = with_extra extra old
lines_after kinds.Note true line extra old = with_extra extra old
lines_after _ in_line line extra old = old

-- and elsewhere to the record
abbrev pub extras_after : Kind → Bool → Extra → List Extra → List Extra
extras_after kinds.Allowance false extra old = old ++ extra ∷ []
extras_after kinds.LineNote false extra old = old ++ extra ∷ []
extras_after kinds.Note false extra old = old ++ extra ∷ []
extras_after _ in_line extra old = old

abbrev pub totals_after : Kind → StatedTotals → StatedTotals → StatedTotals
totals_after kinds.Totals new old = new
totals_after _ new old = old

abbrev pub signature_after : Kind → SignatureRecord → Option SignatureRecord → Option SignatureRecord
signature_after kinds.Signature new old = Some new
signature_after _ new old = old

abbrev pub integrity_after : Kind → ℕ → ℕ → ℕ
integrity_after kinds.Integrity new old = new
integrity_after _ new old = old

-- what is said with one more segment of this kind, where phase, count and check become these
unfoldable pub kept : SoFar → Seg → Kind → Phase → ℕ → ℕ → SoFar
kept m seg kind phase count check = record {
  phase = phase;
  count = count;
  check = check;
  control = control_after kind (control_in seg) m.control;
  references = references_after kind (kept_text seg) m.references;
  loop_id = loop_id_after kind (loop_id_in seg) m.loop_id;
  lines = lines_after kind (in_line m.phase) (line_in seg) (extra_in kind seg) m.lines;
  extras = extras_after kind (in_line m.phase) (extra_in kind seg) m.extras;
  totals = totals_after kind (totals_in seg) m.totals;
  signature = signature_after kind (signature_in seg) m.signature;
  integrity = integrity_after kind (integrity_in seg) m.integrity;
}

-- the same, with one more line
abbrev pub with_line : Line → SoFar → SoFar
with_line line m = record m { lines = m.lines ++ line ∷ [] }

-- the same, with one more extra behind the last line or at record level
abbrev pub with_beside : Extra → SoFar → SoFar
with_beside extra m = record m {
  lines = if in_line m.phase then with_extra extra m.lines else m.lines;
  extras = if in_line m.phase then m.extras else m.extras ++ extra ∷ [];
}

-- the same, moved on
unfoldable pub moved : SoFar → Phase → ℕ → ℕ → SoFar
moved m phase count check = record {
  phase = phase;
  count = count;
  check = check;
  control = m.control;
  references = m.references;
  loop_id = m.loop_id;
  lines = m.lines;
  extras = m.extras;
  totals = m.totals;
  signature = m.signature;
  integrity = m.integrity;
}

-- where no phase follows, the segment is refused, and this one is asked of nothing
abbrev pub phase_in : Option Phase → Phase
phase_in (Some phase) = phase
phase_in None = phases.Start
