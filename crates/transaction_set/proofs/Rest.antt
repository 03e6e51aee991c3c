-- What is left of a set, by what was said so far: the grammar from each phase on, and what of the value was said.
use Rattle.std.proofs.Common.{◌≡◌, ℕ, true, List, [], ◌∷◌, ◌++◌, length, Some}
use Rattle.block_check.specs.Crc16.{crc_of}
use Rattle.dsd_values.specs.declared.extra.Extra.{Extra}
use Rattle.dsd_values.specs.declared.line.Line.{Line}
use Rattle.segments.specs.Views.{Seg}
use Rattle.transaction_set.specs.SoFar.{SoFar}
use Rattle.transaction_set.specs.Grammar.{Shape, Shared, Trailer, Integrity, Signed, Closing, Extras, Items, LoopEnd, Record, Body, BehindHead, bytes_of}
use Rattle.transaction_set.specs.declared.kind.Form.{Form}
use Rattle.transaction_set.specs.declared.phase.Phase.{Phase}
use Rattle.transaction_set.specs.declared.phase.Phase.TheVariants as phases
use Rattle.transaction_set.proofs.Behind.{with_extras}

-- ---- what was said, and what is left of it

-- the references, the lines with these extras behind the last one, and the extras of the record
abbrev pub Left : SoFar → Shared → List (List ℕ) → List Extra → List Line → List Extra → Type 0
Left m t texts inside lines beside =
    (t.references ≡ m.references ++ texts) × (t.lines ≡ with_extras inside m.lines ++ lines) × (t.extras ≡ m.extras ++ beside) × (t.control ≡ m.control)

-- all of them
abbrev pub Read : SoFar → Shared → Type 0
Read m t = (t.references ≡ m.references) × (t.lines ≡ m.lines) × (t.extras ≡ m.extras) × (t.control ≡ m.control)

-- ---- from each phase on

-- the extras of the record, and the closing
abbrev pub Ending : Form → List Extra → Shared → Shape
Ending form beside t = Record form beside (Closing form t)

-- LE, and what follows the loop
abbrev pub AfterItems : Form → SoFar → List Extra → Shared → Shape
AfterItems form m beside t = LoopEnd form m.loop_id (Ending form beside t)

abbrev pub RestAt : Phase → Form → SoFar → Shared → Shape
RestAt phases.Start form m t before segs = ⊥
RestAt phases.Head form m t before segs = ⊥
RestAt phases.References form m t before segs = (texts : List (List ℕ)) × (lines : List Line) × (beside : List Extra)
    × Left m t texts [] lines beside × BehindHead form texts lines beside t before segs
RestAt phases.Body form m t before segs = (lines : List Line) × (beside : List Extra)
    × Left m t [] [] lines beside × Body form lines beside t before segs
RestAt phases.FirstItem form m t before segs = (line : Line) × (lines : List Line) × (beside : List Extra)
    × Left m t [] [] (line ∷ lines) beside × Items form (line ∷ lines) (AfterItems form m beside t) before segs
RestAt phases.Items form m t before segs = (inside : List Extra) × (lines : List Line) × (beside : List Extra)
    × Left m t [] inside lines beside × Extras true form inside (Items form lines (AfterItems form m beside t)) before segs
RestAt phases.Extras form m t before segs = (beside : List Extra)
    × Left m t [] [] [] beside × Ending form beside t before segs
RestAt phases.Signature form m t before segs = Read m t × (t.totals ≡ m.totals) × Signed form t before segs
RestAt phases.Integrity form m t before segs = Read m t × (t.totals ≡ m.totals) × (Some t.signature ≡ m.signature) × Integrity form t before segs
RestAt phases.Trailer form m t before segs = Read m t × (t.totals ≡ m.totals) × (Some t.signature ≡ m.signature) × (t.check ≡ m.integrity) × Trailer form t before segs
RestAt phases.Done form m t before segs = Read m t × (t.totals ≡ m.totals) × (Some t.signature ≡ m.signature) × (t.check ≡ m.integrity) × (segs ≡ [])

-- the running values are those of the segments before
abbrev pub IsAt : List Seg → SoFar → Type 0
IsAt before m = (m.count ≡ length before) × (m.check ≡ crc_of (bytes_of before))
