-- The base record of a draft.
use Rattle.std.proofs.Common.{◌≡◌, List, Result, Ok, Err, ap, ◌∙◌}
use Rattle.dsd_pricing.specs.Pricing.{totals_of}
use Rattle.dsd_pricing.specs.declared.amounts.Totals.{Totals}
use Rattle.dsd_pricing.specs.declared.fault.PriceFault.{PriceFault}
use Rattle.dsd_values.specs.declared.extra.Extra.{Extra}
use Rattle.dsd_values.specs.declared.line.Line.{Line}
use Rattle.base_record_894.specs.BaseRecord.{BaseRecord}
use Rattle.base_record_894.specs.Making.{record_made, unless_unpriced}
use Rattle.handheld_core.specs.Reading.{base_of}
use Rattle.handheld_core.specs.declared.reading.OpenDraft.{OpenDraft}

pub made_of : (draft : OpenDraft) (extras : List Extra) (lines : List Line) (made : Result BaseRecord PriceFault) → extras ≡ draft.rows.extras → lines ≡ draft.rows.lines
    → made ≡ unless_unpriced (totals_of lines extras) (record_made draft.head lines extras draft.signature) → made ≡ base_of draft
made_of draft extras lines made same_extras same_lines is =
    is ∙ ap (λ (es : List Extra). unless_unpriced (totals_of lines es) (record_made draft.head lines es draft.signature)) same_extras
    ∙ ap (λ (ls : List Line). unless_unpriced (totals_of ls draft.rows.extras) (record_made draft.head ls draft.rows.extras draft.signature)) same_lines

number_by : (t : Result Totals PriceFault) (made base : BaseRecord) → unless_unpriced t made ≡ Ok base → made.number ≡ base.number
number_by (Ok totals) made base e = let same : made ≡ base = cc (e) in ap (λ (b : BaseRecord). b.number) same
number_by (Err fault) made base e = cc (e)

pub number_made : (draft : OpenDraft) (base : BaseRecord) → base_of draft ≡ Ok base → draft.head.number ≡ base.number
number_made draft base e = number_by (totals_of draft.rows.lines draft.rows.extras) (record_made draft.head draft.rows.lines draft.rows.extras draft.signature) base e
