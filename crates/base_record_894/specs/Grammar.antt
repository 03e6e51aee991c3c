-- Which lists of segments are a base record (this project's profile): ST, G82, any N9, a loop of items where there are lines,
-- any G72 and G23, G84, G86, G85, SE. An element spells a field where its reader answers that field.
use Rattle.std.specs.Prelude.{◌≡◌, ℕ, List, [], Ok}
use Rattle.dsd_values.specs.Calendar.{day_of}
use Rattle.dsd_values.specs.Reading.{flag_of, delivery_number_of, word_of}
use Rattle.dsd_pricing.specs.Pricing.{quantities}
use Rattle.dsd_values.specs.declared.extra.Extra.{Extra}
use Rattle.dsd_values.specs.declared.line.Line.{Line}
use Rattle.segments.specs.Views.{Seg, element_of}
use Rattle.segments.specs.Elements.{tail_from}
use Rattle.transaction_set.specs.Grammar.{Shape, Shared, One, IsStart, BehindHead}
use Rattle.transaction_set.specs.declared.kind.Form.TheVariants as forms
use Rattle.transaction_set.specs.declared.kind.Kind.TheVariants as kinds
use Rattle.transaction_set.specs.declared.seal.Seal.{Seal}
use Rattle.base_record_894.specs.BaseRecord.{BaseRecord}

-- G82: each element is a spelling of the field that stands beside it
pub record IsHead (base : BaseRecord) (seg : Seg) : Type 0 where
  pub flag : flag_of (element_of seg 1) ≡ Ok base.flag
  pub number : delivery_number_of (element_of seg 2) ≡ Ok base.number
  pub receiver_duns : word_of (element_of seg 3) ≡ Ok base.receiver_duns
  pub receiver_place : word_of (element_of seg 4) ≡ Ok base.receiver_place
  pub supplier_duns : word_of (element_of seg 5) ≡ Ok base.supplier_duns
  pub supplier_place : word_of (element_of seg 6) ≡ Ok base.supplier_place
  pub day : day_of (element_of seg 7) ≡ Ok base.day
  pub tail : tail_from 8 seg ≡ base.tail

-- what stands behind the head; the totals state the sum of the quantities, and this amount
abbrev pub shared_of : BaseRecord → Seal → ℕ → Shared
shared_of base seal amount = record {
  control = seal.control;
  references = base.references;
  lines = base.lines;
  extras = base.extras;
  totals = record { quantity = quantities base.lines; amount = amount; deposit = base.deposit };
  signature = base.signature;
  check = seal.check;
}

-- G82, then these references, lines and extras, and the closing
abbrev pub FromHead : List (List ℕ) → List Line → List Extra → BaseRecord → Seal → ℕ → Shape
FromHead texts lines extras base seal amount = One forms.Base kinds.Head (λ _ seg. IsHead base seg) (BehindHead forms.Base texts lines extras (shared_of base seal amount))

-- ST, then all of these
abbrev pub FromStart : List (List ℕ) → List Line → List Extra → BaseRecord → Seal → ℕ → Shape
FromStart texts lines extras base seal amount = One forms.Base kinds.Start (λ _ seg. IsStart seal.control seg) (FromHead texts lines extras base seal amount)

-- the segments of this record, which is sealed so and states this amount
abbrev pub AreSegments : BaseRecord → Seal → ℕ → List Seg → Type 0
AreSegments base seal amount segs = FromStart base.references base.lines base.extras base seal amount [] segs
