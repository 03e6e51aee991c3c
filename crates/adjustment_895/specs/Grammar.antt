-- Which lists of segments are an answer (this project's profile): ST, G87, at most one G88, a loop of items where there are lines,
-- G84, G86, G85, SE. An element spells a field where its reader answers that field.
use Rattle.std.specs.Prelude.{◌≡◌, ◌<◌, ℕ, Bool, true, false, List, [], ◌∷◌, Ok, Option, Some, None}
use Rattle.dsd_values.specs.Reading.{role_of, flag_of, delivery_number_of, check_of, level_of, word_of}
use Rattle.dsd_values.specs.declared.extra.Extra.{Extra}
use Rattle.dsd_values.specs.declared.line.Line.{Line}
use Rattle.segments.specs.Views.{Seg, element_of}
use Rattle.transaction_set.specs.Grammar.{Shape, Shared, One, IsStart, IsNoLonger, BehindHead}
use Rattle.transaction_set.specs.declared.kind.Form.TheVariants as forms
use Rattle.transaction_set.specs.declared.kind.Kind.TheVariants as kinds
use Rattle.transaction_set.specs.declared.seal.Seal.{Seal}
use Rattle.adjustment_895.specs.AnswerRecord.{AnswerRecord}

-- G87: each element is a spelling of the field that stands beside it
pub record IsHead (answer : AnswerRecord) (seg : Seg) : Type 0 where
  pub role : role_of (element_of seg 1) ≡ Ok answer.role
  pub flag : flag_of (element_of seg 2) ≡ Ok answer.flag
  pub number : delivery_number_of (element_of seg 3) ≡ Ok answer.number
  pub check : check_of (element_of seg 4) ≡ Ok answer.check
  pub level : level_of (element_of seg 5) ≡ Ok answer.level
  pub receiver_number : word_of (element_of seg 6) ≡ Ok answer.receiver_number
  pub ends : IsNoLonger 6 seg

-- G88 is kept as it came, where there is one
abbrev pub notes : Option (List ℕ) → List (List ℕ)
notes (Some text) = text ∷ []
notes None = []

-- what stands behind the head; the totals are those that the answer states
abbrev pub shared_of : AnswerRecord → Seal → Shared
shared_of answer seal = record {
  control = seal.control;
  references = notes answer.note;
  lines = answer.lines;
  extras = [];
  totals = record { quantity = answer.quantity; amount = answer.amount; deposit = answer.deposit };
  signature = answer.signature;
  check = seal.check;
}

-- G87, then these references, lines and extras, and the closing
abbrev pub FromHead : List (List ℕ) → List Line → List Extra → AnswerRecord → Seal → Shape
FromHead texts lines extras answer seal = One forms.Answer kinds.Head (λ _ seg. IsHead answer seg) (BehindHead forms.Answer texts lines extras (shared_of answer seal))

-- ST, then all of these
abbrev pub FromStart : List (List ℕ) → List Line → List Extra → AnswerRecord → Seal → Shape
FromStart texts lines extras answer seal = One forms.Answer kinds.Start (λ _ seg. IsStart seal.control seg) (FromHead texts lines extras answer seal)

-- the segments of this answer, which is sealed so
abbrev pub AreSegments : AnswerRecord → Seal → List Seg → Type 0
AreSegments answer seal segs = FromStart (notes answer.note) answer.lines [] answer seal [] segs

-- an answer with lines is an adjustment, whose own level is at least 1
abbrev pub IsLevelled : List Line → ℕ → Type 0
IsLevelled [] level = Unit {0}
IsLevelled (line ∷ lines) level = 0 < level

-- an answer without lines is an acknowledgement
abbrev pub has_none : List Line → Bool
has_none [] = true
has_none (line ∷ lines) = false
