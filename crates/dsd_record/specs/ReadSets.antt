-- The set that a text is, as a function: what its segments say, where it has no refusal. `IsSet` is what it means.
use Rattle.std.specs.Prelude.{ℕ, if◌then◌else◌, List, Option, Some, None}
use Rattle.dsd_values.specs.SignatureRecord.{SignatureRecord}
use Rattle.transaction_set.specs.Refusal.{Refusal, said_by}
use Rattle.segments.specs.SegmentCut.{cut_of}
use Rattle.transaction_set.specs.SoFar.{SoFar}
use Rattle.transaction_set.specs.declared.kind.Form.TheVariants as forms
use Rattle.transaction_set.specs.declared.seal.Seal.{Seal}
use Rattle.base_record_894.specs.BaseRecord.{BaseRecord}
use Rattle.base_record_894.specs.FirstRefusal.{judged as base_judged}
use Rattle.base_record_894.specs.Said.{Said as SaidBase, nothing as no_base}
use Rattle.base_record_894.specs.declared.head.Head.{Head as BaseHead}
use Rattle.adjustment_895.specs.AnswerRecord.{AnswerRecord}
use Rattle.adjustment_895.specs.FirstRefusal.{judged as answer_judged}
use Rattle.adjustment_895.specs.ReadParts.{first_note}
use Rattle.adjustment_895.specs.Said.{Said as SaidAnswer, nothing as no_answer}
use Rattle.adjustment_895.specs.declared.head.AnswerHead.{AnswerHead}
use Rattle.dsd_record.specs.SetTexts.{begins_as, set_refusal}
use Rattle.dsd_record.specs.declared.set_view.SetView.{SetView}
use Rattle.dsd_record.specs.declared.set_view.SetView.TheVariants as sets

-- ---- what segments say

-- what ties the value to its text
abbrev pub seal_said : SoFar → Seal
seal_said m = record { control = m.control; check = m.integrity }

-- the base record with this head and signature
abbrev pub base_with : BaseHead → SignatureRecord → SoFar → BaseRecord
base_with head signature m = record {
  flag = head.flag;
  number = head.number;
  day = head.day;
  receiver_duns = head.receiver_duns;
  receiver_place = head.receiver_place;
  supplier_duns = head.supplier_duns;
  supplier_place = head.supplier_place;
  tail = head.tail;
  references = m.references;
  lines = m.lines;
  extras = m.extras;
  deposit = m.totals.deposit;
  signature = signature;
}

-- the answer with this head and signature
abbrev pub answer_with : AnswerHead → SignatureRecord → SoFar → AnswerRecord
answer_with head signature m = record {
  role = head.role;
  flag = head.flag;
  number = head.number;
  check = head.check;
  level = head.level;
  receiver_number = head.receiver_number;
  note = first_note m.references;
  lines = m.lines;
  quantity = m.totals.quantity;
  amount = m.totals.amount;
  deposit = m.totals.deposit;
  signature = signature;
}

-- the base record that was said, where a head and a signature came
abbrev pub base_said : Option BaseHead → Option SignatureRecord → SoFar → Option SetView
base_said (Some head) (Some signature) m = Some (sets.Base (base_with head signature m) (seal_said m))
base_said (Some head) None m = None
base_said None signature m = None

-- the answer that was said, where a head and a signature came
abbrev pub answer_said : Option AnswerHead → Option SignatureRecord → SoFar → Option SetView
answer_said (Some head) (Some signature) m = Some (sets.Answer (answer_with head signature m) (seal_said m))
answer_said (Some head) None m = None
answer_said None signature m = None

abbrev pub read_base : SaidBase → Option SetView
read_base m = base_said m.head m.course.signature m.course

abbrev pub read_answer : SaidAnswer → Option SetView
read_answer m = answer_said m.head m.course.signature m.course

-- what all segments of the text say, as the set that it begins as
abbrev pub said_in : List ℕ → Option SetView
said_in text =
    if begins_as forms.Answer text then read_answer (said_by answer_judged no_answer (cut_of text).segments)
    else read_base (said_by base_judged no_base (cut_of text).segments)

-- ---- the set of a text

abbrev pub unless_refused : Option Refusal → Option SetView → Option SetView
unless_refused None set = set
unless_refused (Some refusal) set = None

-- the set that the text is, where it is one
unfoldable pub set_in : List ℕ → Option SetView
set_in text = unless_refused (set_refusal text) (said_in text)
