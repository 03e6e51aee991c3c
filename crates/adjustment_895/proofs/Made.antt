-- What an answer is made of makes one: the rows that are written of it are segments that say it.
use Rattle.std.proofs.Common.{ℕ, ◌≤◌, false, List, [], length, refl, arith}
use Rattle.std.proofs.lemmas.List.Elements.{All-weaker}
use Rattle.dsd_pricing.specs.declared.amounts.Totals.{Totals}
use Rattle.dsd_values.specs.SignatureRecord.{IsSignature, SignatureRecord}
use Rattle.dsd_values.specs.declared.cents.TheConstants.Cents.{MAX as MOST_CENTS}
use Rattle.dsd_values.specs.declared.level.TheConstants.Level.{MAX as HIGHEST}
use Rattle.dsd_values.specs.declared.limits.TheConstants.{MOST_LINES}
use Rattle.dsd_values.specs.declared.line.Line.{Line}
use Rattle.dsd_values.specs.declared.quantity.TheConstants.{MOST_TOTAL_QUANTITY}
use Rattle.dsd_values.proofs.Again.{check_again, flag_again}
use Rattle.transaction_set.specs.Extras.{HasExtras}
use Rattle.transaction_set.specs.Grammar.{Shared}
use Rattle.transaction_set.specs.SetWriting.{control_text}
use Rattle.transaction_set.specs.SoundLines.{AreSoundLines, IsSoundLine}
use Rattle.transaction_set.specs.declared.kind.Form.TheVariants as forms
use Rattle.transaction_set.specs.declared.seal.Seal.{Seal}
use Rattle.transaction_set.proofs.Making.{made, set_lines}
use Rattle.transaction_set.proofs.Plain.{delivery_number_plain, signature_plain, totals_plain}
use Rattle.transaction_set.proofs.Sounding.{HasFew, line_behind, no_extras, number_plain, said_all, word_plain}
use Rattle.adjustment_895.specs.AnswerRecord.{AnswerRecord}
use Rattle.adjustment_895.specs.AnswerText.{IsAnswer}
use Rattle.adjustment_895.specs.Grammar.{IsHead, IsLevelled, notes, shared_of}
use Rattle.adjustment_895.specs.Making.{IsPlainHead, answer_made}
use Rattle.adjustment_895.specs.WrittenText.{head_row}
use Rattle.adjustment_895.specs.declared.head.AnswerHead.{AnswerHead}
use Rattle.adjustment_895.proofs.WrittenBack.{HeadElements, head_written, role_again}

head_plain : (head : AnswerHead) (lines : List Line) (totals : Totals) (signature : SignatureRecord) → IsPlainHead head → HeadElements (answer_made head lines totals signature)
head_plain head lines totals signature is = record {
  role = role_again head.role;
  flag = flag_again head.flag;
  number = delivery_number_plain head.number is.number;
  check = check_again head.check is.check;
  level = number_plain 0 HIGHEST head.level (omega arith) (omega arith) is.level;
  receiver_number = word_plain head.receiver_number is.receiver_number;
}

pub made_answer : (head : AnswerHead) (lines : List Line) (totals : Totals) (signature : SignatureRecord) → IsPlainHead head → AreSoundLines lines → length lines ≤ MOST_LINES → IsLevelled lines head.level
    → totals.quantity ≤ MOST_TOTAL_QUANTITY → totals.amount ≤ MOST_CENTS → IsSignature signature → IsAnswer (answer_made head lines totals signature)
made_answer head lines totals signature is sound few levelled quantity amount signed =
    let answer : AnswerRecord = answer_made head lines totals signature in
    let none : Seal = record { control = []; check = 0 } in
    let shared : Shared = shared_of answer none in
    let each = All-weaker IsSoundLine HasFew (λ line s. s.extras.few) lines sound.sound in
    let m = made forms.Answer 1 (omega arith) (IsHead answer) (head_row answer) refl (head_written answer (head_plain head lines totals signature is)) [] lines [] shared
    (record {
      references = tt;
      lines_said = said_all lines sound.sound;
      beside = tt;
      totals_said = totals_plain totals.quantity totals.amount quantity amount;
      signature_said = signature_plain signature signed;
    })
    (record { references = omega arith; lines_few = few; few = record { behind = each; beside = omega arith } }) in
    record {
      seal = record { control = control_text 1; check = m.check };
      segments = m.segments;
      spelled = m.long;
      shape = m.shape;
      sound = record { apart = sound.apart; limit = few; behind = All-weaker IsSoundLine HasExtras line_behind lines sound.sound; beside = (no_extras false).limit };
      levelled = levelled;
      few = record { behind = each; beside = omega arith };
    }

-- the lines of an answer are sound
pub answer_lines : (answer : AnswerRecord) → IsAnswer answer → AreSoundLines answer.lines
answer_lines answer is =
    set_lines forms.Answer is.seal.control (IsHead answer) (notes answer.note) answer.lines [] (shared_of answer is.seal) is.segments is.shape is.spelled is.sound is.few
