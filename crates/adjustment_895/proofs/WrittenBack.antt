-- The rows that are written of an answer are a text of that answer.
use Rattle.std.proofs.Common.{◌≡◌, ℕ, ◌^◌, ◌<◌, ◌≤◌, inl, inr, List, [], ◌∷◌, length, codes, None, Some, Option, Ok, refl, ap, subst, arith}
use Rattle.std.specs.Prelude.{MatchOption}
use Rattle.std.specs.Char.{digit_value}
use Rattle.std.specs.List.{All}
use Rattle.std.specs.Str.Parse.{AllDigits, digits_value}
use Rattle.std.proofs.lemmas.Bool.Decides.{nat_tests}
use Rattle.std.proofs.lemmas.Int.Digits.{digits_value-lt}
use Rattle.std.proofs.lemmas.List.Elements.{All-head, All-tail}
use Rattle.dsd_pricing.specs.WholeText.{unless_too_long}
use Rattle.dsd_pricing.proofs.WholeTexts.{text_is, whole_is}
use Rattle.dsd_values.specs.Reading.{check_of, delivery_number_of, flag_of, level_of, role_of, word_of}
use Rattle.dsd_values.specs.Spelling.{IsCheckDigit, flag_text, role_text}
use Rattle.dsd_values.specs.Writing.{check_text, number_text}
use Rattle.dsd_values.specs.declared.limits.TheConstants.{SET_BYTES}
use Rattle.dsd_values.specs.declared.role.Role.{Role}
use Rattle.dsd_values.specs.declared.role.Role.TheVariants.{Receiver, Supplier}
use Rattle.dsd_values.proofs.Again.{IsReadAs, check_again, delivery_number_again, flag_again, number_again, word_again}
use Rattle.dsd_values.proofs.Laws.{check_of_spelled}
use Rattle.segments.specs.Views.{Seg, element_of}
use Rattle.transaction_set.specs.RowsWritten.{first_long}
use Rattle.segments.specs.SegmentSpelling.{IsSegment}
use Rattle.segments.specs.SegmentWriting.{segments_of, text_of}
use Rattle.transaction_set.specs.SetWriting.{control_text, start_row}
use Rattle.transaction_set.specs.declared.kind.Form.TheVariants as forms
use Rattle.segments.specs.declared.segment_writer.TheConstants.{MOST_CONTROL_NUMBER}
use Rattle.transaction_set.proofs.PartedTexts.{no_tail}
use Rattle.transaction_set.proofs.RowsSay.{SaysAgain, no_longer, reads_at, row_segment}
use Rattle.transaction_set.proofs.RowsShape.{IsSealable}
use Rattle.transaction_set.proofs.SetRows.{AreAsked, are_asked, are_long, are_sealed, set_reshaped}
use Rattle.transaction_set.proofs.Tells.{IsLong}
use Rattle.transaction_set.proofs.WrittenSets.{written_set}
use Rattle.segments.specs.SetUnits.{IsSetText}
use Rattle.adjustment_895.specs.AnswerRecord.{AnswerRecord}
use Rattle.adjustment_895.specs.AnswerText.{Is895, IsAnswer}
use Rattle.adjustment_895.specs.Grammar.{AreSegments, IsHead, notes, shared_of}
use Rattle.adjustment_895.specs.WrittenText.{head_elements, head_row, later_rows, note_rows, opened_rows, rows_of, seal_of, written_of}

-- ---- the head

pub role_again : (role : Role) → IsReadAs role_of role (role_text role)
role_again Supplier = record { read = refl; element = refl }
role_again Receiver = record { read = refl; element = refl }

digit_small : (byte : ℕ) → IsCheckDigit byte → digit_value byte < 16
digit_small byte (inl decimal) = grind (arith, nat_tests)
digit_small byte (inr letter) = grind (arith, nat_tests)

digits_small : (text : List ℕ) → All IsCheckDigit text → AllDigits 16 text
digits_small [] h = tt
digits_small (byte ∷ more) h = (digit_small byte (All-head IsCheckDigit byte more h), digits_small more (All-tail IsCheckDigit byte more h))

-- a check that is read has sixteen bits
check_small : (text : List ℕ) (check : ℕ) → check_of text ≡ Ok check → check < 2 ^ 16
check_small text check e =
    let s = (check_of_spelled text (check_of text) refl check).0 e in
    let under : digits_value 16 text < 16 ^ length text = digits_value-lt 16 text (digits_small text s.digits) in
    let four : 16 ^ length text ≡ 16 ^ 4 = ap (λ (n : ℕ). 16 ^ n) s.four in
    omega (arith, s.value, under, four)

-- what is written of each element of a head is read as its field
pub record HeadElements (answer : AnswerRecord) : Type 0 where
  pub role : IsReadAs role_of answer.role (role_text answer.role)
  pub flag : IsReadAs flag_of answer.flag (flag_text answer.flag)
  pub number : IsReadAs delivery_number_of answer.number answer.number
  pub check : IsReadAs check_of answer.check (check_text answer.check)
  pub level : IsReadAs level_of answer.level (number_text answer.level)
  pub receiver_number : IsReadAs word_of answer.receiver_number answer.receiver_number

pub head_written : (answer : AnswerRecord) → HeadElements answer → SaysAgain (IsHead answer) (head_row answer)
head_written answer are = record {
  says = λ place. record {
    role = reads_at role_of answer.role place 1 (head_row answer) are.role;
    flag = reads_at flag_of answer.flag place 2 (head_row answer) are.flag;
    number = reads_at delivery_number_of answer.number place 3 (head_row answer) are.number;
    check = reads_at check_of answer.check place 4 (head_row answer) are.check;
    level = reads_at level_of answer.level place 5 (head_row answer) are.level;
    receiver_number = reads_at word_of answer.receiver_number place 6 (head_row answer) are.receiver_number;
    ends = no_longer place 6 (head_row answer) refl;
  };
  segment = row_segment (codes "G87") (head_elements answer) [] 7 refl
      (are.role.element, (are.flag.element, (are.number.element, (are.check.element, (are.level.element, (are.receiver_number.element, tt)))))) (omega arith) (no_tail 7 (omega arith));
}

head_again : (answer : AnswerRecord) (seg : Seg) → IsLong seg → IsHead answer seg → SaysAgain (IsHead answer) (head_row answer)
head_again answer seg s is = head_written answer (record {
  role = role_again answer.role;
  flag = flag_again answer.flag;
  number = delivery_number_again (element_of seg 3) answer.number is.number;
  check = check_again answer.check (check_small (element_of seg 4) answer.check is.check);
  level = number_again 0 9 answer.level (element_of seg 5) (omega arith) is.level;
  receiver_number = word_again (element_of seg 6) answer.receiver_number is.receiver_number;
})

-- ---- all rows

-- the note as a list
pub notes_are : (note : Option (List ℕ)) (texts : List (List ℕ)) → MatchOption note (texts ≡ []) (λ text. texts ≡ text ∷ []) → texts ≡ notes note
notes_are (Some text) texts e = e
notes_are None texts e = e

-- what is known of the rows of an answer
record AreRows (answer : AnswerRecord) (control : ℕ) : Type 0 where
  segments : All IsSegment (opened_rows answer control)
  shape : IsSealable (opened_rows answer control) control → AreSegments answer (seal_of answer control) (segments_of 0 (rows_of answer control))

rows_known : (answer : AnswerRecord) (control : ℕ) → control ≤ MOST_CONTROL_NUMBER → IsAnswer answer → AreRows answer control
rows_known answer control small is =
    let reshaped = set_reshaped (opened_rows answer control) forms.Answer control (IsHead answer) (head_row answer) refl (head_again answer) small (notes answer.note) answer.lines [] (shared_of answer is.seal) in
    let known = reshaped [] is.segments [] is.shape (are_long is.segments is.spelled) refl in
    record { segments = known.segments; shape = known.shape }

pub asked : (answer : AnswerRecord) (control : ℕ) → control ≤ MOST_CONTROL_NUMBER → IsAnswer answer → AreAsked (start_row forms.Answer control) (head_row answer) (note_rows answer) (later_rows answer)
asked answer control small is = are_asked (start_row forms.Answer control) (head_row answer) (note_rows answer) (later_rows answer) (rows_known answer control small is).segments

text_spelled : (answer : AnswerRecord) (control : ℕ) → control ≤ MOST_CONTROL_NUMBER → IsAnswer answer → first_long (rows_of answer control) ≡ None → length (text_of (rows_of answer control)) ≤ SET_BYTES → Is895 answer (seal_of answer control) (text_of (rows_of answer control))
text_spelled answer control small is none short =
    let known = rows_known answer control small is in
    let all = are_sealed (opened_rows answer control) control small known.segments none short in
    record {
      segments = segments_of 0 (rows_of answer control);
      spelled = all.spelled;
      shape = known.shape all.sealable;
      sound = is.sound;
      levelled = is.levelled;
      short = short;
    }

-- and it is the text of a set, in whole units
text_set : (answer : AnswerRecord) (control : ℕ) → control ≤ MOST_CONTROL_NUMBER → IsAnswer answer → first_long (rows_of answer control) ≡ None → length (text_of (rows_of answer control)) ≤ SET_BYTES → IsSetText (text_of (rows_of answer control))
text_set answer control small is none short =
    let known = rows_known answer control small is in
    let all = are_sealed (opened_rows answer control) control small known.segments none short in
    written_set forms.Answer (control_text control) (IsHead answer) (notes answer.note) answer.lines [] (shared_of answer (seal_of answer control)) (segments_of 0 (rows_of answer control)) (text_of (rows_of answer control))
    (known.shape all.sealable) all.written all.spelled

-- ---- what is answered

-- a text that is written of an answer spells it, and is the text of a set
pub record IsRead (answer : AnswerRecord) (control : ℕ) (text : List ℕ) : Type 0 where
  pub spelled : Is895 answer (seal_of answer control) text
  pub set : IsSetText text

read_as : (answer : AnswerRecord) (control : ℕ) (text : List ℕ) → control ≤ MOST_CONTROL_NUMBER → IsAnswer answer → first_long (rows_of answer control) ≡ None → text_of (rows_of answer control) ≡ text → length text ≤ SET_BYTES → IsRead answer control text
read_as answer control text small is none same short =
    let few : length (text_of (rows_of answer control)) ≤ SET_BYTES = omega (arith, ap length same) in
    record {
      spelled = subst (Is895 answer (seal_of answer control)) same (text_spelled answer control small is none few);
      set = subst IsSetText same (text_set answer control small is none few);
    }

pub written_back : (answer : AnswerRecord) (control : ℕ) (text : List ℕ) → control ≤ MOST_CONTROL_NUMBER → IsAnswer answer → written_of answer control ≡ Ok text → IsRead answer control text
written_back answer control text small is e =
    let all = whole_is (first_long (rows_of answer control)) (text_of (rows_of answer control)) text e in
    read_as answer control text small is all.none all.same all.short

pub answer_read : (answer : AnswerRecord) (control : ℕ) (text : List ℕ) → control ≤ MOST_CONTROL_NUMBER → IsAnswer answer
    → unless_too_long (first_long (rows_of answer control)) (text_of (rows_of answer control)) ≡ Ok text → length text ≤ SET_BYTES → IsRead answer control text
answer_read answer control text small is e short =
    let all = text_is (first_long (rows_of answer control)) (text_of (rows_of answer control)) text e in
    read_as answer control text small is all.0 all.1 short
