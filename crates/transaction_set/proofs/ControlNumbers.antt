-- Control numbers in digits, which may stand in an element and are read as they were written.
use Rattle.std.proofs.Common.{◌≡◌, ℕ, ◌-◌, ◌^◌, ◌<◌, ◌≤◌, false, length, replicate, Ok, refl, sym, subst, arith, length-append}
use Rattle.std.specs.Fmt.{decimal}
use Rattle.std.specs.List.{All}
use Rattle.std.proofs.lemmas.Fmt.{length-decimal-le}
use Rattle.std.proofs.lemmas.List.{get_or-replicate, length-replicate}
use Rattle.std.proofs.lemmas.List.Elements.{All-append}
use Rattle.dsd_values.specs.Reading.{IsElementText, filled_word_of, is_no_element_byte, word_between}
use Rattle.dsd_values.specs.Spelling.{IsElementCharacter}
use Rattle.dsd_values.specs.Writing.{number_text}
use Rattle.dsd_values.proofs.Again.{decimal_text_element}
use Rattle.dsd_values.proofs.Laws.{element_passes, filled_word_of_spelled, word_between_spelled}
use Rattle.dsd_values.proofs.Refusals.{all_pass, none_outside}
use Rattle.transaction_set.specs.SetWriting.{control_text}
use Rattle.segments.specs.declared.segment_writer.TheConstants.{MOST_CONTROL_NUMBER}

zeros_pass : (count : ℕ) → All (λ b. is_no_element_byte b ≡ false) (replicate count 48)
zeros_pass count = λ k d here.
    let inside : k < count = omega (arith, length-replicate {A = ℕ} count 48) in
    subst (λ (b : ℕ). is_no_element_byte b ≡ false) (sym (get_or-replicate count k 48 d inside)) refl

pub control_element : (n : ℕ) → n < 2 ^ 64 → IsElementText (control_text n)
control_element n small =
    none_outside is_no_element_byte (λ b. is_no_element_byte b ≡ false) (λ b h. h) (control_text n)
    (All-append (λ b. is_no_element_byte b ≡ false) (replicate (4 - length (number_text n)) 48) (number_text n) (zeros_pass (4 - length (number_text n)))
    (all_pass is_no_element_byte (λ b. is_no_element_byte b ≡ false) (λ b h. h) (number_text n) (decimal_text_element n small)))

control_length : (n : ℕ) → n ≤ MOST_CONTROL_NUMBER → (4 ≤ length (control_text n)) × (length (control_text n) ≤ 9)
control_length n small =
    let digits = length-decimal-le 9 n (omega arith) (omega arith) (omega arith) in
    let zeros = length-replicate {A = ℕ} (4 - length (decimal n)) 48 in
    let sum = length-append (replicate (4 - length (decimal n)) 48) (decimal n) in
    (omega arith, omega arith)

pub control_between : (n : ℕ) → n ≤ MOST_CONTROL_NUMBER → word_between 4 9 (control_text n) ≡ Ok (control_text n)
control_between n small =
    let size = control_length n small in
    let long = size.0 in
    (word_between_spelled 4 9 (control_text n) (word_between 4 9 (control_text n)) refl (control_text n)).1 (record {
      same = refl;
      characters = all_pass is_no_element_byte IsElementCharacter element_passes (control_text n) (control_element n (omega arith));
      filled = omega arith;
      long = size.0;
      short = size.1;
    })

pub control_filled : (n : ℕ) → n ≤ MOST_CONTROL_NUMBER → filled_word_of (control_text n) ≡ Ok (control_text n)
control_filled n small =
    let size = control_length n small in
    let long = size.0 in
    let short = size.1 in
    (filled_word_of_spelled (control_text n) (filled_word_of (control_text n)) refl (control_text n)).1 (record {
      same = refl;
      characters = all_pass is_no_element_byte IsElementCharacter element_passes (control_text n) (control_element n (omega arith));
      filled = omega arith;
      long = omega arith;
      short = omega arith;
    })
