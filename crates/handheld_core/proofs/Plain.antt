-- What lines of a draft say is right by itself.
use Rattle.std.proofs.Common.{◌≡◌, ◌<◌, ◌≤◌, ℕ, ◌==◌, Bool, true, false, List, [], ◌∷◌, length, position, None, Result, Ok, Err, if◌then◌else◌, refl, sym, ap, subst, arith}
use Rattle.dsd_values.specs.Reading.{cents_of, cost_of, decimal_of, dsd_of, filled_word_of, is_no_element_byte, percent_of, quantity_of, word_of}
use Rattle.dsd_values.specs.declared.allowance.Allowance.{Allowance}
use Rattle.dsd_values.specs.declared.fault.ValueFault.{ValueFault}
use Rattle.dsd_values.specs.declared.fault.ValueFault.TheVariants.{OutOfRange}
use Rattle.dsd_values.specs.declared.line.Line.{Line}
use Rattle.dsd_values.proofs.Laws.{decimal_of_spelled}
use Rattle.dsd_values.proofs.Refusals.{bounded_ok, filled_ok}
use Rattle.transaction_set.specs.Allowances.{has_size}
use Rattle.transaction_set.specs.SoundLines.{IsAtMost, IsPlainAllowance, IsPlainLine, IsPlainWord}
use Rattle.plain_lines.specs.PlainText.{LineSeen, word_of_line}
use Rattle.plain_lines.specs.Refusing.{value_at}
use Rattle.plain_lines.proofs.Unrefused.{bind_ok, number_within, ok_same, value_ok}
use Rattle.handheld_core.specs.DraftRows.{allowance_in, form_of, item_in, item_of, percent_size, rate_form, rate_size, size_of, sized, total_size}
use Rattle.handheld_core.specs.declared.allowance.Form.{Form}
use Rattle.handheld_core.specs.declared.allowance.Form.TheVariants as forms
use Rattle.handheld_core.specs.declared.allowance.Size.{Size}

-- ---- words

word_plain : (text word : List ℕ) → word_of text ≡ Ok word → IsPlainWord word
word_plain text word e =
    let is = bounded_ok (List ℕ) 35 (position is_no_element_byte text) text (Ok text) word e in
    subst IsPlainWord (ok_same_value text word is.2) (record { characters = is.1; short = is.0 })
  where
    ok_same_value : (a b : List ℕ) → (let r : Result (List ℕ) ValueFault = Ok a in r) ≡ Ok b → a ≡ b
    ok_same_value a b e = cc (e)

record IsFilledWord (word : List ℕ) : Type 0 where
  plain : IsPlainWord word
  filled : 0 < length word

filled_plain : (text word : List ℕ) → filled_word_of text ≡ Ok word → IsFilledWord word
filled_plain text word e =
    let is = filled_ok (List ℕ) 35 (position is_no_element_byte text) text (Ok text) word e in
    subst IsFilledWord (same text word is.is) (record { plain = record { characters = is.none; short = is.short }; filled = is.some })
  where
    same : (a b : List ℕ) → (let r : Result (List ℕ) ValueFault = Ok a in r) ≡ Ok b → a ≡ b
    same a b e = cc (e)

empty_word : IsPlainWord []
empty_word = record { characters = refl; short = omega arith }

decimal_within : (places high : ℕ) (text : List ℕ) (n : ℕ) → decimal_of places high text ≡ Ok n → n ≤ high
decimal_within places high text n e = ((decimal_of_spelled places high text (decimal_of places high text) refl n).0 e).at_most

-- ---- items

pub item_plain : (line : LineSeen) (item : Line) → item_in line ≡ Ok item → IsPlainLine item
item_plain line item e =
    let a = bind_ok (value_at line 1 (dsd_of (word_of_line line 1))) _ item e in
    let b = bind_ok (value_at line 2 (quantity_of (word_of_line line 2))) _ item a.goes_on in
    let d = bind_ok (value_at line 3 (filled_word_of (word_of_line line 3))) _ item b.goes_on in
    let f = bind_ok (value_at line 4 (word_of (word_of_line line 4))) _ item d.goes_on in
    let g = bind_ok (value_at line 5 (cost_of (word_of_line line 5))) _ item f.goes_on in
    let dsd = number_within 1 9_999 (word_of_line line 1) a.value (value_ok line 1 _ a.value a.is) in
    let unit = filled_plain (word_of_line line 3) d.value (value_ok line 3 _ d.value d.is) in
    subst IsPlainLine (ok_same (item_of a.value b.value d.value f.value g.value) item g.goes_on) (record {
      least = dsd.0;
      most = dsd.1;
      quantity = (number_within 0 99_999 (word_of_line line 2) b.value (value_ok line 2 _ b.value b.is)).1;
      unit = unit.plain;
      filled = unit.filled;
      upc = word_plain (word_of_line line 4) f.value (value_ok line 4 _ f.value f.is);
      qualifier = empty_word;
      id = empty_word;
      case_code = empty_word;
      cost = decimal_within 4 999_999_999 (word_of_line line 5) g.value (value_ok line 5 _ g.value g.is);
      pack = empty_word;
      label = empty_word;
      tail = refl;
    })

pub item_bare : (line : LineSeen) (item : Line) → item_in line ≡ Ok item → item.extras ≡ []
item_bare line item e =
    let a = bind_ok (value_at line 1 (dsd_of (word_of_line line 1))) _ item e in
    let b = bind_ok (value_at line 2 (quantity_of (word_of_line line 2))) _ item a.goes_on in
    let d = bind_ok (value_at line 3 (filled_word_of (word_of_line line 3))) _ item b.goes_on in
    let f = bind_ok (value_at line 4 (word_of (word_of_line line 4))) _ item d.goes_on in
    let g = bind_ok (value_at line 5 (cost_of (word_of_line line 5))) _ item f.goes_on in
    sym (ap (λ (l : Line). l.extras) (ok_same (item_of a.value b.value d.value f.value g.value) item g.goes_on))

-- ---- allowances

-- a size in one form, which has no rate at the level of the record
record IsRightSize (in_line : Bool) (size : Size) : Type 0 where
  total : IsAtMost 99_999_999_999 size.total
  rate : IsAtMost 999_999_999 size.rate
  percent : IsAtMost 99_999 size.percent
  there : has_size in_line size.total size.rate None size.percent ≡ true

size_same : (a b : Size) → (let r : Result Size ValueFault = Ok a in r) ≡ Ok b → a ≡ b
size_same a b e = cc (e)

total_right : (in_line : Bool) (read : Result ℕ ValueFault) (size : Size) → ((n : ℕ) → read ≡ Ok n → n ≤ 99_999_999_999) → total_size read ≡ Ok size → IsRightSize in_line size
total_right in_line (Ok n) size most e = subst (IsRightSize in_line) (size_same _ size e) (record { total = most n refl; rate = tt; percent = tt; there = refl })
total_right in_line (Err fault) size most e = cc (e)

rate_right : (read : Result ℕ ValueFault) (size : Size) → ((n : ℕ) → read ≡ Ok n → n ≤ 999_999_999) → rate_size read ≡ Ok size → IsRightSize true size
rate_right (Ok n) size most e = subst (IsRightSize true) (size_same _ size e) (record { total = tt; rate = most n refl; percent = tt; there = refl })
rate_right (Err fault) size most e = cc (e)

percent_right : (in_line : Bool) (read : Result ℕ ValueFault) (size : Size) → ((n : ℕ) → read ≡ Ok n → n ≤ 99_999) → percent_size read ≡ Ok size → IsRightSize in_line size
percent_right in_line (Ok n) size most e = subst (IsRightSize in_line) (size_same _ size e) (record { total = tt; rate = tt; percent = most n refl; there = refl })
percent_right in_line (Err fault) size most e = cc (e)

-- a rate is a form of an item alone
abbrev IsFormOf : Bool → Form → Type 0
IsFormOf in_line forms.Total = Unit {0}
IsFormOf in_line forms.Rate = in_line ≡ true
IsFormOf in_line forms.Percent = Unit {0}

form_right : (in_line : Bool) (text : List ℕ) (form : Form) → form_of in_line text ≡ Ok form → IsFormOf in_line form
form_right in_line [] form e = cc (e)
form_right in_line (b ∷ next ∷ more) form e = cc (e)
form_right in_line (b ∷ []) form e = by (b == 84) (b == 82) (b == 80) in_line form e
  where
    form_same : (a b : Form) → (let r : Result Form ValueFault = Ok a in r) ≡ Ok b → a ≡ b
    form_same a b e = cc (e)

    rate : (in_line : Bool) (form : Form) → rate_form in_line ≡ Ok form → IsFormOf in_line form
    rate true form e = subst (IsFormOf true) (form_same forms.Rate form e) refl
    rate false form e = cc (e)

    by : (t r p in_line : Bool) (form : Form) → (if t then Ok forms.Total else (if r then rate_form in_line else (if p then Ok forms.Percent else Err OutOfRange))) ≡ Ok form → IsFormOf in_line form
    by true r p in_line form e = subst (IsFormOf in_line) (form_same forms.Total form e) tt
    by false true p in_line form e = rate in_line form e
    by false false true in_line form e = subst (IsFormOf in_line) (form_same forms.Percent form e) tt
    by false false false in_line form e = cc (e)

size_right : (in_line : Bool) (form : Form) (text : List ℕ) (size : Size) → IsFormOf in_line form → size_of form text ≡ Ok size → IsRightSize in_line size
size_right in_line forms.Total text size is e = total_right in_line (cents_of text) size (λ n r. (number_within 0 99_999_999_999 text n r).1) e
size_right in_line forms.Rate text size is e = subst (λ (b : Bool). IsRightSize b size) (sym is) (rate_right (cost_of text) size (decimal_within 4 999_999_999 text) e)
size_right in_line forms.Percent text size is e = percent_right in_line (percent_of text) size (decimal_within 2 99_999 text) e

pub allowance_plain : (in_line : Bool) (line : LineSeen) (allowance : Allowance) → allowance_in in_line line ≡ Ok allowance → IsPlainAllowance in_line allowance
allowance_plain in_line line allowance e =
    let a = bind_ok (value_at line 1 (filled_word_of (word_of_line line 1))) _ allowance e in
    let b = bind_ok (value_at line 2 (filled_word_of (word_of_line line 2))) _ allowance a.goes_on in
    let d = bind_ok (value_at line 3 (form_of in_line (word_of_line line 3))) _ allowance b.goes_on in
    let f = bind_ok (value_at line 4 (size_of d.value (word_of_line line 4))) _ allowance d.goes_on in
    let code = filled_plain (word_of_line line 1) a.value (value_ok line 1 _ a.value a.is) in
    let method = filled_plain (word_of_line line 2) b.value (value_ok line 2 _ b.value b.is) in
    let size = size_right in_line d.value (word_of_line line 4) f.value (form_right in_line (word_of_line line 3) d.value (value_ok line 3 _ d.value d.is)) (value_ok line 4 _ f.value f.is) in
    subst (IsPlainAllowance in_line) (ok_same (sized a.value b.value f.value) allowance f.goes_on) (record {
      code = code.plain;
      code_filled = code.filled;
      method = method.plain;
      method_filled = method.filled;
      number = empty_word;
      exception = empty_word;
      rate = size.rate;
      quantity = tt;
      unit = empty_word;
      total = size.total;
      percent = size.percent;
      tail = refl;
      size = λ counts. size.there;
    })
