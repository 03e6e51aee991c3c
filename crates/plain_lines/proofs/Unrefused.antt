-- What is not refused at a line, and what is then read of it.
use Rattle.std.proofs.Common.{◌≡◌, ◌<◌, ◌≤◌, ℕ, nat_eq, nat_le, Bool, true, false, List, [], ◌∷◌, ◌++◌, length, Option, Some, None, Result, Ok, Err, if◌then◌else◌, refl, sym, ap, subst, ◌∙◌, arith, length-append}
use Rattle.std.proofs.lemmas.Bool.Decides.{nat_tests}
use Rattle.std.proofs.lemmas.List.Elements.{All-append, All-cons, All-nil}
use Rattle.dsd_values.specs.Reading.{cost_of, dsd_of, number_of, quantity_of, word_between}
use Rattle.dsd_values.specs.SignatureRecord.{SignatureRecord}
use Rattle.dsd_values.specs.declared.fault.ValueFault.{ValueFault}
use Rattle.dsd_values.proofs.Laws.{decimal_of_spelled, number_spelled}
use Rattle.dsd_record.specs.declared.draft_fault.DraftFault.{DraftFault}
use Rattle.dsd_record.specs.declared.draft_fault.DraftReason.{DraftReason}
use Rattle.plain_lines.specs.Counting.{AreCounts as AreRight, IsRightCounted, SaysCounted, counted_in, counts_with, is_counted, number_of as number_of_counted, unless_counted}
use Rattle.plain_lines.specs.PlainText.{LineSeen, has_words, leads, word_of_line}
use Rattle.plain_lines.specs.Refusing.{◌>>=◌, IsLed, SaysSignature, misplaced, refused_if, signature_in, unless, value_at}
use Rattle.plain_lines.specs.declared.counted.Counted.{Counted}
use Rattle.plain_lines.proofs.Keyed.{apart_more, turned_numbers}

-- ---- one line: what was not refused

pub record Unrefused {X : Type 0} (reason : Option DraftReason) (rest : Result X DraftFault) (x : X) : Type 0 where
  pub none : reason ≡ None
  pub is : rest ≡ Ok x

pub unless_ok : {X : Type 0} (reason : Option DraftReason) (line : LineSeen) (rest : Result X DraftFault) (x : X) → unless reason line rest ≡ Ok x → Unrefused reason rest x
unless_ok (Some reason) line rest x e = cc (e)
unless_ok None line rest x e = record { none = refl; is = e }

led_by : (a b : Bool) (line : LineSeen) (word : List ℕ) (count : ℕ) (reason other : DraftReason) → leads line word ≡ a → has_words line count ≡ b → (if a then (if b then None else Some reason) else Some other) ≡ None → IsLed line word count
led_by true true line word count reason other p q e = record { leading = p; words = q }
led_by true false line word count reason other p q e = cc (e)
led_by false b line word count reason other p q e = cc (e)

pub led : (line : LineSeen) (word : List ℕ) (count : ℕ) → misplaced line word count ≡ None → IsLed line word count
led line word count e = led_by (leads line word) (has_words line count) line word count _ _ refl refl e

pub placed : (line : LineSeen) (word : List ℕ) (count : ℕ) → IsLed line word count → misplaced line word count ≡ None
placed line word count is = rw (is.leading, is.words) refl

pub record Bound {A B : Type 0} (r : Result A DraftFault) (f : A → Result B DraftFault) (b : B) : Type 0 where
  pub value : A
  pub is : r ≡ Ok value
  pub goes_on : f value ≡ Ok b

pub bind_ok : {A B : Type 0} (r : Result A DraftFault) (f : A → Result B DraftFault) (b : B) → (r >>= f) ≡ Ok b → Bound r f b
bind_ok (Ok a) f b e = record { value = a; is = refl; goes_on = e }
bind_ok (Err fault) f b e = cc (e)

pub value_ok : {V : Type 0} (line : LineSeen) (number : ℕ) (r : Result V ValueFault) (v : V) → value_at line number r ≡ Ok v → r ≡ Ok v
value_ok line number (Ok x) v e = let same : x ≡ v = cc (e) in ap (λ (y : _). Ok y) same
value_ok line number (Err fault) v e = cc (e)

pub record Passed {X : Type 0} (test : Bool) (rest : Result X DraftFault) (x : X) : Type 0 where
  pub none : test ≡ false
  pub is : rest ≡ Ok x

pub passed : {X : Type 0} (test : Bool) (line : LineSeen) (reason : DraftReason) (rest : Result X DraftFault) (x : X) → refused_if test line reason rest ≡ Ok x → Passed test rest x
passed true line reason rest x e = cc (e)
passed false line reason rest x e = record { none = refl; is = e }

pub ok_same : {X : Type 0} (a b : X) → (let r : Result X DraftFault = Ok a in r) ≡ Ok b → a ≡ b
ok_same a b e = cc (e)

pub counted_ok : (line : LineSeen) (counted : Counted) → counted_in line ≡ Ok counted → has_words line 4 ≡ true → SaysCounted counted line
counted_ok line counted e words =
    let a = bind_ok (value_at line 1 (dsd_of (word_of_line line 1))) _ counted e in
    let b = bind_ok (value_at line 2 (quantity_of (word_of_line line 2))) _ counted a.goes_on in
    let d = bind_ok (value_at line 3 (cost_of (word_of_line line 3))) _ counted b.goes_on in
    subst (λ (x : Counted). SaysCounted x line) (ok_same _ counted d.goes_on)
    (record { words = words; dsd = value_ok line 1 _ a.value a.is; quantity = value_ok line 2 _ b.value b.is; cost = value_ok line 3 _ d.value d.is })

pub number_within : (low high : ℕ) (text : List ℕ) (n : ℕ) → number_of low high text ≡ Ok n → (low ≤ n) × (n ≤ high)
number_within low high text n e = let is = (number_spelled low high text (number_of low high text) refl n).0 e in (is.at_least, is.at_most)

pub counted_right : (line : LineSeen) (counted : Counted) → SaysCounted counted line → IsRightCounted counted
counted_right line counted says =
    let dsd = number_within 1 9_999 (word_of_line line 1) counted.dsd says.dsd in
    record {
      least = dsd.0;
      most = dsd.1;
      quantity = (number_within 0 99_999 (word_of_line line 2) counted.quantity says.quantity).1;
      cost = ((decimal_of_spelled 4 999_999_999 (word_of_line line 3) (cost_of (word_of_line line 3)) refl counted.cost).0 says.cost).at_most;
    }

pub more_right : (counts : List Counted) (counted : Counted) → AreRight counts → IsRightCounted counted → is_counted counted.dsd counts ≡ false → length counts < 999 → AreRight (counts ++ counted ∷ [])
more_right counts counted are right none room = record {
  right = All-append IsRightCounted counts (counted ∷ []) are.right (All-cons IsRightCounted counted [] right (All-nil IsRightCounted));
  apart = apart_more nat_eq turned_numbers number_of_counted counts counted are.apart none;
  few = omega (arith, length-append counts (counted ∷ []));
}

-- a counted line more
pub record OneMore (counts new : List Counted) (line : LineSeen) : Type 0 where
  pub counted : Counted
  pub says : SaysCounted counted line
  pub is : counts ++ counted ∷ [] ≡ new
  pub right : AreRight new

pub one_more : (counts new : List Counted) (line : LineSeen) → AreRight counts → has_words line 4 ≡ true → counts_with counts line ≡ Ok new → OneMore counts new line
one_more counts new line are words e =
    let limit = passed (nat_le 999 (length counts)) line _ (counted_in line >>= unless_counted counts line) new e in
    let said = bind_ok (counted_in line) (unless_counted counts line) new limit.is in
    let fresh = passed (is_counted said.value.dsd counts) line _ (Ok (counts ++ said.value ∷ [])) new said.goes_on in
    let says : SaysCounted said.value line = counted_ok line said.value said.is words in
    let room : length counts < 999 = let none : nat_le 999 (length counts) ≡ false = limit.none in grind (arith, nat_tests) in
    let is : counts ++ said.value ∷ [] ≡ new = ok_same (counts ++ said.value ∷ []) new fresh.is in
    record { counted = said.value; says = says; is = is; right = subst AreRight is (more_right counts said.value are (counted_right line said.value says) fresh.none room) }

-- ---- one line: nothing is refused

pub go_unless : {X : Type 0} (reason : Option DraftReason) (line : LineSeen) (rest : Result X DraftFault) → reason ≡ None → unless reason line rest ≡ rest
go_unless reason line rest e = ap (λ (r : Option DraftReason). unless r line rest) e

pub go_passed : {X : Type 0} (test : Bool) (line : LineSeen) (reason : DraftReason) (rest : Result X DraftFault) → test ≡ false → refused_if test line reason rest ≡ rest
go_passed test line reason rest e = ap (λ (b : Bool). refused_if b line reason rest) e

pub go_bind : {A B : Type 0} (r : Result A DraftFault) (f : A → Result B DraftFault) (a : A) → r ≡ Ok a → (r >>= f) ≡ f a
go_bind r f a e = ap (λ (x : Result _ DraftFault). x >>= f) e

pub go_value : {V : Type 0} (line : LineSeen) (number : ℕ) (r : Result V ValueFault) (v : V) → r ≡ Ok v → value_at line number r ≡ Ok v
go_value line number r v e = ap (value_at line number) e

pub counted_again : (line : LineSeen) (counted : Counted) → SaysCounted counted line → counted_in line ≡ Ok counted
counted_again line counted says =
    go_bind (value_at line 1 (dsd_of (word_of_line line 1))) _ counted.dsd (go_value line 1 _ counted.dsd says.dsd)
    ∙ go_bind (value_at line 2 (quantity_of (word_of_line line 2))) _ counted.quantity (go_value line 2 _ counted.quantity says.quantity)
    ∙ go_bind (value_at line 3 (cost_of (word_of_line line 3))) _ counted.cost (go_value line 3 _ counted.cost says.cost)

pub few_below : (n most : ℕ) → n < most → nat_le most n ≡ false
few_below n most below = grind (arith, nat_tests)

pub with_again : (counts : List Counted) (line : LineSeen) (counted : Counted) → SaysCounted counted line → is_counted counted.dsd counts ≡ false → length counts < 999 → counts_with counts line ≡ Ok (counts ++ counted ∷ [])
with_again counts line counted says fresh room =
    go_passed (nat_le 999 (length counts)) line _ (counted_in line >>= unless_counted counts line) (few_below (length counts) 999 room)
    ∙ go_bind (counted_in line) (unless_counted counts line) counted (counted_again line counted says)
    ∙ go_passed (is_counted counted.dsd counts) line _ (Ok (counts ++ counted ∷ [])) fresh

pub signature_again : (line : LineSeen) (signature : SignatureRecord) → SaysSignature signature line → signature_in line ≡ Ok signature
signature_again line signature says =
    go_bind (value_at line 1 (word_between 1 12 (word_of_line line 1))) _ signature.mark (go_value line 1 _ signature.mark says.mark)
    ∙ ap (λ (name : List ℕ). Ok (let s : SignatureRecord = record { mark = signature.mark; name = name } in s)) (sym says.name)
