-- The integrity value that a set states has sixteen bits.
use Rattle.std.proofs.Common.{◌≡◌, ◌<◌, ◌^◌, ℕ, Bool, true, false, length, List, [], ◌∷◌, ◌++◌, Ok, refl, ap, inl, inr, arith}
use Rattle.std.specs.List.{All}
use Rattle.std.specs.Char.{digit_value}
use Rattle.std.specs.Str.Parse.{AllDigits, digits_value}
use Rattle.std.proofs.lemmas.Bool.Decides.{nat_tests}
use Rattle.std.proofs.lemmas.Int.Digits.{digits_value-lt}
use Rattle.std.proofs.lemmas.List.Elements.{All-head, All-tail}
use Rattle.dsd_values.proofs.Laws.{check_of_spelled}
use Rattle.dsd_values.specs.Reading.{check_of}
use Rattle.dsd_values.specs.Spelling.{IsCheckDigit}
use Rattle.dsd_values.specs.declared.extra.Extra.{Extra}
use Rattle.dsd_values.specs.declared.line.Line.{Line}
use Rattle.segments.specs.Views.{Seg, element_of}
use Rattle.segments.specs.Elements.{kept_text}
use Rattle.transaction_set.specs.Grammar.{BehindHead, Body, Closing, Extras, IsLoopId, IsStart, Items, Loop, LoopEnd, One, Record, References, Shape, Shared}
use Rattle.transaction_set.specs.declared.kind.Form.{Form}
use Rattle.transaction_set.specs.declared.kind.Form.TheVariants as forms
use Rattle.transaction_set.specs.declared.kind.Kind.{Kind}
use Rattle.transaction_set.specs.declared.kind.Kind.TheVariants as kinds
use Rattle.dsd_record.specs.SetTexts.{IsSet}
use Rattle.dsd_record.specs.declared.set_view.SetView.{SetView}
use Rattle.dsd_record.specs.declared.set_view.SetView.TheVariants as sets
use Rattle.base_record_894.specs.Grammar.{IsHead as IsBaseHead, shared_of as base_shared}
use Rattle.adjustment_895.specs.Grammar.{IsHead, notes, shared_of}
use Rattle.delivery_book.specs.Deeds.{check_in}

digit_small : (byte : ℕ) → IsCheckDigit byte → digit_value byte < 16
digit_small byte (inl decimal) = grind (arith, nat_tests)
digit_small byte (inr letter) = grind (arith, nat_tests)

digits_small : (text : List ℕ) → All IsCheckDigit text → AllDigits 16 text
digits_small [] h = tt
digits_small (byte ∷ more) h = (digit_small byte (All-head IsCheckDigit byte more h), digits_small more (All-tail IsCheckDigit byte more h))

check_small : (text : List ℕ) (check : ℕ) → check_of text ≡ Ok check → check < 2 ^ 16
check_small text check e =
    let s = (check_of_spelled text (check_of text) refl check).0 e in
    let under : digits_value 16 text < 16 ^ length text = digits_value-lt 16 text (digits_small text s.digits) in
    let four : 16 ^ length text ≡ 16 ^ 4 = ap (λ (n : ℕ). 16 ^ n) s.four in
    omega (arith, s.value, under, four)

-- ---- the segments behind a part

pub record Reached (rest : Shape) : Type 0 where
  pub before : List Seg
  pub left : List Seg
  pub there : rest before left

one_passed : (form : Form) (kind : Kind) (Says : List Seg → Seg → Type 0) (rest : Shape) (before segs : List Seg) → One form kind Says rest before segs → Reached rest
one_passed form kind Says rest before [] s = absurd s
one_passed form kind Says rest before (seg ∷ segs) s = record { before = before ++ seg ∷ []; left = segs; there = s.2 }

extras_passed : (in_line : Bool) (form : Form) (extras : List Extra) (rest : Shape) (before segs : List Seg) → Extras in_line form extras rest before segs → Reached rest
extras_passed in_line form [] rest before segs s = record { before = before; left = segs; there = s }
extras_passed in_line form (extra ∷ extras) rest before [] s = absurd s
extras_passed in_line form (extra ∷ extras) rest before (seg ∷ segs) s = extras_passed in_line form extras rest (before ++ seg ∷ []) segs s.1

items_passed : (form : Form) (lines : List Line) (rest : Shape) (before segs : List Seg) → Items form lines rest before segs → Reached rest
items_passed form [] rest before segs s = record { before = before; left = segs; there = s }
items_passed form (line ∷ lines) rest before [] s = absurd s
items_passed form (line ∷ lines) rest before (seg ∷ segs) s =
    let r = extras_passed true form line.extras (Items form lines rest) (before ++ seg ∷ []) segs s.2 in
    items_passed form lines rest r.before r.left r.there

loop_passed : (form : Form) (lines : List Line) (rest : Shape) (before segs : List Seg) → Loop form lines rest before segs → Reached rest
loop_passed form [] rest before segs s = record { before = before; left = segs; there = s }
loop_passed form (line ∷ lines) rest before [] s = absurd s.1
loop_passed form (line ∷ lines) rest before (seg ∷ segs) (id, s) =
    let r = items_passed form (line ∷ lines) (LoopEnd form id rest) (before ++ seg ∷ []) segs s.2 in
    one_passed form kinds.LoopEnd (λ _ last. IsLoopId id last) rest r.before r.left r.there

references_passed : (form : Form) (texts : List (List ℕ)) (rest : Shape) (before segs : List Seg) → References form texts rest before segs → Reached rest
references_passed form [] rest before segs s = record { before = before; left = segs; there = s }
references_passed forms.Base (text ∷ texts) rest before segs s =
    let r = one_passed forms.Base kinds.Reference (λ _ seg. kept_text seg ≡ text) (References forms.Base texts rest) before segs s in
    references_passed forms.Base texts rest r.before r.left r.there
references_passed forms.Answer (text ∷ []) rest before segs s = one_passed forms.Answer kinds.Reference (λ _ seg. kept_text seg ≡ text) rest before segs s
references_passed forms.Answer (text ∷ next ∷ texts) rest before segs s = absurd s

record_passed : (form : Form) (extras : List Extra) (rest : Shape) (before segs : List Seg) → Record form extras rest before segs → Reached rest
record_passed forms.Base extras rest before segs s = extras_passed false forms.Base extras rest before segs s
record_passed forms.Answer [] rest before segs s = record { before = before; left = segs; there = s }
record_passed forms.Answer (extra ∷ extras) rest before segs s = absurd s

closed_check : (form : Form) (t : Shared) (before segs : List Seg) → Closing form t before segs → t.check < 2 ^ 16
closed_check form t before [] s = absurd s
closed_check form t before (one ∷ []) (_, _, s) = absurd s
closed_check form t before (one ∷ two ∷ []) (_, _, (_, _, s)) = absurd s
closed_check form t before (one ∷ two ∷ three ∷ segs) (_, _, (_, _, (_, i, _))) = check_small (element_of three 1) t.check i.0

behind_closing : (form : Form) (texts : List (List ℕ)) (lines : List Line) (extras : List Extra) (t : Shared) (before segs : List Seg) → BehindHead form texts lines extras t before segs → Reached (Closing form t)
behind_closing form texts lines extras t before segs s =
    let a = references_passed form texts (Body form lines extras t) before segs s in
    let b = loop_passed form lines (Record form extras (Closing form t)) a.before a.left a.there in
    record_passed form extras (Closing form t) b.before b.left b.there

pub closing_of : (form : Form) (texts : List (List ℕ)) (lines : List Line) (extras : List Extra) (t : Shared) (First Head : List Seg → Seg → Type 0) (segs : List Seg)
    → One form kinds.Start First (One form kinds.Head Head (BehindHead form texts lines extras t)) [] segs → Reached (Closing form t)
closing_of form texts lines extras t First Head segs s =
    let a = one_passed form kinds.Start First (One form kinds.Head Head (BehindHead form texts lines extras t)) [] segs s in
    let b = one_passed form kinds.Head Head (BehindHead form texts lines extras t) a.before a.left a.there in
    behind_closing form texts lines extras t b.before b.left b.there

headed : (form : Form) (texts : List (List ℕ)) (lines : List Line) (extras : List Extra) (t : Shared) (First Head : List Seg → Seg → Type 0) (segs : List Seg)
    → One form kinds.Start First (One form kinds.Head Head (BehindHead form texts lines extras t)) [] segs → t.check < 2 ^ 16
headed form texts lines extras t First Head segs s =
    let c = closing_of form texts lines extras t First Head segs s in
    closed_check form t c.before c.left c.there

pub set_check : (set : SetView) (text : List ℕ) → IsSet set text → check_in set < 2 ^ 16
set_check (sets.Base base seal) text is = headed forms.Base base.references base.lines base.extras (base_shared base seal is.amount) (λ _ seg. IsStart seal.control seg) (λ _ seg. IsBaseHead base seg) is.segments is.shape
set_check (sets.Answer answer seal) text is = headed forms.Answer (notes answer.note) answer.lines [] (shared_of answer seal) (λ _ seg. IsStart seal.control seg) (λ _ seg. IsHead answer seg) is.segments is.shape
