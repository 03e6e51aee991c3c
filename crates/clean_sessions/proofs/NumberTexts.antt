-- The number of a delivery in the text of a set: no stop stands in it, so that one text has one number.
use Rattle.std.proofs.Common.{◌≡◌, ◌⊎◌, ℕ, suc, ◌<◌, ◌≤◌, false, List, [], ◌∷◌, ◌++◌, length, get_or, drop, Result, Ok, refl, sym, ◌∙◌, ap, subst, inl, inr, arith}
use Rattle.std.specs.Prelude.{position}
use Rattle.dsd_values.specs.Reading.{IsNumberText, delivery_number_of, is_no_number_byte}
use Rattle.dsd_values.specs.declared.delivery_number.TheConstants.{DELIVERY_NUMBER_BYTES}
use Rattle.dsd_values.specs.declared.fault.ValueFault.{ValueFault}
use Rattle.dsd_values.proofs.Refusals.{all_pass, filled_ok}
use Rattle.segments.specs.Views.{Seg, element_of}
use Rattle.transaction_set.specs.declared.seal.Seal.{Seal}
use Rattle.base_record_894.specs.BaseRecord.{BaseRecord}
use Rattle.base_record_894.specs.Grammar.{AreSegments as AreBaseSegments, IsHead as IsBaseHead}
use Rattle.adjustment_895.specs.AnswerRecord.{AnswerRecord}
use Rattle.adjustment_895.specs.AnswerText.{Is895}
use Rattle.adjustment_895.specs.Grammar.{AreSegments, IsHead}
use Rattle.dsd_record.specs.SetTexts.{IsSet}
use Rattle.dsd_record.specs.declared.set_view.SetView.{SetView}
use Rattle.dsd_record.specs.declared.set_view.SetView.TheVariants as sets
use Rattle.delivery_book.specs.Deeds.{number_in}

-- ---- a text up to a star or a line end

abbrev pub IsStop : ℕ → Type 0
IsStop byte = (byte ≡ 42) ⊎ (byte ≡ 13)

abbrev pub NoStop : List ℕ → Type 0
NoStop [] = Unit {0}
NoStop (byte ∷ text) = (IsStop byte → ⊥) × NoStop text

first_same : (a b : ℕ) (x y : List ℕ) → a ∷ x ≡ b ∷ y → a ≡ b
first_same a b x y e = ap (λ (l : List ℕ). get_or l 0 0) e

pub front_same : (x y X Y : List ℕ) (s t : ℕ) → NoStop x → NoStop y → IsStop s → IsStop t → x ++ s ∷ X ≡ y ++ t ∷ Y → x ≡ y
front_same [] [] X Y s t p q u v e = refl
front_same [] (b ∷ y) X Y s t p q u v e = absurd (q.0 (subst IsStop (first_same s b X (y ++ t ∷ Y) e) u))
front_same (a ∷ x) [] X Y s t p q u v e = absurd (p.0 (subst IsStop (sym (first_same a t (x ++ s ∷ X) Y e)) v))
front_same (a ∷ x) (b ∷ y) X Y s t p q u v e =
    ap (λ (c : ℕ). c ∷ x) (first_same a b (x ++ s ∷ X) (y ++ t ∷ Y) e) ∙ ap (λ (l : List ℕ). b ∷ l) (front_same x y X Y s t p.1 q.1 u v (ap (λ (l : List ℕ). drop 1 l) e))

-- what stands behind it
pub behind_same : (x y X Y : List ℕ) (s t : ℕ) → NoStop x → NoStop y → IsStop s → IsStop t → x ++ s ∷ X ≡ y ++ t ∷ Y → X ≡ Y
behind_same [] [] X Y s t p q u v e = ap (λ (l : List ℕ). drop 1 l) e
behind_same [] (b ∷ y) X Y s t p q u v e = absurd (q.0 (subst IsStop (first_same s b X (y ++ t ∷ Y) e) u))
behind_same (a ∷ x) [] X Y s t p q u v e = absurd (p.0 (subst IsStop (sym (first_same a t (x ++ s ∷ X) Y e)) v))
behind_same (a ∷ x) (b ∷ y) X Y s t p q u v e = behind_same x y X Y s t p.1 q.1 u v (ap (λ (l : List ℕ). drop 1 l) e)

-- ---- numbers

byte_plain : (b : ℕ) → is_no_number_byte b ≡ false → IsStop b → ⊥
byte_plain b e (inl same) = let no : is_no_number_byte 42 ≡ false = subst (λ (n : ℕ). is_no_number_byte n ≡ false) same e in cc
byte_plain b e (inr same) = let no : is_no_number_byte 13 ≡ false = subst (λ (n : ℕ). is_no_number_byte n ≡ false) same e in cc

plain_all : (text : List ℕ) → ((k : ℕ) → k < length text → IsStop (get_or text k 0) → ⊥) → NoStop text
plain_all [] each = tt
plain_all (byte ∷ text) each = (each 0 (omega arith), plain_all text (λ k here. each (suc k) (omega (arith, here))))

pub number_plain : (text : List ℕ) → IsNumberText text → NoStop text
number_plain text is = plain_all text (λ k here. all_pass is_no_number_byte (λ b. IsStop b → ⊥) byte_plain text is k 0 here)

ok_same : (a b : List ℕ) → (let r : Result (List ℕ) ValueFault = Ok a in r) ≡ Ok b → a ≡ b
ok_same a b e = cc

-- what is read as a number has a byte, and each may stand in a number
pub record IsNumber (number : List ℕ) : Type 0 where
  pub plain : IsNumberText number
  pub some : 0 < length number
  pub short : length number ≤ DELIVERY_NUMBER_BYTES

number_read : (part number : List ℕ) → delivery_number_of part ≡ Ok number → IsNumber number
number_read part number e =
    let is = filled_ok (List ℕ) DELIVERY_NUMBER_BYTES (position is_no_number_byte part) part (Ok part) number e in
    subst IsNumber (ok_same part number is.is) (record { plain = is.none; some = is.some; short = is.short })

-- ---- the numbers of sets

base_head : (base : BaseRecord) (seal : Seal) (amount : ℕ) (segs : List Seg) → AreBaseSegments base seal amount segs → (seg : Seg) × IsBaseHead base seg
base_head base seal amount [] s = absurd s
base_head base seal amount (one ∷ []) (_, _, s) = absurd s
base_head base seal amount (one ∷ two ∷ segs) (_, _, (_, h, _)) = (two, h)

pub base_number : (base : BaseRecord) (seal : Seal) (amount : ℕ) (segs : List Seg) → AreBaseSegments base seal amount segs → IsNumber base.number
base_number base seal amount segs shape = let head = base_head base seal amount segs shape in number_read (element_of head.0 2) base.number head.1.number

answer_head : (answer : AnswerRecord) (seal : Seal) (segs : List Seg) → AreSegments answer seal segs → (seg : Seg) × IsHead answer seg
answer_head answer seal [] s = absurd s
answer_head answer seal (one ∷ []) (_, _, s) = absurd s
answer_head answer seal (one ∷ two ∷ segs) (_, _, (_, h, _)) = (two, h)

pub answer_number : (answer : AnswerRecord) (seal : Seal) (text : List ℕ) → Is895 answer seal text → IsNumber answer.number
answer_number answer seal text is = let head = answer_head answer seal is.segments is.shape in number_read (element_of head.0 3) answer.number head.1.number

pub set_number : (set : SetView) (text : List ℕ) → IsSet set text → IsNumber (number_in set)
set_number (sets.Base base seal) text is = base_number base seal is.amount is.segments is.shape
set_number (sets.Answer answer seal) text is = answer_number answer seal text is
