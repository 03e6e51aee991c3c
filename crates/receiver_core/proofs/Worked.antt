-- Worked texts.
use Rattle.std.proofs.Common.{◌≡◌, ℕ, ◌==◌, ◌&&◌, Bool, true, false, List, [], ◌∷◌, Some, None, Ok, Err, if◌then◌else◌, codes, refl, ap, ◌∙◌}
use Rattle.std.proofs.lemmas.Bool.Decides.{nat_tests}
use Rattle.std.proofs.Common.{arith}
use Rattle.dsd_values.specs.Reading.{decimal_value}
use Rattle.dsd_values.specs.declared.fault.ValueFault.TheVariants.{OutOfRange, TooLong}
use Rattle.dsd_record.specs.declared.draft_fault.DraftFault.TheVariants.{Refused}
use Rattle.dsd_record.specs.declared.draft_fault.DraftReason.TheVariants as reasons
use Rattle.dsd_values.specs.declared.line.Line.{Line}
use Rattle.dsd_record.specs.declared.choice.Choice.TheVariants.{Adjust, Wait}
use Rattle.plain_lines.specs.Counting.{recounted}
use Rattle.plain_lines.specs.PlainText.{text_of}
use Rattle.plain_lines.specs.declared.counted.Counted.{Counted}
use Rattle.receiver_core.specs.Choosing.{change_of, choice_with, uncounted}
use Rattle.receiver_core.specs.Reading.{count_step, counts_of}
use Rattle.receiver_core.specs.Worked.{count_with}

pub mark : counts_of (text_of (codes "COUNT 1" ∷ codes "SIGN TWELVECHARS12" ∷ [])) ≡ Err (Refused 8 (reasons.Value 1 (TooLong 13)))
unfolding count_step decimal_value
mark = refl

pub answer : counts_of (text_of (codes "COUNT 1" ∷ codes "SIGN S" ∷ codes "COUNTER MAYBE" ∷ [])) ≡ Err (Refused 15 (reasons.Value 1 OutOfRange))
unfolding count_step decimal_value
answer = refl

pub order : counts_of (text_of (codes "COUNT 1" ∷ codes "ITEM 1 1 1" ∷ [])) ≡ Err (Refused 8 reasons.Line)
unfolding count_step decimal_value
order = refl

pub inside : counts_of (count_with []) ≡ Err (Refused 35 reasons.Line)
unfolding count_step decimal_value
inside = refl

pub words : counts_of (count_with (codes "ITEM 1 12" ∷ [])) ≡ Err (Refused 35 reasons.Words)
unfolding count_step decimal_value
words = refl

pub number : counts_of (count_with (codes "ITEM 0 12 1" ∷ [])) ≡ Err (Refused 35 (reasons.Value 1 OutOfRange))
unfolding count_step decimal_value
number = refl

pub twice : counts_of (count_with (codes "ITEM 1 12 1.25" ∷ codes "ITEM 1 3 1" ∷ [])) ≡ Err (Refused 50 reasons.Twice)
unfolding count_step decimal_value
twice = refl

pub again : counts_of (count_with (codes "END" ∷ codes "COUNT 100001" ∷ [])) ≡ Err (Refused 39 reasons.Twice)
unfolding count_step decimal_value
again = refl

pub none : counts_of [] ≡ Ok []
unfolding count_step decimal_value
none = refl

-- ---- choices

pub at_first : (change : Line) (changes : List Line) (counters : Bool) → choice_with (change ∷ changes) counters 0 ≡ Adjust (change ∷ changes)
at_first change changes true = refl
at_first change changes false = refl

pub at_second : (change : Line) (changes : List Line) (counters : Bool) → choice_with (change ∷ changes) counters 1 ≡ Wait
at_second change changes true = refl
at_second change changes false = refl

-- ---- lines

pub stays : (line : Line) → line.quantity ≡ 0 → change_of None line ≡ None
stays line e = ap (λ (n : ℕ). if n == 0 then None else Some (uncounted line)) e

pub left_out : (line : Line) → line.quantity ≡ 3 → change_of None line ≡ Some (uncounted line)
left_out line e = ap (λ (n : ℕ). if n == 0 then None else Some (uncounted line)) e

equal : (a b : ℕ) → b ≡ a → (a == b) ≡ true
equal a b e = grind (arith, nat_tests)

pub same_line : (line : Line) (counted : Counted) → counted.quantity ≡ line.quantity → counted.cost ≡ line.cost → change_of (Some counted) line ≡ None
same_line line counted q k =
    ap (λ (b : Bool). if b && (line.cost == counted.cost) then None else Some (recounted counted line)) (equal line.quantity counted.quantity q)
    ∙ ap (λ (b : Bool). if b then None else Some (recounted counted line)) (equal line.cost counted.cost k)

differ : (a b : ℕ) → a ≡ 12 → b ≡ 10 → (a == b) ≡ false
differ a b p q = grind (arith, nat_tests)

pub fewer_units : (line : Line) (counted : Counted) → line.quantity ≡ 12 → counted.quantity ≡ 10 → change_of (Some counted) line ≡ Some (recounted counted line)
fewer_units line counted q k = ap (λ (b : Bool). if b && (line.cost == counted.cost) then None else Some (recounted counted line)) (differ line.quantity counted.quantity q k)
