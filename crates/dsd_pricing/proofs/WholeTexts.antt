-- The text of a set that is written, and why it is not.
use Rattle.std.proofs.Common.{◌≡◌, ◌⊎◌, ℕ, ◌<◌, ◌≤◌, inl, inr, true, false, nat_lt, List, length, Option, Some, None, Result, Ok, Err, refl, sym, ◌∙◌, ap, arith}
use Rattle.std.proofs.lemmas.Bool.{cases_Bool}
use Rattle.std.proofs.lemmas.Bool.Decides.{nat_tests}
use Rattle.dsd_values.specs.declared.limits.TheConstants.{SET_BYTES}
use Rattle.dsd_pricing.specs.WholeText.{unless_too_long, whole}
use Rattle.dsd_pricing.specs.declared.fault.PriceFault.{PriceFault}
use Rattle.dsd_pricing.specs.declared.fault.WriteFault.{WriteFault}
use Rattle.dsd_pricing.specs.declared.fault.WriteFault.TheVariants.{LongSegment, LongSet, Price, Memory}

-- a text that is written: no segment is too long, and all of them are no more bytes than a set may have
pub record IsWhole (long : Option ℕ) (all text : List ℕ) : Type 0 where
  pub none : long ≡ None
  pub same : all ≡ text
  pub short : length text ≤ SET_BYTES

pub whole_is : (long : Option ℕ) (all text : List ℕ) → whole (unless_too_long long all) ≡ Ok text → IsWhole long all text
whole_is (Some size) all text e = cc
whole_is None all text e =
    elim (cases_Bool (nat_lt 262_144 (length all))) [
      | inl long ↦ let no : Err (LongSet (length all)) ≡ Ok text = rw long at e in cc
      | inr short ↦
          let is : Ok all ≡ Ok text = rw short at e in
          let same : all ≡ text = cc (is) in
          let size = ap length same in
          let few : length all ≤ 262_144 = grind (arith, nat_tests) in
          record { none = refl; same = same; short = omega arith }
    ]

-- no segment is too long, or the first that is has this length
pub none_long : (long : Option ℕ) (all text : List ℕ) → long ≡ None → text ≡ all → Ok text ≡ unless_too_long long all
none_long long all text none same = ap (λ (t : List ℕ). Ok t) same ∙ ap (λ (l : Option ℕ). unless_too_long l all) (sym none)

pub one_long : (long : Option ℕ) (all : List ℕ) (size : ℕ) → long ≡ Some size → Err (LongSegment size) ≡ unless_too_long long all
one_long long all size some = ap (λ (l : Option ℕ). unless_too_long l all) (sym some)

-- rows are not refused for a price
pub never_priced : {X : Type 0} (long : Option ℕ) (text : List ℕ) (answer : Result X WriteFault) (passed : WriteFault) → answer ≡ Err passed → (passed ≡ Memory) ⊎ (unless_too_long long text ≡ Err passed) → (fault : PriceFault) → answer ≡ Err (Price fault) → ⊥
never_priced long text answer passed e (inl none) fault g = let no : Err Memory ≡ Err (Price fault) = ap (λ (u : WriteFault). Err u) (sym none) ∙ sym e ∙ g in cc
never_priced (Some size) text answer passed e (inr is) fault g =
    let no : answer ≡ Err (LongSegment size) = cc in
    cc
never_priced None text answer passed e (inr is) fault g = cc

-- the text that was answered is the one of all rows
pub text_is : (long : Option ℕ) (all text : List ℕ) → unless_too_long long all ≡ Ok text → (long ≡ None) × (all ≡ text)
text_is (Some size) all text e = cc
text_is None all text e = (refl, cc (e))

-- what is answered of the text of all rows, which is judged by its length
pub whole_short : (long : Option ℕ) (all text : List ℕ) → unless_too_long long all ≡ Ok text → length text ≤ SET_BYTES → whole (unless_too_long long all) ≡ Ok text
whole_short long all text e short = let low : nat_lt 262_144 (length text) ≡ false = grind (arith, nat_tests) in ap whole e ∙ rw low refl

pub whole_long : (long : Option ℕ) (all text : List ℕ) → unless_too_long long all ≡ Ok text → SET_BYTES < length text → whole (unless_too_long long all) ≡ Err (LongSet (length text))
whole_long long all text e over = let high : nat_lt 262_144 (length text) ≡ true = grind (arith, nat_tests) in ap whole e ∙ rw high refl

pub whole_refused : (long : Option ℕ) (all : List ℕ) (passed : WriteFault) → (passed ≡ Memory) ⊎ (unless_too_long long all ≡ Err passed) → (passed ≡ Memory) ⊎ (whole (unless_too_long long all) ≡ Err passed)
whole_refused long all passed (inl none) = inl none
whole_refused long all passed (inr e) = inr (ap whole e)
