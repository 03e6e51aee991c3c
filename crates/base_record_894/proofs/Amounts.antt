-- Stated amounts against what rows come to, and rows that have a price.
use Rattle.std.proofs.Common.{◌≡◌, ◌≤◌, ℕ, ℤ, pos, Bool, true, false, not, IsTrue, IsSome, List, Option, Some, None, Result, Ok, Err, negsuc, int_lt, unsigned_abs, if◌then◌else◌, arith, length, refl, sym, ap, ◌∙◌, int_eq}
use Rattle.std.specs.List.{All}
use Rattle.std.specs.Option.{option_or}
use Rattle.std.proofs.lemmas.Bool.Decides.{Decides-int_eq, nat_tests}
use Rattle.std.proofs.lemmas.List.Elements.{All-weaker}
use Rattle.dsd_pricing.specs.Pricing.{ArePriced, HasSizeIn, priced, quantities, size_by, totals_from, totals_of}
use Rattle.dsd_pricing.specs.declared.amounts.Totals.{Totals}
use Rattle.dsd_pricing.specs.declared.fault.PriceFault.{PriceFault}
use Rattle.dsd_pricing.specs.declared.fault.PriceFault.TheVariants.{Negative, TooLarge}
use Rattle.dsd_values.proofs.Laws.{number_spelled}
use Rattle.dsd_values.specs.Reading.{cents_of}
use Rattle.dsd_values.specs.declared.cents.TheConstants.Cents.{MAX as MOST_CENTS}
use Rattle.dsd_values.specs.declared.extra.Extra.{Extra}
use Rattle.dsd_values.specs.declared.extra.Extra.TheVariants.{Allow, Note}
use Rattle.dsd_values.specs.declared.limits.TheConstants.{MOST_LINES}
use Rattle.dsd_values.specs.declared.line.Line.{Line}
use Rattle.transaction_set.specs.Allowances.{has_size}
use Rattle.transaction_set.specs.Extras.{AreExtras, HasExtras, IsSized}

-- ---- stated amounts

not_true : (b : Bool) → not b ≡ false → b ≡ true
not_true true e = refl
not_true false e = cc

pub same_amount : (said : ℕ) (computed : ℤ) → not (int_eq (pos said) computed) ≡ false → pos said ≡ computed
same_amount said computed e = (Decides-int_eq (pos said) computed).0 (not_true _ e)

pub amount_same : (said : ℕ) (computed : ℤ) → pos said ≡ computed → not (int_eq (pos said) computed) ≡ false
amount_same said computed e = ap not ((Decides-int_eq (pos said) computed).1 e)

-- ---- the price

-- a sum that can be stated is neither below nor above what can be
abbrev by_tests : Bool → Bool → ℕ → ℤ → Result Totals PriceFault
by_tests below above quantity sum = if below then Err (Negative sum) else (if above then Err (TooLarge sum) else Ok (record { quantity = quantity; amount = unsigned_abs sum }))

can_be : (below above : Bool) (quantity : ℕ) (sum : ℤ) (totals : Totals) → by_tests below above quantity sum ≡ Ok totals → (below ≡ false) × (above ≡ false) × (totals ≡ record { quantity = quantity; amount = unsigned_abs sum })
can_be true above quantity sum totals e = cc
can_be false true quantity sum totals e = cc
can_be false false quantity sum totals e = (refl, refl, cc (e))

itself : (sum : ℤ) (amount : ℕ) → int_lt sum (pos 0) ≡ false → amount ≡ unsigned_abs sum → pos amount ≡ sum
itself (pos n) amount e same = ap (λ (k : ℕ). pos k) same
itself (negsuc n) amount e same = cc

within : (sum : ℤ) → int_lt sum (pos 0) ≡ false → int_lt (pos MOST_CENTS) sum ≡ false → unsigned_abs sum ≤ MOST_CENTS
within (pos n) below above = grind (arith, nat_tests)
within (negsuc n) below above = cc

-- rows that have a price state these totals
pub record HaveTotals (lines : List Line) (extras : List Extra) (totals : Totals) : Type 0 where
  pub stated : totals ≡ record { quantity = quantities lines; amount = unsigned_abs (priced lines extras) }
  pub comes_to : pos totals.amount ≡ priced lines extras
  pub most : unsigned_abs (priced lines extras) ≤ MOST_CENTS

pub have_totals : (lines : List Line) (extras : List Extra) (totals : Totals) → totals_of lines extras ≡ Ok totals → HaveTotals lines extras totals
have_totals lines extras totals e =
    let sum : ℤ = priced lines extras in
    let s = can_be (int_lt sum (pos 0)) (int_lt (pos MOST_CENTS) sum) (quantities lines) sum totals e in
    record { stated = s.2; comes_to = itself sum totals.amount s.0 (ap (λ (t : Totals). t.amount) s.2); most = within sum s.0 s.1 }

pub totals_priced : (lines : List Line) (extras : List Extra) (quantity amount : ℕ) → totals_of lines extras ≡ Ok (record { quantity = quantity; amount = amount }) → pos amount ≡ priced lines extras
totals_priced lines extras quantity amount e = (have_totals lines extras (record { quantity = quantity; amount = amount }) e).comes_to

stated : (quantity amount : ℕ) → amount ≤ MOST_CENTS → totals_from quantity (pos amount) ≡ Ok (record { quantity = quantity; amount = amount })
stated quantity amount low =
    let small : int_lt (pos MOST_CENTS) (pos amount) ≡ false = grind (arith, nat_tests) in
    let some : int_lt (pos amount) (pos 0) ≡ false = grind (arith, nat_tests) in
    rw (some, small) refl

pub priced_totals : (lines : List Line) (extras : List Extra) (amount : ℕ) → amount ≤ MOST_CENTS → pos amount ≡ priced lines extras → totals_of lines extras ≡ Ok (record { quantity = quantities lines; amount = amount })
priced_totals lines extras amount low e = ap (totals_from (quantities lines)) (sym e) ∙ stated (quantities lines) amount low

never_ok : (fault : PriceFault) (totals : Totals) → Err fault ≡ Ok totals → ⊥
never_ok fault totals e = cc

-- what is asked of rows that have a price is answered by it
pub price_refused : (lines : List Line) (extras : List Extra) (now : List Line) (beside : List Extra) (fault : PriceFault) (quantity amount : ℕ) → now ≡ lines → beside ≡ extras
    → totals_of lines extras ≡ Ok (record { quantity = quantity; amount = amount }) → Err fault ≡ totals_of now beside → ⊥
price_refused lines extras now beside fault quantity amount l x price e =
    let same : totals_of now beside ≡ totals_of lines extras = ap (λ (u : List Line). totals_of u beside) l ∙ ap (λ (u : List Extra). totals_of lines u) x in
    never_ok fault (record { quantity = quantity; amount = amount }) (e ∙ same ∙ price)

pub price_answer : (lines : List Line) (extras : List Extra) (now : List Line) (beside : List Extra) (totals : Totals) → now ≡ lines → beside ≡ extras
    → Ok totals ≡ totals_of now beside → pos totals.amount ≡ priced lines extras
price_answer lines extras now beside totals l x e =
    let same : totals_of now beside ≡ totals_of lines extras = ap (λ (u : List Line). totals_of u beside) l ∙ ap (λ (u : List Extra). totals_of lines u) x in
    totals_priced lines extras totals.quantity totals.amount (sym (e ∙ same))

pub amount_is : (amount : ℕ) (sum : ℤ) → pos amount ≡ sum → amount ≡ unsigned_abs sum
amount_is amount sum e = ap unsigned_abs e

pub cents_low : (text : List ℕ) (cents : ℕ) → cents_of text ≡ Ok cents → cents ≤ MOST_CENTS
cents_low text cents e = ((number_spelled 0 MOST_CENTS text (cents_of text) refl cents).0 e).at_most

-- ---- sizes

-- a size in a line is one with the quantity of the line
size_inside : (total rate quantity percent : Option ℕ) (units basis : ℕ) → IsTrue (has_size true total rate quantity percent) → IsSome (size_by total rate (option_or quantity (Some units)) percent basis)
size_inside (Some total) rate quantity percent units basis h = refl
size_inside None (Some rate) (Some quantity) percent units basis h = refl
size_inside None (Some rate) None percent units basis h = refl
size_inside None None quantity (Some percent) units basis h = refl
size_inside None None quantity None units basis h = cc

-- and one at record level has its own
size_beside : (total rate quantity percent : Option ℕ) (basis : ℕ) → IsTrue (has_size false total rate quantity percent) → IsSome (size_by total rate (option_or quantity None) percent basis)
size_beside (Some total) rate quantity percent basis h = refl
size_beside None (Some rate) (Some quantity) percent basis h = refl
size_beside None (Some rate) None percent basis h = cc
size_beside None None quantity (Some percent) basis h = refl
size_beside None None quantity None basis h = cc

sized_inside : (units : ℕ) (extra : Extra) → IsSized true extra → HasSizeIn (Some units) extra
sized_inside units (Allow a) h = λ basis counts. size_inside a.total a.rate a.quantity a.percent units basis (h counts)
sized_inside units (Note text) h = tt

sized_beside : (extra : Extra) → IsSized false extra → HasSizeIn None extra
sized_beside (Allow a) h = λ basis counts. size_beside a.total a.rate a.quantity a.percent basis (h counts)
sized_beside (Note text) h = tt

pub line_sized : (line : Line) → HasExtras line → All (HasSizeIn (Some line.quantity)) line.extras
line_sized line h = All-weaker (IsSized true) (HasSizeIn (Some line.quantity)) (sized_inside line.quantity) line.extras h.sized

-- what was read has a price
pub are_priced : (lines : List Line) (extras : List Extra) → length lines ≤ MOST_LINES → All HasExtras lines → AreExtras false extras → ArePriced lines extras
are_priced lines extras few behind beside = record {
  few = few;
  in_lines = All-weaker HasExtras (λ (line : Line). All (HasSizeIn (Some line.quantity)) line.extras) line_sized lines behind;
  in_record = All-weaker (IsSized false) (HasSizeIn None) sized_beside extras beside.sized;
}
