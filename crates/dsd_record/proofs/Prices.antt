-- What the rows of versions come to, against what is stated of them.
use Rattle.std.proofs.Common.{◌≡◌, ◌≤◌, ℕ, ℤ, pos, negsuc, Bool, true, false, if◌then◌else◌, int_lt, List, Ok, Err, Result, unsigned_abs, refl, sym, ap, subst, ◌∙◌}
use Rattle.dsd_pricing.specs.Pricing.{priced, quantities, totals_of}
use Rattle.dsd_pricing.specs.declared.amounts.Totals.{Totals}
use Rattle.dsd_pricing.specs.declared.fault.PriceFault.{PriceFault}
use Rattle.dsd_pricing.specs.declared.fault.PriceFault.TheVariants.{Negative, TooLarge}
use Rattle.dsd_values.specs.declared.cents.TheConstants.Cents.{MAX as MOST_CENTS}
use Rattle.dsd_values.specs.declared.extra.Extra.{Extra}
use Rattle.dsd_values.specs.declared.line.Line.{Line}
use Rattle.transaction_set.proofs.Small.{at_most}
use Rattle.base_record_894.proofs.Amounts.{priced_totals, totals_priced}
use Rattle.adjustment_895.specs.AnswerRecord.{AnswerRecord}
use Rattle.dsd_record.specs.Applying.{Applies, lines_after, stated_by}
use Rattle.dsd_record.specs.ChangedPrice.{IsPriceAfter}
use Rattle.dsd_record.specs.Naming.{Names, proposal_of}
use Rattle.dsd_record.specs.Version.{Version}

-- ---- totals that rows have

-- the sum can be stated, and these state it
record AreStated (below above : Bool) (quantity : ℕ) (sum : ℤ) (totals : Totals) : Type 0 where
  some : below ≡ false
  small : above ≡ false
  same_quantity : totals.quantity ≡ quantity
  same_amount : totals.amount ≡ unsigned_abs sum

abbrev by_tests : Bool → Bool → ℕ → ℤ → Result Totals PriceFault
by_tests below above quantity sum = if below then Err (Negative sum) else (if above then Err (TooLarge sum) else Ok (record { quantity = quantity; amount = unsigned_abs sum }))

are_stated : (below above : Bool) (quantity : ℕ) (sum : ℤ) (totals : Totals) → by_tests below above quantity sum ≡ Ok totals → AreStated below above quantity sum totals
are_stated true above quantity sum totals e = cc
are_stated false true quantity sum totals e = cc
are_stated false false quantity sum totals e =
    let same : record { quantity = quantity; amount = unsigned_abs sum } ≡ totals = cc (e) in
    record { some = refl; small = refl; same_quantity = ap (λ (t : Totals). t.quantity) (sym same); same_amount = ap (λ (t : Totals). t.amount) (sym same) }

stated_so : (lines : List Line) (extras : List Extra) (totals : Totals) → totals_of lines extras ≡ Ok totals
    → AreStated (int_lt (priced lines extras) (pos 0)) (int_lt (pos MOST_CENTS) (priced lines extras)) (quantities lines) (priced lines extras) totals
stated_so lines extras totals e = are_stated (int_lt (priced lines extras) (pos 0)) (int_lt (pos MOST_CENTS) (priced lines extras)) (quantities lines) (priced lines extras) totals e

pub quantity_kept : (lines : List Line) (extras : List Extra) (totals : Totals) → totals_of lines extras ≡ Ok totals → totals.quantity ≡ quantities lines
quantity_kept lines extras totals e = (stated_so lines extras totals e).same_quantity

-- a sum that can be stated
sum_low : (sum : ℤ) → int_lt sum (pos 0) ≡ false → int_lt (pos MOST_CENTS) sum ≡ false → unsigned_abs sum ≤ MOST_CENTS
sum_low (pos n) below above = at_most MOST_CENTS n above
sum_low (negsuc n) below above = cc

pub amount_low : (lines : List Line) (extras : List Extra) (totals : Totals) → totals_of lines extras ≡ Ok totals → totals.amount ≤ MOST_CENTS
amount_low lines extras totals e =
    let s = stated_so lines extras totals e in
    subst (λ (n : ℕ). n ≤ MOST_CENTS) (sym s.same_amount) (sum_low (priced lines extras) s.some s.small)

-- ---- totals that are stated

with_quantity : (price : Result Totals PriceFault) (quantity other amount : ℕ) → price ≡ Ok (record { quantity = quantity; amount = amount }) → other ≡ quantity → price ≡ Ok (record { quantity = other; amount = amount })
with_quantity price quantity other amount e same = e ∙ ap (λ (n : ℕ). (let r : Result Totals PriceFault = Ok (record { quantity = n; amount = amount }) in r)) (sym same)

-- rows that come to an amount which a set can state have a price
pub price_stated : (lines : List Line) (extras : List Extra) (quantity amount : ℕ) → amount ≤ MOST_CENTS → quantity ≡ quantities lines → pos amount ≡ priced lines extras
    → totals_of lines extras ≡ Ok (record { quantity = quantity; amount = amount })
price_stated lines extras quantity amount low q a = with_quantity (totals_of lines extras) (quantities lines) quantity amount (priced_totals lines extras amount low a) q

-- the rows behind an answer that applies have the price that it states
pub price_behind : (version : Version) (answer : AnswerRecord) → answer.amount ≤ MOST_CENTS → Applies version answer → totals_of (lines_after version answer) version.extras ≡ Ok (stated_by answer)
price_behind version answer low a = price_stated (lines_after version answer) version.extras answer.quantity answer.amount low a.quantity a.amount

-- and where they have it, and the answer names the version, it applies
pub at_price : (version : Version) (answer : AnswerRecord) → answer.flag ≡ version.flag → Names answer (proposal_of version) → IsPriceAfter version answer.lines (stated_by answer) → Applies version answer
at_price version answer flag named price = record {
  flag = flag;
  named = named;
  few = price.few;
  quantity = quantity_kept (lines_after version answer) version.extras (stated_by answer) price.price;
  amount = totals_priced (lines_after version answer) version.extras answer.quantity answer.amount price.price;
}

pub price_after : (version : Version) (answer : AnswerRecord) → answer.amount ≤ MOST_CENTS → Applies version answer → IsPriceAfter version answer.lines (stated_by answer)
price_after version answer low a = record { few = a.few; price = price_behind version answer low a }
