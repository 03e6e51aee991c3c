-- What rows come to, of which there may be too many: each answer in its own words.
use Rattle.std.proofs.Common.{◌≡◌, ◌<◌, ◌≤◌, ℕ, true, Bool, List, length, nat_lt, if◌then◌else◌, Result, Ok, Err, inl, inr, sym, ◌∙◌, ap, arith}
use Rattle.std.specs.List.{All}
use Rattle.std.specs.Result.{IfOk, IfErr}
use Rattle.std.proofs.lemmas.Bool.{cases_Bool}
use Rattle.std.proofs.lemmas.Bool.Decides.{nat_tests}
use Rattle.dsd_pricing.specs.Pricing.{totals_of}
use Rattle.dsd_pricing.specs.declared.amounts.Totals.{Totals}
use Rattle.dsd_pricing.specs.declared.fault.PriceFault.{PriceFault}
use Rattle.dsd_values.specs.Answers.{UnlessMemory}
use Rattle.dsd_values.specs.declared.extra.Extra.{Extra}
use Rattle.dsd_values.specs.declared.limits.TheConstants.{MOST_LINES}
use Rattle.dsd_values.specs.declared.line.Line.{Line}
use Rattle.transaction_set.specs.Extras.{HasExtras}
use Rattle.transaction_set.proofs.Small.{at_most}
use Rattle.dsd_record.specs.ChangedPrice.{IsPriceAfter, IsRefused, as_change, price_with, totals_within}
use Rattle.dsd_record.specs.LineChanges.{changed}
use Rattle.transaction_set.specs.SoundLines.{AreSoundLines, IsSoundLine}
use Rattle.dsd_record.specs.Version.{IsVersion, Version}
use Rattle.dsd_record.specs.declared.price_after.ChangeFault.{ChangeFault}
use Rattle.dsd_record.specs.declared.price_after.ChangeFault.TheVariants.{Limit, Memory, Price}
use Rattle.dsd_record.proofs.Changed.{all_changed}

more : (a b : ℕ) → nat_lt a b ≡ true → a < b
more a b e = grind (arith, nat_tests)

-- ---- the price of rows as an answer about changes

change_ok : (price : Result Totals PriceFault) (totals : Totals) → as_change price ≡ Ok totals → price ≡ Ok totals
change_ok (Ok t) totals e = let same : t ≡ totals = cc (e) in ap (λ (u : Totals). Ok u) same
change_ok (Err f) totals e = cc

change_err : (price : Result Totals PriceFault) (fault : PriceFault) → as_change price ≡ Err (Price fault) → price ≡ Err fault
change_err (Ok t) fault e = cc
change_err (Err f) fault e = let same : f ≡ fault = cc (e) in ap (λ (u : PriceFault). Err u) same

change_limit : (price : Result Totals PriceFault) (lines : ℕ) → as_change price ≡ Err (Limit lines) → ⊥
change_limit (Ok t) lines e = cc
change_limit (Err f) lines e = cc

-- ---- too many rows, or not

module _ (lines : List Line) (extras : List Extra) where
  abbrev within : Bool → Result Totals ChangeFault
  within test = if test then Err (Limit (length lines)) else as_change (totals_of lines extras)

  within_ok : (totals : Totals) → totals_within lines extras ≡ Ok totals → (length lines ≤ MOST_LINES) × (totals_of lines extras ≡ Ok totals)
  within_ok totals e =
      elim (cases_Bool (nat_lt MOST_LINES (length lines))) [
        | inl long ↦ let never : Err (Limit (length lines)) ≡ Ok totals = sym (ap within long) ∙ e in cc
        | inr short ↦ (at_most MOST_LINES (length lines) short, change_ok (totals_of lines extras) totals (sym (ap within short) ∙ e))
      ]

  within_price : (fault : PriceFault) → totals_within lines extras ≡ Err (Price fault) → (length lines ≤ MOST_LINES) × (totals_of lines extras ≡ Err fault)
  within_price fault e =
      elim (cases_Bool (nat_lt MOST_LINES (length lines))) [
        | inl long ↦ let never : Err (Limit (length lines)) ≡ Err (Price fault) = sym (ap within long) ∙ e in cc
        | inr short ↦ (at_most MOST_LINES (length lines) short, change_err (totals_of lines extras) fault (sym (ap within short) ∙ e))
      ]

  within_limit : (n : ℕ) → totals_within lines extras ≡ Err (Limit n) → (MOST_LINES < length lines) × (n ≡ length lines)
  within_limit n e =
      elim (cases_Bool (nat_lt MOST_LINES (length lines))) [
        | inl long ↦ let same : Err (Limit (length lines)) ≡ Err (Limit n) = sym (ap within long) ∙ e in (more MOST_LINES (length lines) long, cc (same))
        | inr short ↦ absurd (change_limit (totals_of lines extras) n (sym (ap within short) ∙ e))
      ]

-- ---- the answers

pub found_after : (version : Version) (changes : List Line) (answer : Result Totals ChangeFault) → UnlessMemory Memory answer (price_with version changes) → IfOk answer (IsPriceAfter version changes)
found_after version changes (Ok totals) (inl none) = cc
found_after version changes (Ok totals) (inr e) =
    let is = within_ok (changed version.lines changes) version.extras totals (sym e) in
    record { few = is.0; price = is.1 }
found_after version changes (Err fault) u = tt

pub refused_after : (version : Version) (changes : List Line) (answer : Result Totals ChangeFault) → UnlessMemory Memory answer (price_with version changes) → IfErr answer (IsRefused version changes)
refused_after version changes (Ok totals) u = tt
refused_after version changes (Err (Limit n)) (inl none) = cc
refused_after version changes (Err (Limit n)) (inr e) = within_limit (changed version.lines changes) version.extras n (sym e)
refused_after version changes (Err (Price fault)) (inl none) = cc
refused_after version changes (Err (Price fault)) (inr e) = within_price (changed version.lines changes) version.extras fault (sym e)
refused_after version changes (Err Memory) u = tt

-- ---- what the lines have behind them

behind_each : (lines : List Line) → All IsSoundLine lines → All HasExtras lines
behind_each lines h = λ k d under. (h k d under).extras.limit

-- the lines after sound changes
pub behind_after : (version : Version) (changes : List Line) → IsVersion version → AreSoundLines changes → All HasExtras (changed version.lines changes)
behind_after version changes is are = all_changed HasExtras version.lines changes is.sound.behind (behind_each changes are.sound)
