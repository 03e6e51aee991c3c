-- Versions that are right: the first, and what an answer leaves.
use Rattle.std.proofs.Common.{◌≡◌, ◌≤◌, ℕ, pos, true, List, [], ◌∷◌, length, Some, Ok, Result, option_map, refl, sym, ap, ◌∙◌}
use Rattle.std.specs.List.{All}
use Rattle.std.specs.Result.{result_ok}
use Rattle.std.proofs.lemmas.List.Elements.{All-same}
use Rattle.dsd_pricing.specs.Pricing.{priced, quantities, totals_of}
use Rattle.dsd_pricing.specs.declared.amounts.Totals.{Totals}
use Rattle.dsd_pricing.specs.declared.fault.PriceFault.{PriceFault}
use Rattle.dsd_values.specs.Calendar.{Date}
use Rattle.dsd_values.specs.declared.cents.TheConstants.Cents.{MAX as MOST_CENTS}
use Rattle.dsd_values.specs.declared.extra.Extra.{Extra}
use Rattle.dsd_values.specs.declared.flag.Flag.{Flag}
use Rattle.dsd_values.specs.declared.limits.TheConstants.{MOST_LINES}
use Rattle.dsd_values.specs.declared.line.Line.{Line}
use Rattle.transaction_set.specs.Extras.{HasExtras}
use Rattle.base_record_894.specs.BaseRecord.{BaseRecord}
use Rattle.base_record_894.specs.RecordText.{IsBase}
use Rattle.base_record_894.proofs.Amounts.{totals_priced}
use Rattle.base_record_894.proofs.Made.{base_lines}
use Rattle.adjustment_895.specs.AnswerRecord.{AnswerRecord}
use Rattle.adjustment_895.specs.AnswerText.{IsAnswer}
use Rattle.adjustment_895.specs.Grammar.{has_none}
use Rattle.adjustment_895.proofs.Made.{answer_lines}
use Rattle.dsd_record.specs.Applying.{Applies, adjusted, lines_after, rows_fault, totals_fault}
use Rattle.dsd_record.specs.Chain.{chain_from, version_of, version_with}
use Rattle.dsd_record.specs.LineChanges.{changed}
use Rattle.transaction_set.specs.SoundLines.{IsSoundLine}
use Rattle.dsd_record.specs.Version.{IsVersion, Version}
use Rattle.dsd_record.specs.declared.fault.ApplyFault.TheVariants.{Limit}
use Rattle.dsd_record.proofs.Changed.{all_changed, apart_changed}
use Rattle.dsd_record.proofs.Faults.{enough_few, held, second_after}
use Rattle.dsd_record.proofs.Prices.{price_behind, quantity_kept}

-- ---- the first version

pub first_right : (base : BaseRecord) (check : ℕ) (totals : Totals) → IsBase base → totals_of base.lines base.extras ≡ Ok totals → IsVersion (version_with (chain_from base check) totals)
first_right base check totals is price = record { sound = is.sound; each = (base_lines base is).sound; price = price }

-- what was put together field by field
pub first_is : (base : BaseRecord) (flag : Flag) (number : List ℕ) (day : Date) (lines : List Line) (extras : List Extra) (totals : Totals) (level check : ℕ)
    → flag ≡ base.flag → number ≡ base.number → day ≡ base.day → lines ≡ base.lines → extras ≡ base.extras → level ≡ 0
    → record { flag = flag; number = number; day = day; lines = lines; extras = extras; totals = totals; level = level; check = check } ≡ version_with (chain_from base check) totals
first_is base flag number day lines extras totals level check f n d l x z = rw (f, n, d, l, x, z) refl

-- is the version of its base record
pub first_made : (base : BaseRecord) (version : Version) (check : ℕ) (totals : Totals) → version ≡ version_with (chain_from base check) totals → totals_of base.lines base.extras ≡ Ok totals
    → version_of (chain_from base check) ≡ Some version
first_made base version check totals is price =
    ap (λ (r : Result Totals PriceFault). option_map (version_with (chain_from base check)) (result_ok r)) price ∙ ap (λ (v : Version). Some v) (sym is)

-- ---- the kept totals

no_lines : (lines : List Line) → has_none lines ≡ true → lines ≡ []
no_lines [] e = refl
no_lines (line ∷ lines) e = cc

-- an acknowledgement is compared with them
pub kept_rows : (version : Version) (answer : AnswerRecord) → IsVersion version → has_none answer.lines ≡ true
    → totals_fault answer version.totals.quantity (pos version.totals.amount) ≡ rows_fault answer (lines_after version answer) version.extras
kept_rows version answer is none =
    let few = held _ (Limit (length version.lines)) (enough_few (length version.lines) MOST_LINES is.sound.limit) in
    ap (λ (q : ℕ). totals_fault answer q (pos version.totals.amount)) (quantity_kept version.lines version.extras version.totals is.price)
    ∙ ap (totals_fault answer (quantities version.lines)) (totals_priced version.lines version.extras version.totals.quantity version.totals.amount is.price)
    ∙ sym (second_after _ (totals_fault answer (quantities version.lines) (priced version.lines version.extras)) few)
    ∙ ap (λ (changes : List Line). rows_fault answer (changed version.lines changes) version.extras) (sym (no_lines answer.lines none))

-- ---- what an answer leaves

-- what stands behind the lines after it
pub behind_after : (lines now after : List Line) (answer : AnswerRecord) → All HasExtras lines → IsAnswer answer → now ≡ answer.lines → after ≡ changed lines now → All HasExtras after
behind_after lines now after answer behind is same made =
    All-same HasExtras after (changed lines now) made (all_changed HasExtras lines now behind (All-same HasExtras now answer.lines same is.sound.behind))

pub adjusted_right : (version : Version) (answer : AnswerRecord) (check : ℕ) → IsVersion version → IsAnswer answer → answer.amount ≤ MOST_CENTS → Applies version answer → IsVersion (adjusted version answer check)
adjusted_right version answer check is given low applies = record {
  sound = record {
    apart = apart_changed version.lines answer.lines is.sound.apart;
    limit = applies.few;
    behind = all_changed HasExtras version.lines answer.lines is.sound.behind given.sound.behind;
    beside = is.sound.beside;
  };
  each = all_changed IsSoundLine version.lines answer.lines is.each (answer_lines answer given).sound;
  price = price_behind version answer low applies;
}

-- what was changed field by field
pub adjusted_is : (old version : Version) (answer : AnswerRecord) (lines : List Line) (quantity amount level check : ℕ)
    → old ≡ version → lines ≡ lines_after version answer → quantity ≡ answer.quantity → amount ≡ answer.amount → level ≡ answer.level
    → record old { lines = lines; totals = record { quantity = quantity; amount = amount }; level = level; check = check } ≡ adjusted version answer check
adjusted_is old version answer lines quantity amount level check v l q a n = rw (v, l, q, a, n) refl
