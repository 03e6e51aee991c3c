-- Lines that have a price on a version are such as an answer may state.
use Rattle.std.proofs.Common.{◌≡◌, ◌≤◌, ℕ, ◌*◌, List, length, Option, Result, Ok, Err, OnOk, refl, subst, arith}
use Rattle.std.specs.List.{All}
use Rattle.std.specs.Result.{IfOk}
use Rattle.std.proofs.lemmas.List.Elements.{All-weaker}
use Rattle.std.proofs.lemmas.List.Sums.{sum_by-le}
use Rattle.dsd_pricing.specs.Pricing.{quantities}
use Rattle.dsd_pricing.specs.declared.amounts.Totals.{Totals}
use Rattle.dsd_values.proofs.Laws.{number_spelled}
use Rattle.dsd_values.specs.Reading.{quantity_of}
use Rattle.dsd_values.specs.SignatureRecord.{IsSignature, SignatureRecord}
use Rattle.dsd_values.specs.declared.limits.TheConstants.{MOST_LINES}
use Rattle.dsd_values.specs.declared.line.Line.{Line}
use Rattle.dsd_values.specs.declared.quantity.TheConstants.{MOST_TOTAL_QUANTITY}
use Rattle.dsd_values.specs.declared.quantity.TheConstants.Quantity.{MAX as MOST_QUANTITY}
use Rattle.transaction_set.specs.SoundLines.{AreSoundLines, IsSoundLine}
use Rattle.segments.specs.Views.{element_of}
use Rattle.adjustment_895.specs.AnswerText.{IsAnswer}
use Rattle.adjustment_895.specs.Grammar.{IsLevelled}
use Rattle.adjustment_895.specs.Making.{IsPlainHead, answer_made}
use Rattle.adjustment_895.specs.declared.head.AnswerHead.{AnswerHead}
use Rattle.adjustment_895.proofs.Made.{made_answer}
use Rattle.dsd_record.specs.ChangedPrice.{IsPriceAfter}
use Rattle.dsd_record.specs.Choices.{Chooser, ChoosesSoundly, IsSoundChoice}
use Rattle.dsd_record.specs.LineChanges.{changed}
use Rattle.dsd_record.specs.Version.{IsVersion, Version}
use Rattle.dsd_record.specs.declared.choice.Choice.{Choice}
use Rattle.dsd_record.specs.declared.choice.Choice.TheVariants.{Adjust}
use Rattle.dsd_record.specs.declared.price_after.ChangeFault.{ChangeFault}
use Rattle.dsd_record.proofs.Changed.{all_changed}
use Rattle.dsd_record.proofs.Counted.{changes_few}
use Rattle.dsd_record.proofs.Prices.{amount_low, quantity_kept}

quantity_low : (line : Line) → IsSoundLine line → line.quantity ≤ MOST_QUANTITY
quantity_low line is = ((number_spelled 0 MOST_QUANTITY (element_of is.item 2) (quantity_of (element_of is.item 2)) refl line.quantity).0 is.says.quantity).at_most

quantities_low : (lines : List Line) → All IsSoundLine lines → quantities lines ≤ length lines * MOST_QUANTITY
quantities_low lines all = sum_by-le (λ (line : Line). line.quantity) MOST_QUANTITY lines (All-weaker IsSoundLine (λ (line : Line). line.quantity ≤ MOST_QUANTITY) quantity_low lines all)

pub few_priced : (version : Version) (lines : List Line) (totals : Totals) → AreSoundLines lines → IsPriceAfter version lines totals → length lines ≤ MOST_LINES
few_priced version lines totals are price = let fewer = changes_few version.lines lines are.apart in let few = price.few in omega arith

pub small_priced : (version : Version) (lines : List Line) (totals : Totals) → IsVersion version → AreSoundLines lines → IsPriceAfter version lines totals → totals.quantity ≤ MOST_TOTAL_QUANTITY
small_priced version lines totals is are price =
    let rows : List Line = changed version.lines lines in
    let same = quantity_kept rows version.extras totals price.price in
    let low = quantities_low rows (all_changed IsSoundLine version.lines lines is.each are.sound) in
    let few = price.few in
    omega arith

-- what a call says of them
pub few_after : (version : Version) (lines : List Line) (answer : Result Totals ChangeFault) → AreSoundLines lines → IfOk answer (IsPriceAfter version lines) → OnOk answer (length lines ≤ MOST_LINES)
few_after version lines (Ok totals) are price = few_priced version lines totals are price
few_after version lines (Err fault) are price = tt

pub small_after : (version : Version) (lines : List Line) (answer : Result Totals ChangeFault) → IsVersion version → AreSoundLines lines → IfOk answer (IsPriceAfter version lines) → IfOk answer (λ (totals : Totals). totals.quantity ≤ MOST_TOTAL_QUANTITY)
small_after version lines (Ok totals) is are price = small_priced version lines totals is are price
small_after version lines (Err fault) is are price = tt

pub stated_of_chosen : (chooser : Chooser) (version : Version) (own_amount : Option ℕ) (lines : List Line) (totals : Totals) → ChoosesSoundly chooser → IsVersion version → chooser.choice version own_amount ≡ Adjust lines → IsPriceAfter version lines totals
    → (head : AnswerHead) (signature : SignatureRecord) → IsPlainHead head → IsLevelled lines head.level → IsSignature signature → IsAnswer (answer_made head lines totals signature)
stated_of_chosen chooser version own_amount lines totals sound is chosen price head signature plain levelled signed =
    let made : IsSoundChoice (Adjust lines) = subst (λ (c : Choice). IsSoundChoice c) chosen (sound version own_amount (record { sound = is.each; apart = is.sound.apart })) in
    made_answer head lines totals signature plain made.1 (few_priced version lines totals made.1 price) levelled (small_priced version lines totals is made.1 price)
    (amount_low (changed version.lines lines) version.extras totals price.price) signed
