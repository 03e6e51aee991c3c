-- A chain with one adjustment more, and its version.
use Rattle.std.proofs.Common.{◌≡◌, ◌≢◌, ◌≤◌, ℕ, ◌+◌, Bool, false, if◌then◌else◌, List, [], ◌∷◌, ◌++◌, length, map, Some, Result, Ok, Err, refl, sym, ap, subst, ◌∙◌, option_map, OnOk, arith}
use Rattle.std.specs.List.{flat_map, range_with_len}
use Rattle.std.specs.Result.{result_ok}
use Rattle.dsd_pricing.specs.Pricing.{totals_of}
use Rattle.dsd_pricing.specs.declared.amounts.Totals.{Totals}
use Rattle.dsd_pricing.specs.declared.fault.PriceFault.{PriceFault}
use Rattle.dsd_values.specs.declared.cents.TheConstants.Cents.{MAX as MOST_CENTS}
use Rattle.dsd_values.specs.declared.line.Line.{Line}
use Rattle.adjustment_895.specs.AnswerRecord.{AnswerRecord}
use Rattle.adjustment_895.specs.Grammar.{has_none}
use Rattle.dsd_record.specs.Applying.{Applies, Refuses, adjusted, applied, apply_fault}
use Rattle.dsd_record.specs.Chain.{Adjusted, Chain, FollowOn, Follows, GoesOn, IsChained, chain_from, last_check, lines_of, version_of, version_with, with_adjusted}
use Rattle.dsd_record.specs.LineChanges.{changed, put}
use Rattle.dsd_record.specs.Version.{Version}
use Rattle.dsd_record.specs.declared.fault.ApplyFault.{ApplyFault}
use Rattle.dsd_record.proofs.Faults.{faultless}
use Rattle.dsd_record.proofs.Prices.{price_behind}

-- ---- adjustments on a version

abbrev own_lines : Adjusted → List Line
own_lines adjustment = adjustment.answer.lines

-- the version behind all of these
abbrev behind : Version → List Adjusted → Version
behind version [] = version
behind version (x ∷ xs) = behind (adjusted version x.answer x.check) xs

-- one more follows on the version behind the others
follow_more : (version : Version) (xs : List Adjusted) (x : Adjusted) → FollowOn version xs → Follows (behind version xs) x.answer → FollowOn version (xs ++ x ∷ [])
follow_more version [] x all last = (last, tt)
follow_more version (y ∷ ys) x all last = (all.0, follow_more (adjusted version y.answer y.check) ys x all.1 last)

behind_more : (version : Version) (xs : List Adjusted) (x : Adjusted) → behind version (xs ++ x ∷ []) ≡ adjusted (behind version xs) x.answer x.check
behind_more version [] x = refl
behind_more version (y ∷ ys) x = behind_more (adjusted version y.answer y.check) ys x

-- its rows have a price all along
priced_on : (version : Version) (xs : List Adjusted) → FollowOn version xs → totals_of version.lines version.extras ≡ Ok version.totals
    → totals_of (behind version xs).lines (behind version xs).extras ≡ Ok (behind version xs).totals
priced_on version [] all price = price
priced_on version (x ∷ xs) all price = priced_on (adjusted version x.answer x.check) xs all.1 all.0.price

some_lines : (lines : List Line) → lines ≢ [] → has_none lines ≡ false
some_lines [] has = absurd (has refl)
some_lines (line ∷ lines) has = refl

next_level : (version : Version) (answer : AnswerRecord) → Follows version answer → answer.level ≡ version.level + 1
next_level version answer f = f.applies.named.level ∙ ap (λ (b : Bool). if b then version.level else version.level + 1) (some_lines answer.lines f.adjusts)

changed_on : (lines first second : List Line) → changed lines (first ++ second) ≡ changed (changed lines first) second
changed_on lines [] second = refl
changed_on lines (line ∷ first) second = changed_on (put lines line) first second

-- the version that has come to these lines, totals, level and check
abbrev become : Version → List Line → Totals → ℕ → ℕ → Version
become version lines totals level check = record version { lines = lines; totals = totals; level = level; check = check }

-- the lines are changed in turn, the levels count up, and the check is the last one
behind_is : (version : Version) (xs : List Adjusted) → FollowOn version xs
    → behind version xs ≡ become version (changed version.lines (flat_map own_lines xs)) (behind version xs).totals (version.level + length xs) (last_check version.check xs)
behind_is version [] all = ap (λ (n : ℕ). become version version.lines version.totals n version.check) (omega arith)
behind_is version (x ∷ xs) all =
    let level : x.answer.level ≡ version.level + 1 = next_level version x.answer all.0 in
    let count : x.answer.level + length xs ≡ version.level + length (x ∷ xs) = omega arith in
    let next : Version = adjusted version x.answer x.check in
    behind_is next xs all.1
    ∙ ap (λ (lines : List Line). become version lines (behind next xs).totals (x.answer.level + length xs) (last_check x.check xs)) (sym (changed_on version.lines x.answer.lines (flat_map own_lines xs)))
    ∙ ap (λ (n : ℕ). become version (changed version.lines (flat_map own_lines (x ∷ xs))) (behind next xs).totals n (last_check x.check xs)) count

-- ---- the version of a chain

none_more : (n : ℕ) → 0 + n ≡ n
none_more n = omega arith

-- it is the version behind the adjustments of the chain
chain_makes : (chain : Chain) → (is : IsChained chain) → version_of chain ≡ Some (behind (version_with (chain_from chain.base chain.check) is.totals) chain.adjustments)
chain_makes chain is =
    let first : Version = version_with (chain_from chain.base chain.check) is.totals in
    let last : Version = behind first chain.adjustments in
    let made : last ≡ become first (lines_of chain) last.totals (0 + length chain.adjustments) (last_check chain.check chain.adjustments) = behind_is first chain.adjustments is.follow in
    let whole : last ≡ version_with chain last.totals = made ∙ ap (λ (n : ℕ). become first (lines_of chain) last.totals n (last_check chain.check chain.adjustments)) (none_more (length chain.adjustments)) in
    let price : totals_of (lines_of chain) chain.base.extras ≡ Ok last.totals =
    subst (λ (v : Version). totals_of v.lines v.extras ≡ Ok last.totals) whole (priced_on first chain.adjustments is.follow is.price) in
    ap (λ (r : Result Totals PriceFault). option_map (version_with chain) (result_ok r)) price ∙ ap (λ (v : Version). Some v) (sym whole)

same_version : (a b : Version) → Some a ≡ Some b → a ≡ b
same_version a b e = cc

pub goes_on : (old new : Version) (answer : AnswerRecord) (check : ℕ) → answer.amount ≤ MOST_CENTS → Applies old answer → new ≡ applied old answer check → answer.lines ≢ [] → GoesOn old new (record { answer = answer; check = check })
goes_on old new answer check low applies made has chain is of_chain =
    let x : Adjusted = record { answer = answer; check = check } in
    let first : Version = version_with (chain_from chain.base chain.check) is.totals in
    let last : old ≡ behind first chain.adjustments = same_version old (behind first chain.adjustments) (sym of_chain ∙ chain_makes chain is) in
    let follows : Follows old answer = record { adjusts = has; applies = applies; price = price_behind old answer low applies } in
    let on : IsChained (with_adjusted chain x) =
    record { totals = is.totals; price = is.price; follow = follow_more first chain.adjustments x is.follow (subst (λ (v : Version). Follows v answer) last follows) } in
    let step : new ≡ adjusted old answer check = made ∙ ap (λ (b : Bool). if b then old else adjusted old answer check) (some_lines answer.lines has) in (
      on,
      chain_makes (with_adjusted chain x) on ∙ ap (λ (v : Version). Some v) (behind_more first chain.adjustments x ∙ ap (λ (v : Version). adjusted v answer check) (sym last) ∙ sym step),
    )

-- what a call says of chains
pub chain_kept : (result : Result (Unit {0}) ApplyFault) (old new : Version) (answer : AnswerRecord) (check : ℕ) → answer.amount ≤ MOST_CENTS → Refuses result (apply_fault old answer) (λ _. new ≡ applied old answer check)
    → answer.lines ≢ [] → OnOk result (GoesOn old new (record { answer = answer; check = check }))
chain_kept (Ok done) old new answer check low is has = goes_on old new answer check low (faultless old answer is.0) is.1 has
chain_kept (Err fault) old new answer check low is has = tt

-- ---- the levels

levels_from : (version : Version) (xs : List Adjusted) → FollowOn version xs → map (λ (adjustment : Adjusted). adjustment.answer.level) xs ≡ range_with_len (version.level + 1) (length xs)
levels_from version [] all = refl
levels_from version (x ∷ xs) all =
    let level : x.answer.level ≡ version.level + 1 = next_level version x.answer all.0 in
    ap (λ (ns : List ℕ). x.answer.level ∷ ns) (levels_from (adjusted version x.answer x.check) xs all.1) ∙ ap (λ (n : ℕ). n ∷ range_with_len (n + 1) (length xs)) level

pub levels_count : (chain : Chain) → IsChained chain → map (λ (adjustment : Adjusted). adjustment.answer.level) chain.adjustments ≡ range_with_len 1 (length chain.adjustments)
levels_count chain is = levels_from (version_with (chain_from chain.base chain.check) is.totals) chain.adjustments is.follow
