-- Extras behind the last of some lines, and beside others.
use Rattle.std.proofs.Common.{◌≡◌, ℕ, suc, ◌+◌, ◌≤◌, ◌<◌, ◌==◌, ◌||◌, Bool, true, cond, List, [], ◌∷◌, ◌++◌, length, fold, refl, sym, ap, ◌∙◌, subst, arith, append_assoc, append-nil}
use Rattle.std.specs.List.{All}
use Rattle.std.proofs.lemmas.List.Elements.{All-cons, All-nil, All-head, All-tail, All-push}
use Rattle.std.proofs.lemmas.List.Sums.{fold-append}
use Rattle.dsd_values.specs.Behind.{extended, with_extra}
use Rattle.dsd_values.proofs.Behinds.{with_extra_last}
use Rattle.dsd_values.specs.declared.allowance.Allowance.{Allowance}
use Rattle.dsd_values.specs.declared.extra.Extra.{Extra}
use Rattle.dsd_values.specs.declared.extra.Extra.TheVariants.{Allow, Note}
use Rattle.dsd_values.specs.declared.limits.TheConstants.{MOST_ALLOWANCES}
use Rattle.dsd_values.specs.declared.line.Line.{Line}
use Rattle.transaction_set.specs.Extras.{AreExtras, HasExtras, IsSized, allowances, is_allowance}
use Rattle.transaction_set.specs.Grammar.{AreApart}
use Rattle.transaction_set.specs.Numbers.{HasRoom}
use Rattle.transaction_set.specs.Reasons.{has_line, last_extras}

-- ---- the last line

pub last_extras_last : (lines : List Line) (line : Line) → last_extras (lines ++ line ∷ []) ≡ line.extras
last_extras_last [] line = refl
last_extras_last (first ∷ []) line = refl
last_extras_last (first ∷ next ∷ lines) line = last_extras_last (next ∷ lines) line

pub has_extra : (dsd : ℕ) (extra : Extra) (lines : List Line) → has_line dsd (with_extra extra lines) ≡ has_line dsd lines
has_extra dsd extra [] = refl
has_extra dsd extra (line ∷ []) = refl
has_extra dsd extra (line ∷ next ∷ lines) = ap (λ (b : Bool). (line.dsd == dsd) || b) (has_extra dsd extra (next ∷ lines))

pub apart_extra : (extra : Extra) (lines : List Line) → AreApart lines → AreApart (with_extra extra lines)
apart_extra extra [] a = tt
apart_extra extra (line ∷ []) a = a
apart_extra extra (line ∷ next ∷ lines) a = (has_extra line.dsd extra (next ∷ lines) ∙ a.0, apart_extra extra (next ∷ lines) a.1)

pub length_extra : (extra : Extra) (lines : List Line) → length (with_extra extra lines) ≡ length lines
length_extra extra [] = refl
length_extra extra (line ∷ []) = refl
length_extra extra (line ∷ next ∷ lines) = ap (λ (n : ℕ). suc n) (length_extra extra (next ∷ lines))

-- ---- how many allowances there are

pub one_more : (extras : List Extra) (extra : Extra) → allowances (extras ++ extra ∷ []) ≡ allowances extras + cond (is_allowance extra) 1 0
one_more extras extra = fold-append (λ (n : ℕ) (e : Extra). n + cond (is_allowance e) 1 0) 0 extras (extra ∷ [])

few_more : (extras : List Extra) (extra : Extra) → allowances extras ≤ MOST_ALLOWANCES → HasRoom extra extras → allowances (extras ++ extra ∷ []) ≤ MOST_ALLOWANCES
few_more extras (Allow allowance) few room = omega (arith, one_more extras (Allow allowance), room)
few_more extras (Note text) few room = omega (arith, one_more extras (Note text), few)

pub extras_push : (inside : Bool) (extras : List Extra) (extra : Extra) → AreExtras inside extras → IsSized inside extra → HasRoom extra extras → AreExtras inside (extras ++ extra ∷ [])
extras_push inside extras extra are sized room = record { sized = All-push (IsSized inside) extras extra are.sized sized; few = few_more extras extra are.few room }

pub no_extras : (inside : Bool) → AreExtras inside []
no_extras inside = record { sized = All-nil (IsSized inside); few = omega arith }

pub behind_push : (lines : List Line) (line : Line) → All HasExtras lines → line.extras ≡ [] → All HasExtras (lines ++ line ∷ [])
behind_push lines line behind bare = All-push HasExtras lines line behind (subst (AreExtras true) (sym bare) (no_extras true))

pub behind_extra : (extra : Extra) (lines : List Line) → All HasExtras lines → IsSized true extra → HasRoom extra (last_extras lines) → All HasExtras (with_extra extra lines)
behind_extra extra [] behind sized room = behind
behind_extra extra (line ∷ []) behind sized room =
    All-cons HasExtras (extended extra line) [] (extras_push true line.extras extra (All-head HasExtras line [] behind) sized room) (All-nil HasExtras)
behind_extra extra (line ∷ next ∷ lines) behind sized room =
    All-cons HasExtras line (with_extra extra (next ∷ lines)) (All-head HasExtras line (next ∷ lines) behind)
    (behind_extra extra (next ∷ lines) (All-tail HasExtras line (next ∷ lines) behind) sized room)

-- ---- many extras behind the last line

abbrev pub with_extras : List Extra → List Line → List Line
with_extras [] lines = lines
with_extras (extra ∷ extras) lines = with_extras extras (with_extra extra lines)

abbrev pub extended_by : Line → List Extra → Line
extended_by line extras = record line { extras = line.extras ++ extras }

pub with_extras_last : (extras : List Extra) (lines : List Line) (line : Line) → with_extras extras (lines ++ line ∷ []) ≡ lines ++ extended_by line extras ∷ []
with_extras_last [] lines line = ap (λ (es : List Extra). lines ++ record line { extras = es } ∷ []) (sym (append-nil line.extras))
with_extras_last (extra ∷ extras) lines line =
    ap (with_extras extras) (with_extra_last extra lines line)
    ∙ with_extras_last extras lines (extended extra line)
    ∙ ap (λ (es : List Extra). lines ++ record line { extras = es } ∷ []) (append_assoc line.extras (extra ∷ []) extras)

-- ---- room for one more allowance, where a set has it

some_allowances : (allowance : Allowance) (inside : List Extra) (extras : List Extra) → allowances (extras ++ Allow allowance ∷ inside) ≤ MOST_ALLOWANCES → allowances extras < MOST_ALLOWANCES
some_allowances allowance inside extras most =
    let whole : allowances (extras ++ Allow allowance ∷ inside) ≡ fold (λ (n : ℕ) (e : Extra). n + cond (is_allowance e) 1 0) (allowances extras + 1) inside =
    fold-append (λ (n : ℕ) (e : Extra). n + cond (is_allowance e) 1 0) 0 extras (Allow allowance ∷ inside) in
    omega (arith, whole, grows inside (allowances extras + 1), most)
  where
    grows : (extras : List Extra) (n : ℕ) → n ≤ fold (λ (k : ℕ) (e : Extra). k + cond (is_allowance e) 1 0) n extras
    grows [] n = omega arith
    grows (extra ∷ extras) n = let more = grows extras (n + cond (is_allowance extra) 1 0) in omega arith

pub room_beside : (allowance : Allowance) (extras more : List Extra) → allowances (extras ++ Allow allowance ∷ more) ≤ MOST_ALLOWANCES → allowances extras < MOST_ALLOWANCES
room_beside allowance extras more most = some_allowances allowance more extras most

extended_first : (extras : List Extra) (line next : Line) (lines : List Line) → with_extras extras (line ∷ next ∷ lines) ≡ line ∷ with_extras extras (next ∷ lines)
extended_first [] line next lines = refl
extended_first (extra ∷ extras) line next [] = extended_first extras line (extended extra next) []
extended_first (extra ∷ extras) line next (more ∷ lines) = extended_first extras line next (with_extra extra (more ∷ lines))

pub room_inside : (allowance : Allowance) (inside : List Extra) (lines more : List Line) → All HasExtras (with_extras (Allow allowance ∷ inside) lines ++ more) → allowances (last_extras lines) < MOST_ALLOWANCES
room_inside allowance inside [] more behind = omega arith
room_inside allowance inside (line ∷ []) more behind =
    let last : with_extras (Allow allowance ∷ inside) (line ∷ []) ≡ extended_by line (Allow allowance ∷ inside) ∷ [] = with_extras_last (Allow allowance ∷ inside) [] line in
    let all = subst (λ (u : List Line). All HasExtras (u ++ more)) last behind in
    some_allowances allowance inside line.extras (All-head HasExtras (extended_by line (Allow allowance ∷ inside)) more all).few
room_inside allowance inside (line ∷ next ∷ lines) more behind =
    let first : with_extras (Allow allowance ∷ inside) (line ∷ next ∷ lines) ≡ line ∷ with_extras (Allow allowance ∷ inside) (next ∷ lines) = extended_first (Allow allowance ∷ inside) line next lines in
    let all = subst (λ (u : List Line). All HasExtras (u ++ more)) first behind in
    room_inside allowance inside (next ∷ lines) more (All-tail HasExtras line (with_extras (Allow allowance ∷ inside) (next ∷ lines) ++ more) all)
