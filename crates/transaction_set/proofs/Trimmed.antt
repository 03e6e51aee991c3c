-- Texts without the stars at their end, and the table of the lines' numbers.
use Rattle.std.proofs.Common.{◌≡◌, ◌≢◌, ℕ, ◌<◌, ◌==◌, ◌||◌, if◌then◌else◌, zero, suc, take, ◌-◌, ◌≤◌, Bool, true, false, List, [], ◌∷◌, ◌++◌, length, get_or, set, inl, inr, length-append, refl, sym, ap, ◌∙◌, arith, replicate, Result, Ok, Err, OnOk, OnErr, subst}
use Rattle.std.proofs.lemmas.Bool.Decides.{nat_tests}
use Rattle.std.proofs.lemmas.Bool.{cases_eq}
use Rattle.std.proofs.lemmas.List.{get_or-set_same, get_or-set_other, take_all}
use Rattle.std.proofs.lemmas.List.Folds.{list_any-append}
use Rattle.std.proofs.lemmas.List.Elements.{All-nil}
use Rattle.dsd_values.specs.Behind.{with_extra}
use Rattle.dsd_values.specs.declared.extra.Extra.{Extra}
use Rattle.dsd_values.specs.declared.line.Line.{Line}
use Rattle.transaction_set.specs.Extras.{HasExtras, IsSized}
use Rattle.transaction_set.specs.Reasons.{has_line, last_extras}
use Rattle.transaction_set.specs.Numbers.{HasRoom, IsTable}
use Rattle.dsd_values.specs.declared.limits.TheConstants.{MOST_LINES}
use Rattle.transaction_set.proofs.Behind.{behind_extra, behind_push, has_extra, length_extra}

pub no_lines : (lines : List Line) (stands : List Bool) → lines ≡ [] → stands ≡ [] → IsTable lines stands
no_lines lines stands l e = rw (l, e) (record { few = omega arith; behind = All-nil HasExtras; tells = λ dsd. refl })

-- one more extra behind the last line leaves the numbers as they are
table_extra : (extra : Extra) (lines new : List Line) (stands : List Bool) → IsTable lines stands → IsSized true extra → HasRoom extra (last_extras lines) → new ≡ with_extra extra lines → IsTable new stands
table_extra extra lines new stands table sized room same = subst (λ (u : List Line). IsTable u stands) (sym same) (record {
  few = omega (arith, length_extra extra lines, table.few);
  behind = behind_extra extra lines table.behind sized room;
  tells = λ dsd. table.tells dsd ∙ sym (has_extra dsd extra lines);
})

pub table_either : {X F : Type 0} (answer : Result X F) (extra : Extra) (lines new : List Line) (stands : List Bool) → IsTable lines stands → IsSized true extra → HasRoom extra (last_extras lines)
    → OnOk answer (new ≡ with_extra extra lines) → OnErr answer (new ≡ lines) → IsTable new stands
table_either (Ok x) extra lines new stands table sized room ok err = table_extra extra lines new stands table sized room ok
table_either (Err f) extra lines new stands table sized room ok err = subst (λ (u : List Line). IsTable u stands) (sym err) table

-- ---- a table that has grown

false_in : (k n : ℕ) → get_or (replicate k false) n false ≡ false
false_in zero n = refl
false_in (suc k) zero = refl
false_in (suc k) (suc n) = false_in k n

false_behind : (xs : List Bool) (k n : ℕ) → get_or (xs ++ replicate k false) n false ≡ get_or xs n false
false_behind [] k n = false_in k n
false_behind (x ∷ xs) k zero = refl
false_behind (x ∷ xs) k (suc n) = false_behind xs k n

pub grown : (old new : List Bool) (size : ℕ) (ok : Bool) → new ≡ (if ok then take size old ++ replicate (size - length old) false else old) → length old ≤ size
    → (n : ℕ) → get_or new n false ≡ get_or old n false
grown old new size true e h n =
    ap (λ (t : List Bool). get_or t n false) (e ∙ ap (λ (t : List Bool). t ++ replicate (size - length old) false) (take_all size old h)) ∙ false_behind old (size - length old) n
grown old new size false e h n = ap (λ (t : List Bool). get_or t n false) e

pub table_grown : (lines : List Line) (old new : List Bool) → IsTable lines old → ((n : ℕ) → get_or new n false ≡ get_or old n false) → IsTable lines new
table_grown lines old new table same = record { few = table.few; behind = table.behind; tells = λ dsd. same dsd ∙ table.tells dsd }

-- ---- one more line

with_itself : (b : Bool) → (b || (true || false)) ≡ true
with_itself true = refl
with_itself false = refl

with_other : (b : Bool) → (b || (false || false)) ≡ b
with_other true = refl
with_other false = refl

has_last : (dsd : ℕ) (lines : List Line) (line : Line) → has_line dsd (lines ++ line ∷ []) ≡ (has_line dsd lines || ((line.dsd == dsd) || false))
has_last dsd lines line = list_any-append (λ (other : Line). other.dsd == dsd) lines (line ∷ [])

pub table_push : (lines new : List Line) (line : Line) (stands : List Bool) (n : ℕ) → IsTable lines stands → length lines < MOST_LINES → line.extras ≡ [] → n ≡ line.dsd → n < length stands → new ≡ lines ++ line ∷ []
    → IsTable new (set stands n true)
table_push lines new line stands n table room bare is inside same = subst (λ (u : List Line). IsTable u (set stands n true)) (sym same) (record {
  few = omega (arith, length-append lines (line ∷ []), room);
  behind = behind_push lines line table.behind bare;
  tells = tells;
})
  where
    tells : (dsd : ℕ) → get_or (set stands n true) dsd false ≡ has_line dsd (lines ++ line ∷ [])
    tells dsd = elim (cases_eq line.dsd dsd) [
      | inl here ↦
          let test : (line.dsd == dsd) ≡ true = grind (arith, nat_tests) in
          let at : n ≡ dsd = is ∙ here in
          ap (λ (k : ℕ). get_or (set stands n true) k false) (sym at) ∙ get_or-set_same stands n true false inside
          ∙ sym (has_last dsd lines line ∙ ap (λ (b : Bool). has_line dsd lines || (b || false)) test ∙ with_itself (has_line dsd lines))
      | inr other ↦
          let test : (line.dsd == dsd) ≡ false = grind (arith, nat_tests) in
          let apart : dsd ≢ n = λ e. other (sym is ∙ sym e) in
          get_or-set_other stands n dsd true false apart ∙ table.tells dsd
          ∙ sym (has_last dsd lines line ∙ ap (λ (b : Bool). has_line dsd lines || (b || false)) test ∙ with_other (has_line dsd lines))
    ]
