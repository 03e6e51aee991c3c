-- Lines among which others are put: as a map holds them, apart, and of a kind.
use Rattle.std.proofs.Common.{◌≡◌, Bor, ℕ, ◌+◌, ◌<◌, ◌==◌, nat_eq, Bool, true, false, IsTrue, IsSome, List, [], ◌∷◌, ◌++◌, Option, Some, None, length, take, get_or, map, if◌then◌else◌, refl, sym, ap, subst, ◌∙◌, inl, inr, append_assoc, append-nil, arith}
use Rattle.std.specs.List.{All}
use Rattle.std.proofs.lemmas.Bool.{cases_Bool}
use Rattle.std.proofs.lemmas.Bool.Decides.{nat_tests}
use Rattle.std.proofs.lemmas.List.Elements.{All-cons, All-head, All-tail}
use Rattle.std.proofs.lemmas.List.Sums.{fold_more}
use Rattle.std.specs.Option.{is_some, option_copied}
use Rattle.std.specs.Map.{lookup}
use Rattle.indexmap.specs.IndexMap.{insert_entry}
use Rattle.dsd_values.specs.declared.line.Line.{Line}
use Rattle.transaction_set.specs.Grammar.{AreApart}
use Rattle.transaction_set.specs.Reasons.{has_line}
use Rattle.transaction_set.proofs.Apart.{apart_at}
use Rattle.transaction_set.proofs.Small.{both_false, or_false, turned}
use Rattle.dsd_record.specs.LineChanges.{changed, line_under, numbered, put}

-- ---- as a map holds them

pub values_numbered : (lines : List Line) → map (λ (e : ℕ × Line). e.1) (numbered lines) ≡ lines
values_numbered [] = refl
values_numbered (line ∷ lines) = ap (λ (xs : List Line). line ∷ xs) (values_numbered lines)

same_number : (a b : ℕ) → nat_eq a b ≡ true → a ≡ b
same_number a b e = grind (arith, nat_tests)

turned_true : (a b : ℕ) → (a == b) ≡ true → (b == a) ≡ true
turned_true a b e = grind (arith, nat_tests)

-- a map puts a line among its lines
pub insert_put : (lines : List Line) (new : Line) → insert_entry nat_eq (numbered lines) new.dsd new ≡ numbered (put lines new)
insert_put [] new = refl
insert_put (line ∷ lines) new = elim (cases_Bool (nat_eq new.dsd line.dsd)) [
  | inl same ↦ rw same (ap (λ (n : ℕ). (n, new) ∷ numbered lines) (sym (same_number new.dsd line.dsd same)))
  | inr other ↦ rw other (ap (λ (xs : List (ℕ × Line)). (line.dsd, line) ∷ xs) (insert_put lines new))
]

-- one change more
pub changed_more : (entries after : List (ℕ × Line)) (before changes : List Line) (i : ℕ) (change : Line) → i < length changes → change ≡ get_or changes i change
    → entries ≡ numbered (changed before (take i changes)) → after ≡ insert_entry nat_eq entries change.dsd change → after ≡ numbered (changed before (take (i + 1) changes))
changed_more entries after before changes i change lt is so_far step =
    step ∙ ap (λ (es : List (ℕ × Line)). insert_entry nat_eq es change.dsd change) so_far ∙ insert_put (changed before (take i changes)) change
    ∙ ap numbered (ap (put (changed before (take i changes))) is ∙ sym (fold_more put before changes i change lt))

-- ---- apart

-- a number that stands nowhere goes last
put_absent : (lines : List Line) (new : Line) → has_line new.dsd lines ≡ false → put lines new ≡ lines ++ new ∷ []
put_absent [] new none = refl
put_absent (line ∷ lines) new none =
    let both = or_false (line.dsd == new.dsd) (has_line new.dsd lines) none in
    rw (turned line.dsd new.dsd both.0) (ap (λ (xs : List Line). line ∷ xs) (put_absent lines new both.1))

-- lines apart from others go behind them
put_behind : (before lines : List Line) → AreApart (before ++ lines) → changed before lines ≡ before ++ lines
put_behind before [] apart = sym (append-nil before)
put_behind before (line ∷ lines) apart =
    let join : (before ++ line ∷ []) ++ lines ≡ before ++ line ∷ lines = append_assoc before (line ∷ []) lines in
    ap (λ (xs : List Line). changed xs lines) (put_absent before line (apart_at before line lines apart))
    ∙ put_behind (before ++ line ∷ []) lines (subst AreApart (sym join) apart) ∙ join

-- lines apart are themselves where there were none
pub from_nothing : (lines : List Line) → AreApart lines → changed [] lines ≡ lines
from_nothing lines apart = put_behind [] lines apart

-- the values of a map that was empty before
pub made_of : (entries : List (ℕ × Line)) (lines now : List Line) → entries ≡ [] → now ≡ lines → AreApart lines → changed (map (λ (e : ℕ × Line). e.1) entries) now ≡ lines
made_of entries lines now none same apart =
    ap (λ (es : List (ℕ × Line)). changed (map (λ (e : ℕ × Line). e.1) es) now) none ∙ ap (changed []) same ∙ from_nothing lines apart

-- what was first copied into an empty map, and then changed
pub copied_changed : (entries first after : List (ℕ × Line)) (lines now changes more : List Line) → entries ≡ [] → now ≡ lines → more ≡ changes → AreApart lines
    → first ≡ numbered (changed (map (λ (e : ℕ × Line). e.1) entries) now) → after ≡ numbered (changed (map (λ (e : ℕ × Line). e.1) first) more) → after ≡ numbered (changed lines changes)
copied_changed entries first after lines now changes more none same is apart copied put_them =
    let held : map (λ (e : ℕ × Line). e.1) first ≡ lines = ap (map (λ (e : ℕ × Line). e.1)) copied ∙ values_numbered (changed (map (λ (e : ℕ × Line). e.1) entries) now) ∙ made_of entries lines now none same apart in
    put_them ∙ ap (λ (xs : List Line). numbered (changed xs more)) held ∙ ap (λ (xs : List Line). numbered (changed lines xs)) is

-- ---- the line with a number

pub under_lookup : (dsd : ℕ) (lines : List Line) → lookup (nat_eq dsd) (numbered lines) ≡ line_under dsd lines
under_lookup dsd [] = refl
under_lookup dsd (line ∷ lines) = ap (λ (r : Option Line). if dsd == line.dsd then Some line else r) (under_lookup dsd lines)

some_under : (dsd : ℕ) (lines : List Line) → is_some (line_under dsd lines) ≡ has_line dsd lines
some_under dsd [] = refl
some_under dsd (line ∷ lines) = elim (cases_Bool (dsd == line.dsd)) [
  | inl same ↦ rw (same, turned_true dsd line.dsd same) refl
  | inr other ↦ rw (other, turned dsd line.dsd other) (some_under dsd lines)
]

is_copied : (found : Option (Bor Line)) → is_some found ≡ is_some (option_copied found)
is_copied (Some line) = refl
is_copied None = refl

-- there is one exactly where a line has the number
pub found_under : (found : Option (Bor Line)) (dsd : ℕ) (lines : List Line) → option_copied found ≡ line_under dsd lines
    → (IsSome found → IsTrue (has_line dsd lines)) × (IsTrue (has_line dsd lines) → IsSome found)
found_under found dsd lines e =
    let same : is_some found ≡ has_line dsd lines = is_copied found ∙ ap is_some e ∙ some_under dsd lines in
    (λ some. sym same ∙ some, λ has. same ∙ has)

-- ---- of a kind

module _ (P : Line → Type 0) where
  by_place : (b : Bool) (line new : Line) (lines rest : List Line) → P new → P line → All P lines → All P rest → All P (if b then new ∷ lines else line ∷ rest)
  by_place true line new lines rest n l behind more = All-cons P new lines n behind
  by_place false line new lines rest n l behind more = All-cons P line rest l more

  all_put : (lines : List Line) (new : Line) → All P lines → P new → All P (put lines new)
  all_put [] new all n = All-cons P new [] n all
  all_put (line ∷ lines) new all n =
      by_place (new.dsd == line.dsd) line new lines (put lines new) n (All-head P line lines all) (All-tail P line lines all) (all_put lines new (All-tail P line lines all) n)

  -- what holds of the lines and of the changes holds of what they make
  pub all_changed : (lines changes : List Line) → All P lines → All P changes → All P (changed lines changes)
  all_changed lines [] all each = all
  all_changed lines (change ∷ changes) all each =
      all_changed (put lines change) changes (all_put lines change all (All-head P change changes each)) (All-tail P change changes each)

-- a number that neither stands nor comes does not stand then
none_put : (dsd : ℕ) (lines : List Line) (new : Line) → has_line dsd lines ≡ false → (new.dsd == dsd) ≡ false → has_line dsd (put lines new) ≡ false
none_put dsd [] new none other = both_false (new.dsd == dsd) false other refl
none_put dsd (line ∷ lines) new none other =
    let both = or_false (line.dsd == dsd) (has_line dsd lines) none in
    by (new.dsd == line.dsd) both.0 both.1 (none_put dsd lines new both.1 other)
  where
    by : (b : Bool) → (line.dsd == dsd) ≡ false → has_line dsd lines ≡ false → has_line dsd (put lines new) ≡ false → has_line dsd (if b then new ∷ lines else line ∷ put lines new) ≡ false
    by true here behind goes_on = both_false (new.dsd == dsd) (has_line dsd lines) other behind
    by false here behind goes_on = both_false (line.dsd == dsd) (has_line dsd (put lines new)) here goes_on

apart_put : (lines : List Line) (new : Line) → AreApart lines → AreApart (put lines new)
apart_put [] new apart = (refl, tt)
apart_put (line ∷ lines) new apart = by (new.dsd == line.dsd) refl (apart_put lines new apart.1)
  where
    by : (b : Bool) → (new.dsd == line.dsd) ≡ b → AreApart (put lines new) → AreApart (if b then new ∷ lines else line ∷ put lines new)
    by true same goes_on = (subst (λ (n : ℕ). has_line n lines ≡ false) (sym (same_number new.dsd line.dsd same)) apart.0, apart.1)
    by false other goes_on = (none_put line.dsd lines new apart.0 other, goes_on)

pub apart_changed : (lines changes : List Line) → AreApart lines → AreApart (changed lines changes)
apart_changed lines [] apart = apart
apart_changed lines (change ∷ changes) apart = apart_changed (put lines change) changes (apart_put lines change apart)
