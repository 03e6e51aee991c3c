-- Each proposal of a legal list ends a chain, and keeps it.
use Rattle.std.proofs.Common.{◌≡◌, ℕ, zero, suc, Bool, true, false, cond, ◌&&◌, ◌==◌, List, [], ◌∷◌, ◌++◌, Option, Some, None, option_map, filter, find, inl, inr, refl, ap, ◌∙◌, bytes_eq}
use Rattle.std.specs.Option.{option_or}
use Rattle.std.proofs.lemmas.Bool.{eq-eqb, eqb-true}
use Rattle.std.proofs.lemmas.List.Elements.{filter-append}
use Rattle.std.proofs.lemmas.List.Folds.{find-append}
use Rattle.std.proofs.lemmas.Slice.Eq.{bytes_eq-Decides}
use Rattle.dsd_record.specs.Chain.{Chain, with_adjusted}
use Rattle.dsd_record.specs.declared.set_view.SetView.{SetView}
use Rattle.dsd_record.specs.declared.set_view.SetView.TheVariants as sets
use Rattle.delivery_book.specs.Deeds.{Deed, check_in, level_in, number_in, proposals, proposes}
use Rattle.delivery_book.specs.Standing.{chain_at_base, chain_behind, chain_to, is_named, longer, named_of}
use Rattle.delivery_book.proofs.Members.{In}
use Rattle.delivery_book.proofs.Standings.{IsProposal, proposal_is}
use Rattle.delivery_book.proofs.Agreeing.{left_of}

-- ---- proposals behind more deeds

abbrev pub of_number : List ℕ → Deed → Bool
of_number number deed = bytes_eq (number_in deed.set) number

abbrev is_offer : Deed → Bool
is_offer deed = proposes deed.set

proposals_on : (number : List ℕ) (deeds more : List Deed) → proposals number (deeds ++ more) ≡ proposals number deeds ++ proposals number more
proposals_on number deeds more =
    ap (filter is_offer) (filter-append (of_number number) deeds more)
    ∙ filter-append is_offer (filter (of_number number) deeds) (filter (of_number number) more)

-- what is named stays named
pub named_on : (number : List ℕ) (level check : ℕ) (deeds more : List Deed) → named_of number level check (deeds ++ more) ≡ option_or (named_of number level check deeds) (named_of number level check more)
named_on number level check deeds more =
    ap (find (is_named level check)) (proposals_on number deeds more) ∙ find-append (is_named level check) (proposals number deeds) (proposals number more)

pub named_kept : (number : List ℕ) (level check : ℕ) (deeds more : List Deed) (deed : Deed) → named_of number level check deeds ≡ Some deed → named_of number level check (deeds ++ more) ≡ Some deed
named_kept number level check deeds more deed e =
    named_on number level check deeds more ∙ ap (λ (o : Option Deed). option_or o (named_of number level check more)) e

-- ---- chains behind more deeds

map_kept : {X Y : Type 0} (f : X → Y) (o o' : Option X) → ((x : X) → o ≡ Some x → o' ≡ Some x) → (y : Y) → option_map f o ≡ Some y → option_map f o' ≡ Some y
map_kept f (Some x) o' same y e = ap (option_map f) (same x refl) ∙ e
map_kept f None o' same y e = cc

longer_kept : (set : SetView) (below below' : ℕ → Option Chain) → ((check : ℕ) (x : Chain) → below check ≡ Some x → below' check ≡ Some x) → (chain : Chain) → longer set below ≡ Some chain → longer set below' ≡ Some chain
longer_kept (sets.Base base seal) below below' ih chain e = e
longer_kept (sets.Answer answer seal) below below' ih chain e = map_kept (λ (chain : Chain). with_adjusted chain (record { answer = answer; check = seal.check })) (below answer.check) (below' answer.check) (ih answer.check) chain e

base_kept : (o o' : Option Deed) → ((p : Deed) → o ≡ Some p → o' ≡ Some p) → (chain : Chain) → chain_at_base o ≡ Some chain → chain_at_base o' ≡ Some chain
base_kept (Some p) o' same chain e = ap chain_at_base (same p refl) ∙ e
base_kept None o' same chain e = cc

behind_kept : (o o' : Option Deed) (below below' : ℕ → Option Chain) → ((p : Deed) → o ≡ Some p → o' ≡ Some p) → ((check : ℕ) (x : Chain) → below check ≡ Some x → below' check ≡ Some x)
    → (chain : Chain) → chain_behind o below ≡ Some chain → chain_behind o' below' ≡ Some chain
behind_kept (Some p) o' below below' same ih chain e = ap (λ (o : Option Deed). chain_behind o below') (same p refl) ∙ longer_kept p.set below below' ih chain e
behind_kept None o' below below' same ih chain e = cc

-- a chain stays behind more deeds
pub chain_kept : (number : List ℕ) (deeds more : List Deed) (level check : ℕ) (chain : Chain) → chain_to number deeds level check ≡ Some chain → chain_to number (deeds ++ more) level check ≡ Some chain
chain_kept number deeds more zero check chain e =
    base_kept (named_of number 0 check deeds) (named_of number 0 check (deeds ++ more)) (named_kept number 0 check deeds more) chain e
chain_kept number deeds more (suc level) check chain e =
    behind_kept (named_of number (suc level) check deeds) (named_of number (suc level) check (deeds ++ more)) (chain_to number deeds level) (chain_to number (deeds ++ more) level)
    (named_kept number (suc level) check deeds more) (chain_kept number deeds more level) chain e

-- ---- one more deed is found

find_past : {X : Type 0} (test : X → Bool) (x : X) (xs : List X) (b : Bool) → test x ≡ b → (test x ≡ true → ⊥) → find test xs ≡ None → cond b (Some x) (find test xs) ≡ None
find_past test x xs true e never ih = absurd (never e)
find_past test x xs false e never ih = ih

none_find : {X : Type 0} (test : X → Bool) (xs : List X) → ((x : X) → In x xs → test x ≡ true → ⊥) → find test xs ≡ None
none_find test [] none = refl
none_find test (x ∷ xs) none = find_past test x xs (test x) refl (none x (inl refl)) (none_find test xs (λ y h. none y (inr h)))

pub both_of : (a b : Bool) → a ≡ true → b ≡ true → (a && b) ≡ true
both_of true b e f = f
both_of false b e f = cc

pub is_named_so : (level check : ℕ) (deed : Deed) → level_in deed.set ≡ level → check_in deed.set ≡ check → is_named level check deed ≡ true
is_named_so level check deed l c = both_of (level_in deed.set == level) (check_in deed.set == check) (eq-eqb (level_in deed.set) level l) (eq-eqb (check_in deed.set) check c)

named_alone : (number : List ℕ) (level check : ℕ) (deed : Deed) → number_in deed.set ≡ number → proposes deed.set ≡ true → level_in deed.set ≡ level → check_in deed.set ≡ check → named_of number level check (deed ∷ []) ≡ Some deed
named_alone number level check deed n p l c =
    ap (λ (b : Bool). find (is_named level check) (filter is_offer (cond b (deed ∷ []) []))) ((bytes_eq-Decides (number_in deed.set) number).1 n)
    ∙ ap (λ (b : Bool). find (is_named level check) (cond b (deed ∷ []) [])) p
    ∙ ap (λ (b : Bool). cond b (Some deed) None) (is_named_so level check deed l c)

-- a proposal more, of a level that none of its delivery has, is the one of its level and check
pub named_new : (number : List ℕ) (level check : ℕ) (deeds : List Deed) (deed : Deed) → number_in deed.set ≡ number → proposes deed.set ≡ true → level_in deed.set ≡ level → check_in deed.set ≡ check
    → ((p : Deed) → IsProposal number deeds p → level_in p.set ≡ level → ⊥) → named_of number level check (deeds ++ deed ∷ []) ≡ Some deed
named_new number level check deeds deed n p l c apart =
    named_on number level check deeds (deed ∷ [])
    ∙ ap (λ (o : Option Deed). option_or o (named_of number level check (deed ∷ [])))
    (none_find (is_named level check) (proposals number deeds) (λ q h t. apart q (proposal_is number deeds q h) (eqb-true (level_in q.set) level (left_of (level_in q.set == level) (check_in q.set == check) t))))
    ∙ named_alone number level check deed n p l c
