-- Which deliveries a session may have to do with: those that an end knows, and those that it has drafts of.
use Rattle.std.proofs.Common.{◌≡◌, ◌⊎◌, ◌≤◌, ℕ, max, Bool, true, false, ◌||◌, cond, length, List, [], ◌∷◌, ◌++◌, map, refl, sym, ap, subst, inl, inr, arith}
use Rattle.std.specs.Prelude.{Contains}
use Rattle.std.specs.Str.{bytes_eq}
use Rattle.std.specs.List.{fold, list_any}
use Rattle.std.proofs.lemmas.Bool.{cases_eq}
use Rattle.std.proofs.lemmas.Slice.Eq.{bytes_eq-Decides}
use Rattle.base_record_894.specs.BaseRecord.{BaseRecord}
use Rattle.dsd_journal.specs.declared.entry.Entry.{Entry}
use Rattle.delivery_book.specs.Deeds.{Deed, deeds_of, number_in, of_delivery}
use Rattle.delivery_book.specs.Lookups.{numbers_of, with_number}
use Rattle.delivery_book.proofs.Members.{In, from_contains}
use Rattle.clean_sessions.specs.DeliveryStands.{sets_in}
use Rattle.clean_sessions.specs.SeatTurns.{Seat, deliveries_of}
use Rattle.clean_sessions.proofs.NumbersApart.{has}

-- ---- lists of numbers

or_left : (a b : Bool) → a ≡ true → (a || b) ≡ true
or_left true b e = refl
or_left false b e = absurd (cc)

or_right : (a b : Bool) → b ≡ true → (a || b) ≡ true
or_right true b e = refl
or_right false b e = e

either : (a b : Bool) → (a || b) ≡ true → (a ≡ true) ⊎ (b ≡ true)
either true b e = inl refl
either false b e = inr e

pub has_left : (number : List ℕ) (xs ys : List (List ℕ)) → has number xs ≡ true → has number (xs ++ ys) ≡ true
has_left number [] ys e = absurd (cc)
has_left number (x ∷ xs) ys e = elim (either (bytes_eq x number) (has number xs) e) [
  | inl here ↦ or_left (bytes_eq x number) (has number (xs ++ ys)) here
  | inr there ↦ or_right (bytes_eq x number) (has number (xs ++ ys)) (has_left number xs ys there)
]

pub has_right : (number : List ℕ) (xs ys : List (List ℕ)) → has number ys ≡ true → has number (xs ++ ys) ≡ true
has_right number [] ys e = e
has_right number (x ∷ xs) ys e = or_right (bytes_eq x number) (has number (xs ++ ys)) (has_right number xs ys e)

itself : (number : List ℕ) → bytes_eq number number ≡ true
itself number = (bytes_eq-Decides number number).1 refl

-- ---- known deliveries

any_has : (key : List ℕ) (numbers : List (List ℕ)) → list_any (bytes_eq key) numbers ≡ true → has key numbers ≡ true
any_has key [] e = absurd (cc)
any_has key (own ∷ more) e = elim (either (bytes_eq key own) (list_any (bytes_eq key) more) e) [
  | inl here ↦ or_left (bytes_eq own key) (has key more) ((bytes_eq-Decides own key).1 (sym ((bytes_eq-Decides key own).0 here)))
  | inr there ↦ or_right (bytes_eq own key) (has key more) (any_has key more there)
]

with_has : (key : List ℕ) (numbers : List (List ℕ)) → has key (with_number numbers key) ≡ true
with_has key numbers = by (list_any (bytes_eq key) numbers) refl
  where
    by : (b : Bool) → list_any (bytes_eq key) numbers ≡ b → has key (cond b numbers (numbers ++ key ∷ [])) ≡ true
    by true e = any_has key numbers e
    by false e = has_right key numbers (key ∷ []) (or_left (bytes_eq key key) false (itself key))

with_still : (number key : List ℕ) (numbers : List (List ℕ)) → has number numbers ≡ true → has number (with_number numbers key) ≡ true
with_still number key numbers e = by (list_any (bytes_eq key) numbers)
  where
    by : (b : Bool) → has number (cond b numbers (numbers ++ key ∷ [])) ≡ true
    by true = e
    by false = has_left number numbers (key ∷ []) e

abbrev behind : List (List ℕ) → List Deed → List (List ℕ)
behind numbers deeds = fold (λ known (deed : Deed). with_number known (number_in deed.set)) numbers deeds

fold_still : (number : List ℕ) (deeds : List Deed) (numbers : List (List ℕ)) → has number numbers ≡ true → has number (behind numbers deeds) ≡ true
fold_still number [] numbers e = e
fold_still number (deed ∷ deeds) numbers e = fold_still number deeds (with_number numbers (number_in deed.set)) (with_still number (number_in deed.set) numbers e)

fold_has : (number : List ℕ) (deeds : List Deed) (numbers : List (List ℕ)) → 1 ≤ length (of_delivery number deeds) → has number (behind numbers deeds) ≡ true
fold_has number [] numbers some = absurd (omega (arith, some))
fold_has number (deed ∷ deeds) numbers some =
    by (bytes_eq (number_in deed.set) number) refl some (fold_has number deeds (with_number numbers (number_in deed.set)))
  where
    by : (b : Bool) → bytes_eq (number_in deed.set) number ≡ b → 1 ≤ length (cond b (deed ∷ of_delivery number deeds) (of_delivery number deeds))
        → (1 ≤ length (of_delivery number deeds) → has number (behind (with_number numbers (number_in deed.set)) deeds) ≡ true) → has number (behind (with_number numbers (number_in deed.set)) deeds) ≡ true
    by true same some later = fold_still number deeds (with_number numbers (number_in deed.set)) (subst (λ (n : List ℕ). has n (with_number numbers (number_in deed.set)) ≡ true) ((bytes_eq-Decides (number_in deed.set) number).0 same) (with_has (number_in deed.set) numbers))
    by false differs some later = later some

pub known_has : (number : List ℕ) (entries : List Entry) → 1 ≤ sets_in number entries → has number (numbers_of entries) ≡ true
known_has number entries some = fold_has number (deeds_of entries) [] some

-- ---- drafts

in_has : (drafts : List BaseRecord) (draft : BaseRecord) → In draft drafts → has draft.number (map (λ (d : BaseRecord). d.number) drafts) ≡ true
in_has [] draft h = absurd h
in_has (one ∷ drafts) draft (inl same) =
    or_left (bytes_eq one.number draft.number) (has draft.number (map (λ (d : BaseRecord). d.number) drafts)) ((bytes_eq-Decides one.number draft.number).1 (ap (λ (d : BaseRecord). d.number) same))
in_has (one ∷ drafts) draft (inr h) = or_right (bytes_eq one.number draft.number) (has draft.number (map (λ (d : BaseRecord). d.number) drafts)) (in_has drafts draft h)

-- ---- those of both ends

pub drafts_covered : (seat : Seat) (draft : BaseRecord) → Contains seat.chooser.drafts draft → has draft.number (deliveries_of seat) ≡ true
drafts_covered seat draft there = has_right draft.number (numbers_of seat.desk.entries) (map (λ (d : BaseRecord). d.number) seat.chooser.drafts) (in_has seat.chooser.drafts draft (from_contains seat.chooser.drafts draft there))

max_either : (a b : ℕ) → 1 ≤ max a b → (1 ≤ a) ⊎ (1 ≤ b)
max_either a b some = elim (cases_eq a 0) [
  | inl none ↦ inr (omega (arith, none, some))
  | inr other ↦ inl (omega (arith, other))
]

pub known_covered : (near far : Seat) (number : List ℕ) → 1 ≤ max (sets_in number near.desk.entries) (sets_in number far.desk.entries) → has number (deliveries_of near ++ deliveries_of far) ≡ true
known_covered near far number some = elim (max_either (sets_in number near.desk.entries) (sets_in number far.desk.entries) some) [
  | inl here ↦
      has_left number (deliveries_of near) (deliveries_of far)
      (has_left number (numbers_of near.desk.entries) (map (λ (d : BaseRecord). d.number) near.chooser.drafts) (known_has number near.desk.entries here))
  | inr there ↦
      has_right number (deliveries_of near) (deliveries_of far)
      (has_left number (numbers_of far.desk.entries) (map (λ (d : BaseRecord). d.number) far.chooser.drafts) (known_has number far.desk.entries there))
]
