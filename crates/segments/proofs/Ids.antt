-- Ids are short words.
use Rattle.std.proofs.Common.{◌≡◌, ◌≢◌, ℕ, ◌≤◌, ◌&&◌, ◌||◌, Bool, true, false, not, nat_le, List, [], ◌∷◌, length, position, None, refl, arith, IsTrue}
use Rattle.std.proofs.lemmas.Bool.Decides.{nat_tests}
use Rattle.std.specs.Char.{is_ascii_uppercase}
use Rattle.std.specs.List.{AllPass, list_all, prefix_len}
use Rattle.std.proofs.lemmas.List.Sums.{list_all-from_AllPass}
use Rattle.dsd_values.specs.Reading.{is_no_element_byte}
use Rattle.segments.specs.SegmentSpelling.{is_id, is_id_byte, is_element_character, is_inside, is_star}

pub id_short : (id : List ℕ) → IsTrue (is_id id) → length id ≤ 3
id_short [] e = cc
id_short (b ∷ more) e = grind (arith, nat_tests)

-- an id by its length
pub id_of_two : (first second : ℕ) → is_id (first ∷ second ∷ []) ≡ (is_ascii_uppercase first && is_id_byte second)
id_of_two first second = by_case (is_ascii_uppercase first) (is_id_byte second)
  where
    by_case : (a b : Bool) → (a && (b && true) && true && true) ≡ (a && b)
    by_case true true = refl
    by_case true false = refl
    by_case false b = refl

pub id_of_three : (first second third : ℕ) → is_id (first ∷ second ∷ third ∷ []) ≡ (is_ascii_uppercase first && is_id_byte second && is_id_byte third)
id_of_three first second third = by_case (is_ascii_uppercase first) (is_id_byte second) (is_id_byte third)
  where
    by_case : (a b c : Bool) → (a && (b && (c && true)) && true && true) ≡ (a && b && c)
    by_case true true true = refl
    by_case true true false = refl
    by_case true false c = refl
    by_case false b c = refl

pub no_id : (id : List ℕ) → length id ≢ 2 → length id ≢ 3 → is_id id ≡ false
no_id [] two three = refl
no_id (first ∷ more) two three =
    let short : (nat_le 1 (length more) && nat_le (length more) 2) ≡ false = grind (arith, nat_tests) in
    by_case (is_ascii_uppercase first) (list_all is_id_byte more) (nat_le 1 (length more)) (nat_le (length more) 2) short
  where
    by_case : (a b c d : Bool) → (c && d) ≡ false → (a && b && c && d) ≡ false
    by_case true true c d e = e
    by_case true false c d e = refl
    by_case false b c d e = refl

and_both : (a b : Bool) → (a && b) ≡ true → (a ≡ true) × (b ≡ true)
and_both true b e = (refl, e)
and_both false b e = cc

inside_is : (a b : Bool) → (a && not b) ≡ true → not (not a || b) ≡ true
inside_is true true e = cc
inside_is true false e = refl
inside_is false b e = cc

all_inside : (text : List ℕ) → list_all is_element_character text ≡ true → prefix_len (λ (b : ℕ). not (is_no_element_byte b)) text ≡ length text
all_inside [] e = refl
all_inside (b ∷ more) e =
    let both = and_both (is_element_character b) (list_all is_element_character more) e in
    let test : not (is_no_element_byte b) ≡ true = inside_is (is_inside b) (is_star b) both.0 in
    rw test (omega (arith, all_inside more both.1))

none_there : (text : List ℕ) → prefix_len (λ (b : ℕ). not (is_no_element_byte b)) text ≡ length text → position is_no_element_byte text ≡ None
none_there text e = grind (arith, nat_tests)

pub no_place : (text : List ℕ) → AllPass is_element_character text → position is_no_element_byte text ≡ None
no_place text e = none_there text (all_inside text (list_all-from_AllPass is_element_character text e))
