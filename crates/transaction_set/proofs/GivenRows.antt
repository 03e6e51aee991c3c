-- A segment that is begun is given elements, one after another.
use Rattle.std.proofs.Common.{◌≡◌, ℕ, ◌+◌, ◌<◌, ◌≤◌, true, false, List, [], ◌∷◌, ◌++◌, length, map, take, drop, get_or, position, Bor, Option, Some, None, IsSome, refl, sym, ◌∙◌, ap, subst, arith, append_assoc, length-append}
use Rattle.std.specs.List.{All, position_or_len, slice_split}
use Rattle.std.proofs.lemmas.Bool.Decides.{nat_tests}
use Rattle.std.proofs.lemmas.List.{get_or-map, length-map, take_more}
use Rattle.std.proofs.lemmas.List.Elements.{All-get_or, All-head, All-tail}
use Rattle.std.proofs.lemmas.List.Splits.{slice_split_first, slice_split_none}
use Rattle.std.proofs.lemmas.List.Sums.{fails_before_first}
use Rattle.dsd_values.specs.Reading.{IsElementText, is_no_element_byte}
use Rattle.dsd_values.proofs.Digits.{none_all}
use Rattle.dsd_values.proofs.Refusals.{none_outside}
use Rattle.segments.specs.SegmentSpelling.{IsPart, is_element_character, is_star}
use Rattle.segments.specs.SegmentWriting.{Written, given, parts_of_begun}
use Rattle.segments.specs.declared.segment.TheConstants.{SEGMENT_ELEMENTS}

-- ---- parts and element texts

character_element : (byte : ℕ) → is_element_character byte ≡ true → is_no_element_byte byte ≡ false
character_element byte h = grind (arith, nat_tests)

pub part_element : (text : List ℕ) → IsPart text → IsElementText text
part_element text h = none_outside is_no_element_byte (λ byte. is_element_character byte ≡ true) character_element text h

-- ---- at the first star

pub some_star : (text : List ℕ) (place : ℕ) → position is_star text ≡ Some place → (place ≡ position_or_len is_star text) × (place < length text)
some_star text place e = grind (arith, nat_tests)

pub no_star_place : (text : List ℕ) → position is_star text ≡ None → length text ≤ position_or_len is_star text
no_star_place text e = none_all is_star text e

pub split_at : (text : List ℕ) (place : ℕ) → position is_star text ≡ Some place → slice_split is_star text ≡ take place text ∷ slice_split is_star (drop (place + 1) text)
split_at text place e =
    let at = some_star text place e in
    let inside : position_or_len is_star text < length text = omega arith in
    slice_split_first is_star text 0 inside ∙ ap (λ (k : ℕ). take k text ∷ slice_split is_star (drop (k + 1) text)) (sym at.0)

pub split_whole : (text : List ℕ) → position is_star text ≡ None → slice_split is_star text ≡ text ∷ []
split_whole text e =
    let far = no_star_place text e in
    slice_split_none is_star text (λ k d here. fails_before_first is_star text k d (omega arith))

-- ---- one element after another

-- of these elements so many are given
pub record IsGivenTo (start now : Written) (elements : List (List ℕ)) (count : ℕ) : Type 0 where
  pub text : now.text ≡ start.text
  pub begun : now.begun ≡ Some (parts_of_begun start.begun ++ take count elements)

pub given_next : (start old new : Written) (elements : List (List ℕ)) (element : List ℕ) (count : ℕ) → IsGivenTo start old elements count → count < length elements → element ≡ get_or elements count [] → new ≡ given element old → IsGivenTo start new elements (count + 1)
given_next start old new elements element count g inside is e = record {
  text = ap (λ (w : Written). w.text) e ∙ g.text;
  begun =
      ap (λ (w : Written). w.begun) e
      ∙ ap (λ (b : Option (List (List ℕ))). Some (parts_of_begun b ++ element ∷ [])) g.begun
      ∙ ap (λ (l : List (List ℕ)). Some l) (append_assoc (parts_of_begun start.begun) (take count elements) (element ∷ []))
      ∙ ap (λ (x : List ℕ). Some (parts_of_begun start.begun ++ (take count elements ++ x ∷ []))) is
      ∙ ap (λ (l : List (List ℕ)). Some (parts_of_begun start.begun ++ l)) (sym (take_more elements count [] inside));
}

abbrev seen : List ℕ → Option (List (List ℕ)) → Written
seen text begun = record { text = text; begun = begun }

-- the element at a place of a list of slices
pub slice_at : (slices : List (Bor (List ℕ))) (place : ℕ) (d : Bor (List ℕ)) → place < length slices → (get_or slices place d).now ≡ get_or (map (λ (e : Bor (List ℕ)). e.now) slices) place []
slice_at slices place d inside = sym (get_or-map (λ (e : Bor (List ℕ)). e.now) slices place d [] inside)

pub slice_part : (slices : List (Bor (List ℕ))) (place : ℕ) (d : Bor (List ℕ)) → place < length slices → All IsPart (map (λ (e : Bor (List ℕ)). e.now) slices) → IsElementText (get_or slices place d).now
slice_part slices place d inside all =
    let there : place < length (map (λ (e : Bor (List ℕ)). e.now) slices) = omega (arith, length-map slices (λ (e : Bor (List ℕ)). e.now)) in
    subst IsElementText (sym (slice_at slices place d inside)) (part_element (get_or (map (λ (e : Bor (List ℕ)). e.now) slices) place []) (All-get_or IsPart (map (λ (e : Bor (List ℕ)). e.now) slices) place [] there all))

pub slice_given : (start old new : Written) (slices : List (Bor (List ℕ))) (place : ℕ) (d : Bor (List ℕ)) → IsGivenTo start old (map (λ (e : Bor (List ℕ)). e.now) slices) place → place < length slices
    → new ≡ given (get_or slices place d).now old → IsGivenTo start new (map (λ (e : Bor (List ℕ)). e.now) slices) (place + 1)
slice_given start old new slices place d g inside e =
    let there : place < length (map (λ (e : Bor (List ℕ)). e.now) slices) = omega (arith, length-map slices (λ (e : Bor (List ℕ)). e.now)) in
    given_next start old new (map (λ (e : Bor (List ℕ)). e.now) slices) (get_or slices place d).now place g there (slice_at slices place d inside) e

-- ---- parts of a text, one after another

pub first_part : (text part : List ℕ) (rest : List (List ℕ)) → slice_split is_star text ≡ part ∷ rest → All IsPart (slice_split is_star text) → IsElementText part
first_part text part rest e all = part_element part (All-head IsPart part rest (subst (All IsPart) e all))

-- what a call on the rest asks
pub record IsRest (now : Written) (parts : List (List ℕ)) : Type 0 where
  pub begun : IsSome now.begun
  pub characters : All IsPart parts
  pub few : length (parts_of_begun now.begun) + length parts ≤ SEGMENT_ELEMENTS + 1

pub rest_asked : (text part : List ℕ) (rest : List (List ℕ)) (old now : Written) → slice_split is_star text ≡ part ∷ rest → All IsPart (slice_split is_star text)
    → length (parts_of_begun old.begun) + length (slice_split is_star text) ≤ SEGMENT_ELEMENTS + 1 → now ≡ given part old → IsRest now rest
rest_asked text part rest old now e all few n =
    let same = ap (λ (w : Written). length (parts_of_begun w.begun)) n in
    let size = length-append (parts_of_begun old.begun) (part ∷ []) in
    let many = ap length e in
    record {
      begun = subst (λ (w : Written). IsSome w.begun) (sym n) refl;
      characters = All-tail IsPart part rest (subst (All IsPart) e all);
      few = omega arith;
    }
