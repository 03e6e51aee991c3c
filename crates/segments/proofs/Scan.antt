-- One pass over a text finds where its parts end.
use Rattle.std.proofs.Common.{◌≡◌, ℕ, zero, suc, ◌+◌, ◌<◌, ◌≤◌, true, false, cond, List, [], ◌∷◌, ◌++◌, length, take, get_or, inl, inr, refl, sym, ◌∙◌, ap, arith, below_more, add-zero, append-nil, length-append}
use Rattle.std.specs.List.{before_first, slice_split, onto_first}
use Rattle.std.proofs.lemmas.Bool.{cases_Bool}
use Rattle.std.proofs.lemmas.Bool.Decides.{nat_tests}
use Rattle.std.proofs.lemmas.List.{length-take-le, take_all, take_at, take_more}
use Rattle.std.proofs.lemmas.List.Sums.{position_or_len_is}
use Rattle.segments.specs.SegmentSpelling.{is_star}
use Rattle.segments.specs.SegmentCut.{is_outside, body_length, parts_of}
use Rattle.segments.specs.PartEnds.{ends_from}

-- the places of the separators in a text that begins at this place
pub stars_from : ℕ → List ℕ → List ℕ
stars_from place [] = []
stars_from place (byte ∷ more) = cond (is_star byte) (place ∷ stars_from (place + 1) more) (stars_from (place + 1) more)

stars_from-push : (place : ℕ) (bytes : List ℕ) (byte : ℕ) → stars_from place (bytes ++ byte ∷ []) ≡ stars_from place bytes ++ cond (is_star byte) ((place + length bytes) ∷ []) []
unfolding stars_from
stars_from-push place [] byte = elim (cases_Bool (is_star byte)) [ inl star ↦ rw (star, add-zero) refl | inr other ↦ rw other refl ]
stars_from-push place (first ∷ more) byte =
    let later = stars_from-push (place + 1) more byte in
    let there : place + 1 + length more ≡ place + suc (length more) = omega arith in
    elim (cases_Bool (is_star first)) [
      | inl star ↦ rw (star, later, there) refl
      | inr other ↦ rw (other, later, there) refl
    ]

onto_first_ends : (place byte : ℕ) (parts : List (List ℕ)) → 0 < length parts → ends_from place (onto_first byte parts) ≡ ends_from (place + 1) parts
onto_first_ends place byte [] some = absurd (omega arith)
onto_first_ends place byte (part ∷ more) some =
    let e : place + suc (length part) ≡ place + 1 + length part = omega arith in
    rw e refl

some_parts : (bytes : List ℕ) → 0 < length (slice_split is_star bytes)
some_parts [] = omega arith
some_parts (byte ∷ more) =
    let rest = some_parts more in
    elim (cases_Bool (is_star byte)) [
      | inl star ↦ rw star (omega arith)
      | inr other ↦ rw other (some_onto byte (slice_split is_star more))
    ]
  where
    some_onto : (byte : ℕ) (parts : List (List ℕ)) → 0 < length (onto_first byte parts)
    some_onto byte [] = omega arith
    some_onto byte (part ∷ parts) = omega arith

pub some_of-parts : (bytes : List ℕ) → 0 < length (parts_of bytes)
unfolding parts_of
some_of-parts bytes = some_parts (before_first is_outside bytes)

-- the parts end at the separators, and the last where the text ends
ends_from-slice_split : (place : ℕ) (bytes : List ℕ) → ends_from place (slice_split is_star bytes) ≡ stars_from place bytes ++ (place + length bytes) ∷ []
unfolding stars_from
ends_from-slice_split place [] = refl
ends_from-slice_split place (byte ∷ more) =
    let later = ends_from-slice_split (place + 1) more in
    let there : place + 1 + length more ≡ place + suc (length more) = omega arith in
    elim (cases_Bool (is_star byte)) [
      | inl star ↦ rw (star, add-zero, later, there) refl
      | inr other ↦ rw (other, onto_first_ends place byte (slice_split is_star more) (some_parts more), later, there) refl
    ]

take_push : (n : ℕ) (xs : List ℕ) (y : ℕ) → take n (take n xs ++ y ∷ []) ≡ take n (xs ++ y ∷ [])
take_push zero xs y = refl
take_push (suc n) [] y = refl
take_push (suc n) (x ∷ xs) y = ap (λ l. x ∷ l) (take_push n xs y)

-- one end more, where there is room, and where there is none
pub taken_all : (ends : List ℕ) (place : ℕ) → length ends < 32 → take 32 (ends ++ place ∷ []) ≡ ends ++ place ∷ []
taken_all ends place room = take_all 32 (ends ++ place ∷ []) (omega (arith, length-append ends (place ∷ [])))

pub taken_full : (ends : List ℕ) (place : ℕ) → length ends ≡ 32 → take 32 (ends ++ place ∷ []) ≡ ends
taken_full ends place full = take_at ends (place ∷ []) 32 full

-- up to this place no byte is outside, and these are the first ends
pub record Scanned (front found : List ℕ) (place : ℕ) : Type 0 where
  pub within : place ≤ length front
  pub ends : found ≡ take 32 (stars_from 0 (take place front))
  pub inside : (k : ℕ) → k < place → is_outside (get_or front k 0) ≡ false

pub scanned_none : (front ends : List ℕ) → ends ≡ [] → Scanned front ends 0
unfolding stars_from
scanned_none front ends e = record { within = omega arith; ends = e; inside = λ k under. absurd (omega arith) }

stars_more : (front : List ℕ) (place : ℕ) → place < length front → stars_from 0 (take (place + 1) front) ≡ stars_from 0 (take place front) ++ cond (is_star (get_or front place 0)) (place ∷ []) []
stars_more front place within =
    let long : 0 + length (take place front) ≡ place = omega (arith, length-take-le place front) in
    ap (stars_from 0) (take_more front place 0 within) ∙ stars_from-push 0 (take place front) (get_or front place 0)
    ∙ ap (λ (n : ℕ). stars_from 0 (take place front) ++ cond (is_star (get_or front place 0)) (n ∷ []) []) long

star_inside : (byte : ℕ) → byte ≡ 42 → (is_outside byte ≡ false) × (is_star byte ≡ true)
star_inside byte e = grind (arith, nat_tests)

no_star : (byte : ℕ) → (byte ≡ 42 → ⊥) → is_star byte ≡ false
no_star byte other = grind (arith, nat_tests)

-- one byte more: a separator, or another
pub scanned_star : (front ends : List ℕ) (place : ℕ) → Scanned front ends place → place < length front → get_or front place 0 ≡ 42 → Scanned front (take 32 (ends ++ place ∷ [])) (place + 1)
scanned_star front ends place s within star =
    let is = star_inside (get_or front place 0) star in
    let more : stars_from 0 (take (place + 1) front) ≡ stars_from 0 (take place front) ++ place ∷ [] = rw is.1 at (stars_more front place within) in
    record { within = omega arith; ends = rw (s.ends, more) (take_push 32 (stars_from 0 (take place front)) place); inside = below_more _ _ s.inside is.0 }

pub scanned_other : (front ends : List ℕ) (place : ℕ) → Scanned front ends place → place < length front → is_outside (get_or front place 0) ≡ false → (get_or front place 0 ≡ 42 → ⊥) → Scanned front ends (place + 1)
scanned_other front ends place s within inside other =
    let is = no_star (get_or front place 0) other in
    let more : stars_from 0 (take (place + 1) front) ≡ stars_from 0 (take place front) ++ [] = rw is at (stars_more front place within) in
    record { within = omega arith; ends = s.ends ∙ ap (take 32) (sym (more ∙ append-nil (stars_from 0 (take place front)))); inside = below_more _ _ s.inside inside }

-- at the first byte that is outside, or at the end, all parts are found
pub scanned_all : (front ends : List ℕ) (place : ℕ) → Scanned front ends place → (place < length front → is_outside (get_or front place 0) ≡ true)
    → (body_length front ≡ place) × (take 32 (ends ++ place ∷ []) ≡ take 32 (ends_from 0 (parts_of front)))
unfolding parts_of
scanned_all front ends place s here =
    let within = s.within in
    let found : body_length front ≡ place = position_or_len_is is_outside front place 0 within s.inside here in
    let long : 0 + length (take place front) ≡ place = omega (arith, length-take-le place front) in
    let all : ends_from 0 (slice_split is_star (take place front)) ≡ stars_from 0 (take place front) ++ place ∷ [] =
    ends_from-slice_split 0 (take place front) ∙ ap (λ (n : ℕ). stars_from 0 (take place front) ++ n ∷ []) long in
    let body : ends_from 0 (slice_split is_star (take (body_length front) front)) ≡ ends_from 0 (slice_split is_star (take place front)) =
    ap (λ (n : ℕ). ends_from 0 (slice_split is_star (take n front))) found in
    (found, ap (λ (l : List ℕ). take 32 (l ++ place ∷ [])) s.ends ∙ take_push 32 (stars_from 0 (take place front)) place ∙ ap (take 32) (sym (body ∙ all)))
