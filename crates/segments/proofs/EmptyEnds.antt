-- An id and elements without the empty ones at their end say the same.
use Rattle.std.proofs.Common.{◌≡◌, ℕ, zero, suc, ◌≤◌, List, [], ◌∷◌, ◌++◌, length, drop, get_or, refl, sym, ◌∙◌, ap, arith, append-nil}
use Rattle.std.specs.List.{All, join_with_byte}
use Rattle.std.proofs.lemmas.List.Elements.{All-cons, All-nil, All-head, All-tail}
use Rattle.segments.specs.Elements.{or_star, without_end_stars}
use Rattle.segments.specs.SegmentWriting.{in_front, without_empty_end}

in_front_some : (part next : List ℕ) (more : List (List ℕ)) → in_front part (next ∷ more) ≡ part ∷ next ∷ more
in_front_some [] next more = refl
in_front_some (byte ∷ part) next more = refl

in_front_push : (part last : List ℕ) (parts : List (List ℕ)) → in_front part (parts ++ last ∷ []) ≡ part ∷ (parts ++ last ∷ [])
in_front_push part last [] = in_front_some part last []
in_front_push part last (next ∷ more) = in_front_some part next (more ++ last ∷ [])

-- an element that is not empty stays, and those before it
pub trim_filled : (parts : List (List ℕ)) (byte : ℕ) (part : List ℕ) → without_empty_end (parts ++ (byte ∷ part) ∷ []) ≡ parts ++ (byte ∷ part) ∷ []
trim_filled [] byte part = refl
trim_filled (first ∷ parts) byte part = ap (in_front first) (trim_filled parts byte part) ∙ in_front_push first (byte ∷ part) parts

-- an empty one goes
pub trim_empty : (parts : List (List ℕ)) → without_empty_end (parts ++ [] ∷ []) ≡ without_empty_end parts
trim_empty [] = refl
trim_empty (first ∷ parts) = ap (in_front first) (trim_empty parts)

twice_in_front : (part : List ℕ) (parts : List (List ℕ)) → without_empty_end parts ≡ parts → without_empty_end (in_front part parts) ≡ in_front part parts
twice_in_front [] [] e = refl
twice_in_front [] (next ∷ more) e = ap (in_front []) e
twice_in_front (byte ∷ part) parts e = ap (in_front (byte ∷ part)) e

pub trim_twice : (parts : List (List ℕ)) → without_empty_end (without_empty_end parts) ≡ without_empty_end parts
trim_twice [] = refl
trim_twice (part ∷ more) = twice_in_front part (without_empty_end more) (trim_twice more)

-- each element is the same, since one past the last is empty
element_in_front : (part : List ℕ) (parts : List (List ℕ)) (number : ℕ) → get_or (in_front part parts) number [] ≡ get_or (part ∷ parts) number []
element_in_front [] [] zero = refl
element_in_front [] [] (suc number) = refl
element_in_front [] (next ∷ more) number = refl
element_in_front (byte ∷ part) parts number = refl

element_behind : (part : List ℕ) (some other : List (List ℕ)) (number : ℕ) → ((n : ℕ) → get_or some n [] ≡ get_or other n []) → get_or (part ∷ some) number [] ≡ get_or (part ∷ other) number []
element_behind part some other zero same = refl
element_behind part some other (suc number) same = same number

pub trim_element : (parts : List (List ℕ)) (number : ℕ) → get_or (without_empty_end parts) number [] ≡ get_or parts number []
trim_element [] number = refl
trim_element (part ∷ more) number = element_in_front part (without_empty_end more) number ∙ element_behind part (without_empty_end more) more number (trim_element more)

-- the elements from a number on
drop_in_front : (part : List ℕ) (parts : List (List ℕ)) (number : ℕ) → drop (suc number) (in_front part parts) ≡ drop number parts
drop_in_front [] [] zero = refl
drop_in_front [] [] (suc number) = refl
drop_in_front [] (next ∷ more) number = refl
drop_in_front (byte ∷ part) parts number = refl

pub trim_drop : (number : ℕ) (parts : List (List ℕ)) → drop number (without_empty_end parts) ≡ without_empty_end (drop number parts)
trim_drop zero parts = refl
trim_drop (suc number) [] = refl
trim_drop (suc number) (part ∷ more) = drop_in_front part (without_empty_end more) number ∙ trim_drop number more

pub length_in_front : (part : List ℕ) (parts : List (List ℕ)) → length (in_front part parts) ≤ suc (length parts)
length_in_front [] [] = omega arith
length_in_front [] (next ∷ more) = omega arith
length_in_front (byte ∷ part) parts = omega arith

pub trim_length : (parts : List (List ℕ)) → length (without_empty_end parts) ≤ length parts
trim_length [] = omega arith
trim_length (part ∷ more) =
    let front = length_in_front part (without_empty_end more) in
    let rest = trim_length more in
    omega arith

module _ (P : List ℕ → Type 0) where
  all_in_front : (part : List ℕ) (parts : List (List ℕ)) → P part → All P parts → All P (in_front part parts)
  all_in_front [] [] p h = All-nil P
  all_in_front [] (next ∷ more) p h = All-cons P [] (next ∷ more) p h
  all_in_front (byte ∷ part) parts p h = All-cons P (byte ∷ part) parts p h

  pub trim_all : (parts : List (List ℕ)) → All P parts → All P (without_empty_end parts)
  trim_all [] h = All-nil P
  trim_all (part ∷ more) h = all_in_front part (without_empty_end more) (All-head P part more h) (trim_all more (All-tail P part more h))

-- ---- joined

stars_behind : (front x y : List ℕ) → without_end_stars x ≡ without_end_stars y → without_end_stars (front ++ x) ≡ without_end_stars (front ++ y)
stars_behind [] x y e = e
stars_behind (byte ∷ front) x y e = ap (or_star byte) (stars_behind front x y e)

stars_alone : (part x : List ℕ) → without_end_stars x ≡ [] → without_end_stars (part ++ 42 ∷ x) ≡ without_end_stars part
stars_alone part x e = stars_behind part (42 ∷ x) [] (ap (or_star 42) e) ∙ ap without_end_stars (append-nil part)

join_alone : (part : List ℕ) → without_end_stars (join_with_byte 42 (in_front part [])) ≡ without_end_stars part
join_alone [] = refl
join_alone (byte ∷ part) = refl

join_in_front : (part x : List ℕ) (parts : List (List ℕ)) → without_end_stars (join_with_byte 42 parts) ≡ without_end_stars x → without_end_stars (join_with_byte 42 (in_front part parts)) ≡ without_end_stars (part ++ 42 ∷ x)
join_in_front part x [] e = join_alone part ∙ sym (stars_alone part x (sym e))
join_in_front part x (next ∷ more) e =
    ap (λ (parts : List (List ℕ)). without_end_stars (join_with_byte 42 parts)) (in_front_some part next more)
    ∙ stars_behind part (42 ∷ join_with_byte 42 (next ∷ more)) (42 ∷ x) (ap (or_star 42) e)

pub trim_joined : (parts : List (List ℕ)) → without_end_stars (join_with_byte 42 (without_empty_end parts)) ≡ without_end_stars (join_with_byte 42 parts)
trim_joined [] = refl
trim_joined (part ∷ []) = join_alone part
trim_joined (part ∷ next ∷ more) = join_in_front part (join_with_byte 42 (next ∷ more)) (without_empty_end (next ∷ more)) (trim_joined (next ∷ more))

pub trim_tail : (number : ℕ) (parts : List (List ℕ)) → without_end_stars (join_with_byte 42 (drop number (without_empty_end parts))) ≡ without_end_stars (join_with_byte 42 (drop number parts))
trim_tail number parts = ap (λ (l : List (List ℕ)). without_end_stars (join_with_byte 42 l)) (trim_drop number parts) ∙ trim_joined (drop number parts)
